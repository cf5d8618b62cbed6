-- `write_reel::Target::put_fields` meets its contract. Assumes nothing.
use Rattle.fields.specs.Fields.{fields_length}
use Rattle.fields.proofs.FieldsLaws.{length_more}
use Rattle.formats.specs.Codes.{code_no}
use Rattle.write_reel.specs.Copied.{samples_copied, samples_changed_at, fields_words, fields_changed_at}
use Rattle.write_reel.proofs.CopiedLaws.{size_samples_copied, samples_most, words_none, words_more, changed_none, changed_more, size_words}
use Rattle.numbers.proofs.Filling.{Filling, start as begin, finish, again, from, lend}
use borrow.Rule.Slice.PartMut.{put_mid}
use lib.ListN.{length}
use native.Mathlib.Nat.{add-mul, zero-mul, mul-le-mul_right}
use Prim.Native.Nat.{ℕ, ◌+◌, ◌-◌, ◌*◌, ◌≤◌, ◌<◌, min}
use mathlib.Core.List.{◌++◌}
use mathlib.Core.Path.{◌≡◌, sym, ap, ap₂, ◌∙◌}
use native.Mathlib.Omega.{arith}
use Rattle.write_reel.proofs.Target.put_fields.Given.{Over}
use Rattle.write_reel.proofs.Target.put_fields.Goals.{After-next_count-count, After-put_samples-changed}
use Rattle.write_reel.proofs.Target.put_fields.Goals as goal

-- the field at hand in the record
field : (g : Over) (c : After-next_count-count g) → let a = c.args in let left = a.self.samples - c.loop-done.done in fields_length 6 a.c left ≡ 3 + c.next_count-count.result * 6 + fields_length 6 a.c (left - a.c)
field g c =
    let a = c.args in
    let left = a.self.samples - c.loop-done.done in
    length_more a.c c.requires.0 6 left (omega arith) ∙ ap (λ (x : ℕ). 3 + x * 6 + fields_length 6 a.c (left - a.c)) (sym c.next_count-count.ensures)

pub loop-done-init : goal.loop-done-init
loop-done-init g c =
    let a = c.args in
    let o = a.self in
    let r = a.«record».now in
    let near = g.W.Way.near in
    let all : o.samples ≡ o.samples - 0 = omega arith in
    let none : 0 ≡ min 0 o.samples * o.width = omega (arith, zero-mul o.width, let z : min 0 o.samples ≡ 0 = omega arith in ap (λ (x : ℕ). x * o.width) z) in
    let w = begin _ a.out.now (c.requires.2 ∙ ap (λ (x : ℕ). o.samples * x) o.width_is ∙ sym (size_words near r (code_no o.code) a.c c.requires.0 o.samples a.start)) in
    record {
      room = omega (arith, c.requires.1, ap (fields_length 6 a.c) all);
      filling = again (from w none) (ap (λ (x : ℕ). fields_words near r (code_no o.code) a.c x a.start) all);
      few = omega arith;
      counted = omega (arith, ap (λ (x : ℕ). fields_changed_at near r (code_no o.code) a.c x a.start) all);
    }

pub put_samples-changed-requires : goal.put_samples-changed-requires
put_samples-changed-requires g c =
    let o = c.args.self in
    let l = c.loop-done in
    let count = c.next_count-count.result in
    let within : (l.done + count) * o.width ≤ o.samples * o.width = mul-le-mul_right o.width (omega (arith, c.next_count-count.ensures)) in (
      omega (arith, l.invariant.room, field g (goal.at.put_samples-changed-requires g c).After-next_count-count),
      omega (arith, within, add-mul l.done count o.width, c.requires.2, ap (λ (x : ℕ). count * x) o.width_is),
    )

pub overflow_add-changed : goal.overflow_add-changed
overflow_add-changed g c =
    let a = c.args in
    let l = c.loop-done in
    omega (arith, c.next_count-count.ensures, l.invariant.few, c.put_samples-changed.ensures.0, samples_most g.W.Way.near a.«record».now (code_no a.self.code) c.next_count-count.result (l.at + 3))

-- what holds behind the field
turn : (g : Over) (c : After-put_samples-changed g)
    → let a = c.args in let o = a.self in let r = a.«record».now in let l = c.loop-done in let count = c.next_count-count.result in
    let near = g.W.Way.near in let code = code_no o.code in let left = o.samples - (l.done + a.c) in let behind = l.at + (3 + count * 6) in
    (behind + fields_length 6 a.c left ≤ length r)
    × Filling (fields_words near r code a.c o.samples a.start) (put_mid (l.done * o.width) (l.done * o.width + count * o.width - l.done * o.width) l.out c.put_samples-changed.new.out) (min (l.done + a.c) o.samples * o.width) (fields_words near r code a.c left behind)
    × (l.changed + c.put_samples-changed.result + left ≤ o.samples)
    × (l.changed + c.put_samples-changed.result + fields_changed_at near r code a.c left behind ≡ fields_changed_at near r code a.c o.samples a.start)
turn g c =
    let a = c.args in
    let o = a.self in
    let r = a.«record».now in
    let l = c.loop-done in
    let near = g.W.Way.near in
    let code = code_no o.code in
    let count = c.next_count-count.result in
    let n = o.samples - l.done in
    let left = o.samples - (l.done + a.c) in
    let behind = l.at + (3 + count * 6) in
    let some : 0 < n = omega arith in
    let q : count ≡ min a.c n = c.next_count-count.ensures in
    let less : n - a.c ≡ left = omega arith in
    let more : fields_words near r code a.c n l.at ≡ samples_copied near r code count (l.at + 3) ++ fields_words near r code a.c left behind =
    words_more near r code a.c c.requires.0 n l.at some
    ∙ ap₂ (λ (x y : ℕ). samples_copied near r code x (l.at + 3) ++ fields_words near r code a.c y (l.at + (3 + x * 6))) (sym q) less in
    let sums : fields_changed_at near r code a.c n l.at ≡ samples_changed_at near r code count (l.at + 3) + fields_changed_at near r code a.c left behind =
    changed_more near r code a.c c.requires.0 n l.at some
    ∙ ap₂ (λ (x y : ℕ). samples_changed_at near r code x (l.at + 3) + fields_changed_at near r code a.c y (l.at + (3 + x * 6))) (sym q) less in
    let here : min l.done o.samples ≡ l.done = omega arith in
    let there : min (l.done + a.c) o.samples ≡ l.done + count = omega (arith, q) in
    let wide = ap (λ (x : ℕ). count * x) o.width_is in
    let f = lend (samples_copied near r code count (l.at + 3)) (fields_words near r code a.c left behind) (l.done * o.width + count * o.width)
    (again (from l.invariant.filling (ap (λ (x : ℕ). x * o.width) here)) more) (omega arith) (size_samples_copied near r code count (l.at + 3) ∙ sym wide ∙ omega arith) c.put_samples-changed.ensures.1 in
    let k = c.put_samples-changed.ensures.0 in (
      omega (arith, l.invariant.room, field g (goal.at.After-put_samples-changed g c).After-next_count-count, ap (fields_length 6 a.c) less),
      from f (sym (ap (λ (x : ℕ). x * o.width) there ∙ add-mul l.done count o.width)),
      omega (arith, q, l.invariant.few, k, samples_most near r code count (l.at + 3)),
      omega (arith, l.invariant.counted, k, sums),
    )

pub loop-done-preserved : goal.loop-done-preserved
loop-done-preserved g c =
    let t = turn g (goal.at.loop-done-preserved g c).After-put_samples-changed in
    record { room = t.0; filling = t.1; few = t.2; counted = t.3 }

pub returns : goal.returns
returns g c =
    let a = c.args in
    let o = a.self in
    let l = c.loop-done in
    let none : o.samples - l.done ≤ 0 = omega arith in (
      omega (arith, l.invariant.counted, changed_none g.W.Way.near a.«record».now (code_no o.code) a.c c.requires.0 (o.samples - l.done) l.at none),
      finish l.invariant.filling (words_none g.W.Way.near a.«record».now (code_no o.code) a.c c.requires.0 (o.samples - l.done) l.at none),
    )

pub returns-2 : goal.returns-2
returns-2 g c =
    let a = c.args in
    let o = a.self in
    let l = c.loop-done in
    let t = turn g (goal.at.returns-2 g c).After-put_samples-changed in
    let left = o.samples - (l.done + a.c) in
    let behind = l.at + (3 + c.next_count-count.result * 6) in
    let none : left ≤ 0 = omega arith in (
      omega (arith, t.3, changed_none g.W.Way.near a.«record».now (code_no o.code) a.c c.requires.0 left behind none),
      finish t.1 (words_none g.W.Way.near a.«record».now (code_no o.code) a.c c.requires.0 left behind none),
    )
