-- `read_reel::put_samples` meets its contract. Assumes nothing.
use Rattle.std.proofs.Common.{◌≡◌, ℕ, ◌+◌, ◌-◌, ◌*◌, ◌<◌, ◌++◌, length, sym, ap, ap₂, ◌∙◌, arith}
use Prim.Native.Nat.{min}
use native.Mathlib.Nat.{add-mul, zero-mul}
use Rattle.fields.specs.Fields.{fields_in}
use Rattle.formats.specs.Codes.{sample_bytes}
use Rattle.record.specs.Record.{field_samples}
use Rattle.read_reel.specs.Copied.{field_copied, samples_copied}
use Rattle.read_reel.proofs.CopiedLaws.{size_field, samples_none, samples_more, size_in_fields}
use Rattle.numbers.proofs.Filling.{start as begin, finish, again, from, lend}
use Rattle.read_reel.proofs.put_samples.Goals.{After-next_count-count}
use Rattle.read_reel.proofs.put_samples.Goals as goal

pub loop-f-init : goal.loop-f-init
loop-f-init c =
    let a = c.args in
    let o = a.own in
    let w = begin (samples_copied a.reel.now o.code o.samples a.start) a.out.now (c.requires.1 ∙ sym (size_in_fields a.reel.now o.code o.samples a.start)) in
    let n : o.samples ≡ o.samples - 0 = omega arith in
    let p : a.start ≡ a.start + 0 * o.width = omega (arith, zero-mul o.width) in
    again (from w (omega arith)) (ap₂ (samples_copied a.reel.now o.code) n p)

-- samples are left for the field
some : (c : After-next_count-count) → c.loop-f.f * field_samples < c.args.own.samples
some c = omega arith

pub slice_bounds-put_field-end : goal.slice_bounds-put_field-end
unfolding fields_in
slice_bounds-put_field-end c = omega arith

pub loop-f-preserved : goal.loop-f-preserved
unfolding fields_in
loop-f-preserved c =
    let g = (goal.at.loop-f-preserved c).After-next_count-count in
    let a = c.args in
    let o = a.own in
    let f = c.loop-f.f in
    let s = a.reel.now in
    let n = o.samples - f * field_samples in
    let at = a.start + f * field_samples * o.width in
    let l = some g in
    let count = c.next_count-count.result in
    let size = c.requires.1 in
    let at_o : min (f * 36003) (length c.loop-f.out) ≡ f * 36003 = omega arith in
    let n_next : n - field_samples ≡ o.samples - (f + 1) * field_samples = omega arith in
    let wide : field_samples * sample_bytes o.code ≡ field_samples * o.width = ap (λ (x : ℕ). field_samples * x) (sym o.width_is) in
    let step : (f + 1) * field_samples ≡ f * field_samples + field_samples = omega arith in
    let p_next : at + field_samples * sample_bytes o.code ≡ a.start + (f + 1) * field_samples * o.width = omega (arith, wide, ap (λ (x : ℕ). x * o.width) step, add-mul (f * field_samples) field_samples o.width) in
    let q : min field_samples n ≡ count = sym c.next_count-count.ensures in
    let more = samples_more s o.code n at (omega arith)
    ∙ ap (λ (x : ℕ). field_copied s o.code x at ++ samples_copied s o.code (n - field_samples) (at + field_samples * sample_bytes o.code)) q
    ∙ ap₂ (λ (x y : ℕ). field_copied s o.code count at ++ samples_copied s o.code x y) n_next p_next in
    let w = lend (field_copied s o.code count at) (samples_copied s o.code (o.samples - (f + 1) * field_samples) (a.start + (f + 1) * field_samples * o.width)) (f * 36003 + (3 + count * 6))
    (again (from c.loop-f.invariant at_o) more) (omega arith) (size_field s o.code count at ∙ omega arith) c.put_field.ensures in
    from w (omega (arith, w.size, c.loop-f.invariant.size))

pub returns : goal.returns
returns c =
    let a = c.args in
    let o = a.own in
    let f = c.loop-f.f in
    finish c.loop-f.invariant (samples_none a.reel.now o.code (o.samples - f * field_samples) (a.start + f * field_samples * o.width) (omega arith))
