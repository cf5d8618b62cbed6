-- `write_reel::Target::put_traces` meets its contract. Assumes nothing.
use Rattle.write_reel.proofs.CopiedLaws.{size_trace, size_traces, copied_none, copied_more, trace_most, traces_none, traces_more}
use Rattle.write_reel.specs.Copied.{reel_trace_copied, trace_changed_at, traces_copied, traces_changed_at}
use Rattle.record.specs.Kind.{tag04}
use Rattle.record.specs.Form.{behind_trace_in, trace_place_in, trace_place}
use Rattle.record.proofs.FormLaws.{place_next, place_rises, place_holds}
use Rattle.formats.specs.Codes.{code_no}
use Rattle.reel.specs.Layout.{stride}
use Rattle.numbers.proofs.Filling.{start as begin, finish, again, from, lend}
use lib.ListN.{length}
use native.Mathlib.Nat.{add-mul, zero-mul, mul-le-mul_right}
use Prim.Native.Nat.{ℕ, ◌+◌, ◌-◌, ◌*◌, ◌<◌, ◌≤◌}
use mathlib.Core.List.{List}
use mathlib.Core.Path.{◌≡◌, refl, sym, ap, subst, ◌∙◌}
use native.Mathlib.Omega.{arith}
use Rattle.write_reel.proofs.Target.put_traces.Given.{Over}
use Rattle.write_reel.proofs.Target.put_traces.Goals.{After-stride_at-at}
use Rattle.write_reel.proofs.Target.put_traces.Goals as goal

-- the trace at hand ends within the record
ends : (s : List ℕ) (n t j : ℕ) → j < t → trace_place s n t ≤ length s → behind_trace_in tag04 s n (trace_place s n j) ≤ length s
ends s n t j some room =
    let last : j + 1 + (t - (j + 1)) ≡ t = omega arith in
    let up : trace_place s n (j + 1) ≤ trace_place s n (j + 1 + (t - (j + 1))) = place_rises tag04 s n (j + 1) (t - (j + 1)) in
    omega (arith, place_next tag04 s n j, up, ap (trace_place s n) last, room)

-- j parts of one size and one more
next : (w j : ℕ) → j * w + w ≡ (j + 1) * w
next w j = omega (arith, add-mul j 1 w)

inside : (t w j : ℕ) → j < t → j * w + w ≤ t * w
inside t w j h = omega (arith, next w j, let q : (j + 1) * w ≤ t * w = mul-le-mul_right w (omega arith) in q)

pub loop-j-init : goal.loop-j-init
unfolding trace_place_in
loop-j-init g c =
    let a = c.args in
    let o = a.self in
    let r = a.«record».now in
    let all : o.traces ≡ o.traces - 0 = omega arith in
    let w = begin _ a.out.now (c.requires.1 ∙ ap (λ (x : ℕ). o.traces * x) (o.size_is ∙ ap (stride o.samples) o.width_is) ∙ sym (size_traces g.W.Way.near r (code_no o.code) o.samples o.traces 0)) in
    record {
      place = refl;
      filling = again (from w (omega (arith, zero-mul o.size))) (ap (λ (x : ℕ). traces_copied g.W.Way.near r (code_no o.code) o.samples x 0) all);
      few = omega arith;
      counted = omega (arith, ap (λ (x : ℕ). traces_changed_at g.W.Way.near r (code_no o.code) o.samples x 0) all);
    }

pub put_trace-count-requires : goal.put_trace-count-requires
put_trace-count-requires g c =
    let a = c.args in
    let o = a.self in
    let r = a.«record».now in
    let l = c.loop-j in (
      subst (λ (x : ℕ). behind_trace_in tag04 r o.samples x ≤ length r) (sym l.invariant.place) (ends r o.samples o.traces l.j (omega arith) c.requires.0),
      omega (arith, inside o.traces o.size l.j (omega arith), c.requires.1),
    )

-- a trace's count with those before it is no more than there are samples, of which the record has as many pairs
pub overflow_add-count : goal.overflow_add-count
overflow_add-count g c =
    let a = c.args in
    let o = a.self in
    let r = a.«record».now in
    let l = c.loop-j in
    omega (arith, place_holds r o.samples o.traces, inside o.traces o.samples l.j (omega arith), l.invariant.few, c.put_trace-count.ensures.0, trace_most g.W.Way.near r (code_no o.code) o.samples l.at, c.requires.0, c.well_formed.0)

-- behind the trace stands the next
behind : (g : Over) (c : After-stride_at-at g) → let o = c.args.self in let l = c.loop-j in l.at + c.stride_at-at.result ≡ trace_place c.args.«record».now o.samples (l.j + 1)
unfolding behind_trace_in
behind g c =
    let o = c.args.self in
    let r = c.args.«record».now in
    let l = c.loop-j in
    ap (λ (x : ℕ). l.at + x) c.stride_at-at.ensures ∙ ap (behind_trace_in tag04 r o.samples) l.invariant.place ∙ sym (place_next tag04 r o.samples l.j)

pub overflow_add-at : goal.overflow_add-at
overflow_add-at g c =
    let o = c.args.self in
    let r = c.args.«record».now in
    let l = c.loop-j in
    omega (arith, behind g (goal.at.overflow_add-at g c).After-stride_at-at, place_next tag04 r o.samples l.j, ends r o.samples o.traces l.j (omega arith) c.requires.0, c.well_formed.0)

pub loop-j-preserved : goal.loop-j-preserved
loop-j-preserved g c =
    let a = c.args in
    let o = a.self in
    let r = a.«record».now in
    let l = c.loop-j in
    let code = code_no o.code in
    let left = o.traces - l.j in
    let some : 0 < left = omega arith in
    let less : left - 1 ≡ o.traces - (l.j + 1) = omega arith in
    let wide = sym (o.size_is ∙ ap (stride o.samples) o.width_is) in
    let f = lend (reel_trace_copied g.W.Way.near r code o.samples (trace_place r o.samples l.j)) (traces_copied g.W.Way.near r code o.samples (left - 1) (l.j + 1)) (l.j * o.size + o.size)
    (again l.invariant.filling (copied_more g.W.Way.near r code o.samples left l.j some)) (omega arith)
    (size_trace g.W.Way.near r code o.samples (trace_place r o.samples l.j) ∙ wide ∙ omega arith) (c.put_trace-count.ensures.1 ∙ ap (reel_trace_copied g.W.Way.near r code o.samples) l.invariant.place) in
    let k = c.put_trace-count.ensures.0 in
    let more = traces_more g.W.Way.near r code o.samples left l.j some in
    let same = ap (trace_changed_at g.W.Way.near r code o.samples) l.invariant.place in
    let rest = ap (λ (x : ℕ). traces_changed_at g.W.Way.near r code o.samples x (l.j + 1)) less in
    record {
      place = behind g (goal.at.loop-j-preserved g c).After-stride_at-at;
      filling = again (from f (next o.size l.j)) (ap (λ (x : ℕ). traces_copied g.W.Way.near r code o.samples x (l.j + 1)) less);
      few = omega (arith, next o.samples l.j, l.invariant.few, k, trace_most g.W.Way.near r code o.samples l.at);
      counted = omega (arith, l.invariant.counted, k, more, same, rest);
    }

pub returns : goal.returns
returns g c =
    let a = c.args in
    let o = a.self in
    let r = a.«record».now in
    let l = c.loop-j in
    let none : o.traces - l.j ≤ 0 = omega arith in (
      omega (arith, l.invariant.counted, traces_none g.W.Way.near r (code_no o.code) o.samples (o.traces - l.j) l.j none),
      finish l.invariant.filling (copied_none g.W.Way.near r (code_no o.code) o.samples (o.traces - l.j) l.j none),
    )
