-- `read_reel::put_traces` meets its contract. Assumes nothing.
use Rattle.std.proofs.Common.{◌≡◌, ℕ, ◌+◌, ◌-◌, ◌*◌, ◌<◌, ◌≤◌, map, length, sym, refl, ap, ap₂, ◌∙◌, subst, arith}
use native.Mathlib.Nat.{add-mul, zero-mul, mul-le-mul_right}
use Rattle.numbers.specs.Walk.{flat}
use Rattle.numbers.proofs.Filling.{start as begin, finish, again, from, part_put}
use Rattle.numbers.proofs.WalkLaws.{flat_none}
use Rattle.formats.specs.Codes.{sample_bytes}
use Rattle.reel.specs.Layout.{first_trace, trace_header, stride}
use Rattle.reel.specs.NotNormal.{not_normal_in, not_normal_among}
use Rattle.reel.specs.declared.own_numbers.Numbers.{Numbers}
use Rattle.reel.proofs.CheckLaws.{stride_holds}
use Rattle.reel.proofs.NotNormalLaws.{among_none, among_more, among_room}
use Rattle.read_samples.specs.Samples.{places}
use Rattle.read_reel.specs.Copied.{record_trace_copied}
use Rattle.read_reel.proofs.CopiedLaws.{size_trace, size_traces}
use Rattle.read_reel.proofs.put_traces.Goals.{After-trace_length-m, After-put_trace}
use Rattle.read_reel.proofs.put_traces.Goals as goal

-- a trace has its header and its samples, and ends where the next begins, or the last of all
whole : (o : Numbers) → stride o.samples o.width ≤ o.stride
whole o = subst (λ (x : ℕ). stride o.samples o.width ≤ x) (sym o.stride_is) (stride_holds o.layout o.samples o.width)

whole_by_code : (o : Numbers) → stride o.samples (sample_bytes o.code) ≤ o.stride
whole_by_code o = subst (λ (x : ℕ). stride o.samples x ≤ o.stride) o.width_is (whole o)

next : (w t : ℕ) → t * w + w ≡ (t + 1) * w
next w t = omega (arith, add-mul t 1 w)

inside : (k w t : ℕ) → t < k → t * w + w ≤ k * w
inside k w t h = omega (arith, next w t, let q : (t + 1) * w ≤ k * w = mul-le-mul_right w (omega arith) in q)

-- the words of a trace that are not normal, with those of the traces before it, are no more than the reel has bytes
counts : (s : _) (o : Numbers) (t at count k : ℕ) → first_trace + o.traces * o.stride ≤ length s → t < o.traces → at ≡ first_trace + t * o.stride
    → count + not_normal_among s o.code o.samples o.stride (o.traces - t) at ≡ not_normal_among s o.code o.samples o.stride o.traces first_trace
    → k ≡ not_normal_in s o.code o.samples (at + trace_header)
    → (count + k ≤ length s)
    × (count + k + not_normal_among s o.code o.samples o.stride (o.traces - (t + 1)) (first_trace + (t + 1) * o.stride) ≡ not_normal_among s o.code o.samples o.stride o.traces first_trace)
counts s o t at count k room h p i is =
    let more = among_more s o.code o.samples o.stride (o.traces - t) at (omega arith) in
    let less : o.traces - t - 1 ≡ o.traces - (t + 1) = omega arith in
    let on : at + o.stride ≡ first_trace + (t + 1) * o.stride = omega (arith, next o.stride t) in
    let rest = ap₂ (λ (x y : ℕ). not_normal_among s o.code o.samples o.stride x y) less on in
    let sum : count + k + not_normal_among s o.code o.samples o.stride (o.traces - (t + 1)) (first_trace + (t + 1) * o.stride) ≡ not_normal_among s o.code o.samples o.stride o.traces first_trace = omega (arith, i, more, is, rest) in
    (omega (arith, sum, among_room s o.code o.samples o.stride o.traces first_trace (whole_by_code o) room), sum)

pub returns-in_default : goal.returns-in_default
returns-in_default c =
    let a = c.args in
    let o = a.own in
    let s = a.reel.now in
    let none : o.traces ≤ 0 = omega (arith, c.in_default.ensures) in (
      sym (among_none s o.code o.samples o.stride o.traces first_trace none),
      finish (begin _ a.out.now (c.requires.1 ∙ sym (size_traces s o.code o.samples o.interval o.stride o.traces first_trace)))
          (flat_none (record_trace_copied s o.code o.samples o.interval) (λ p. p) o.stride o.traces first_trace none),
    )

pub loop-t-init : goal.loop-t-init
loop-t-init c =
    let a = c.args in
    let o = a.own in
    let s = a.reel.now in
    let m = c.trace_length-m.result in
    let g = record_trace_copied s o.code o.samples o.interval in
    let n : o.traces ≡ o.traces - 0 = omega arith in
    let p : first_trace ≡ first_trace + 0 * o.stride = omega (arith, zero-mul o.stride) in
    let w = begin _ a.out.now (c.requires.1 ∙ sym (size_traces s o.code o.samples o.interval o.stride o.traces first_trace)) in
    record {
      filling = again (from w (omega (arith, zero-mul m))) (ap₂ (λ (x y : ℕ). flat (map g (places o.stride x y))) n p);
      counted = omega (arith, ap₂ (λ (x y : ℕ). not_normal_among s o.code o.samples o.stride x y) n p);
    }

-- the records of the traces make up the output
filled : (c : After-trace_length-m) → length c.args.out.now ≡ c.args.own.traces * c.trace_length-m.result
filled c = c.requires.1 ∙ ap (λ (x : ℕ). c.args.own.traces * x) (sym c.trace_length-m.ensures)

pub slice_bounds-put_trace-end : goal.slice_bounds-put_trace-end
slice_bounds-put_trace-end c =
    omega (arith, inside c.args.own.traces c.trace_length-m.result c.loop-t.t (omega arith), filled (goal.at.slice_bounds-put_trace-end c).After-trace_length-m)

pub overflow_add-count : goal.overflow_add-count
overflow_add-count c =
    let l = c.loop-t in
    omega (arith, (counts c.args.reel.now c.args.own l.t _ l.count _ c.requires.0 (omega arith) refl l.invariant.counted c.put_trace-count.ensures.0).0, c.well_formed.0)

pub look_over-count-requires : goal.look_over-count-requires
look_over-count-requires c =
    let o = c.args.own in
    (omega (arith, inside o.traces o.stride c.loop-t.t (omega arith), whole o, c.requires.0), omega (arith, c.requires.0))

pub overflow_add-count-in-loop-t : goal.overflow_add-count-in-loop-t
overflow_add-count-in-loop-t c =
    let l = c.loop-t in
    omega (arith, (counts c.args.reel.now c.args.own l.t _ l.count _ c.requires.0 (omega arith) refl l.invariant.counted c.put_trace-count.ensures.0).0, c.look_over-count.ensures, c.well_formed.0)

pub loop-t-preserved : goal.loop-t-preserved
loop-t-preserved c =
    let o = c.args.own in
    let s = c.args.reel.now in
    let l = c.loop-t in
    let m = c.trace_length-m.result in
    let at = first_trace + l.t * o.stride in
    let g = record_trace_copied s o.code o.samples o.interval in
    let less : o.traces - l.t - 1 ≡ o.traces - (l.t + 1) = omega arith in
    let on : at + o.stride ≡ first_trace + (l.t + 1) * o.stride = omega (arith, next o.stride l.t) in
    let sum = (counts s o l.t at l.count _ c.requires.0 (omega arith) refl l.invariant.counted c.put_trace-count.ensures.0).1 in
    let w = part_put g (λ p. p) o.stride m (λ p. size_trace s o.code o.samples o.interval p ∙ sym c.trace_length-m.ensures) (o.traces - l.t) at (l.t * m) (l.t * m + m) (omega arith) refl l.invariant.filling
    c.put_trace-count.ensures.1 in
    record {
      filling = again (from w (next m l.t)) (ap₂ (λ (x y : ℕ). flat (map g (places o.stride x y))) less on);
      counted = omega (arith, sum, c.look_over-count.ensures);
    }

-- behind the loop
stopped : (c : After-put_trace) → c.in-Some.last ≡ c.loop-t.t
stopped c = omega arith

last_counts : (c : After-put_trace) → let o = c.args.own in let s = c.args.reel.now in let l = c.loop-t in
    (l.count + c.put_trace.result ≤ length s)
    × (l.count + c.put_trace.result + not_normal_among s o.code o.samples o.stride (o.traces - (l.t + 1)) (first_trace + (l.t + 1) * o.stride) ≡ not_normal_among s o.code o.samples o.stride o.traces first_trace)
last_counts c =
    let o = c.args.own in
    let s = c.args.reel.now in
    let l = c.loop-t in
    counts s o l.t _ l.count _ c.requires.0 (omega arith) refl l.invariant.counted (c.put_trace.ensures.0 ∙ ap (λ (x : ℕ). not_normal_in s o.code o.samples (first_trace + x * o.stride + trace_header)) (stopped c))

pub overflow_add-result : goal.overflow_add-result
overflow_add-result c = omega (arith, (last_counts (goal.at.overflow_add-result c).After-put_trace).0, c.well_formed.0)

pub returns : goal.returns
returns c =
    let b = (goal.at.returns c).After-put_trace in
    let o = c.args.own in
    let s = c.args.reel.now in
    let l = c.loop-t in
    let m = c.trace_length-m.result in
    let at = first_trace + l.t * o.stride in
    let g = record_trace_copied s o.code o.samples o.interval in
    let e = stopped b in
    let none : o.traces - l.t - 1 ≤ 0 = omega arith in
    let end : length l.out ≡ c.in-Some.last * m + m = omega (arith, filled (goal.at.returns c).After-trace_length-m, next m c.in-Some.last, let k : o.traces ≡ c.in-Some.last + 1 = omega arith in ap (λ (x : ℕ). x * m) k) in
    let w = part_put g (λ p. p) o.stride m (λ p. size_trace s o.code o.samples o.interval p ∙ sym c.trace_length-m.ensures) (o.traces - l.t) at (c.in-Some.last * m) (length l.out) (omega arith) end
    (from l.invariant.filling (ap (λ (x : ℕ). x * m) (sym e))) (c.put_trace.ensures.1 ∙ ap (λ (x : ℕ). g (first_trace + x * o.stride)) e) in (
      omega (arith, (last_counts b).1, among_none s o.code o.samples o.stride (o.traces - (l.t + 1)) (first_trace + (l.t + 1) * o.stride) (omega arith)),
      finish w (flat_none g (λ p. p) o.stride (o.traces - l.t - 1) (at + o.stride) none),
    )
