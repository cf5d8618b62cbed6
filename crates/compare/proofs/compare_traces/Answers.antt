-- `compare::compare_traces` meets its contract. Assumes nothing.
use Rattle.compare.proofs.KeyLaws.{first_decides, behind_first, behind_one, next_room, traces_next, traces_end}
use Rattle.compare.specs.Key.{trace_key}
use Rattle.compare.specs.Parts.{behind_traces, key_from}
use Rattle.record.specs.Kind.{tag04}
use Rattle.record.specs.Form.{behind_trace_in}
use Rattle.exact.specs.Order.{or_else, lex_z}
use lib.ListN.{length}
use Prim.Native.Nat.{ℕ, ◌+◌, ◌-◌, ◌≤◌, ◌<◌, min}
use mathlib.Core.Path.{◌≡◌, sym, ap, ap₂, ◌∙◌, subst}
use native.Mathlib.Omega.{arith}
use Rattle.compare.proofs.compare_traces.Goals.{After-stride_at-i, After-stride_at-j, In-loop}
use Rattle.compare.proofs.compare_traces.Goals as goal

-- a trace of each is left
left : (c : In-loop) → let a = c.args in (0 < a.s - c.loop.counter) × (0 < a.t - c.loop.counter)
left c = (omega (arith, c.loop-test.true, c.min-end.ensures), omega (arith, c.loop-test.true, c.min-end.ensures))

-- and lies within its record
room : (c : In-loop)
    → let a = c.args in
    (behind_trace_in tag04 a.a.record.now a.n c.loop.i ≤ length a.a.record.now) × (behind_trace_in tag04 a.b.record.now a.n c.loop.j ≤ length a.b.record.now)
room c =
    let l = c.loop in
    let a = c.args in
    let h = left (goal.at.In-loop c).In-loop in
    (omega (arith, next_room a.a.record.now a.n (a.s - l.counter) l.i h.0, l.invariant.1), omega (arith, next_room a.b.record.now a.n (a.t - l.counter) l.j h.1, l.invariant.2))

-- the first traces, then the others
next : (c : In-loop)
    → let l = c.loop in let a = c.args in
    lex_z (key_from a.a.record.now a.n a.s a.a.place) (key_from a.b.record.now a.n a.t a.b.place)
    ≡ or_else (lex_z (trace_key a.a.record.now a.n l.i) (trace_key a.b.record.now a.n l.j)) (lex_z (key_from a.a.record.now a.n (a.s - l.counter - 1) (behind_trace_in tag04 a.a.record.now a.n l.i)) (key_from a.b.record.now a.n (a.t - l.counter - 1) (behind_trace_in tag04 a.b.record.now a.n l.j)))
next c =
    let l = c.loop in
    let a = c.args in
    let h = left (goal.at.In-loop c).In-loop in
    l.invariant.0 ∙ traces_next a.a.record.now a.b.record.now a.n (a.s - l.counter) (a.t - l.counter) l.i l.j h.0 h.1

pub compare_trace-order-requires : goal.compare_trace-order-requires
compare_trace-order-requires c = room (goal.at.compare_trace-order-requires c).In-loop

pub returns-then-is_ne : goal.returns-then-is_ne
returns-then-is_ne c = first_decides _ _ _ c.compare_trace-order.ensures (sym c.is_ne.ensures ∙ c.if-is_ne.true) ∙ sym (next (goal.at.returns-then-is_ne c).In-loop)

-- where the next traces stand
behind_a : (c : After-stride_at-i) → let a = c.args in c.loop.i + c.stride_at-i.result ≡ behind_trace_in tag04 a.a.record.now a.n c.loop.i
unfolding behind_trace_in
behind_a c = ap (λ (x : ℕ). c.loop.i + x) c.stride_at-i.ensures

behind_b : (c : After-stride_at-j) → let a = c.args in c.loop.j + c.stride_at-j.result ≡ behind_trace_in tag04 a.b.record.now a.n c.loop.j
unfolding behind_trace_in
behind_b c = ap (λ (x : ℕ). c.loop.j + x) c.stride_at-j.ensures

pub overflow_add-i : goal.overflow_add-i
overflow_add-i c = omega (arith, behind_a c, (room (goal.at.overflow_add-i c).In-loop).0)

pub overflow_add-j : goal.overflow_add-j
overflow_add-j c = omega (arith, behind_b c, (room (goal.at.overflow_add-j c).In-loop).1)

pub loop-preserved : goal.loop-preserved
loop-preserved c =
    let l = c.loop in
    let a = c.args in
    let x = a.a.record.now in
    let y = a.b.record.now in
    let e = (goal.at.loop-preserved c).In-loop in
    let h = left e in
    let u = behind_a (goal.at.loop-preserved c).After-stride_at-i in
    let v = behind_b (goal.at.loop-preserved c).After-stride_at-j in
    let s : a.s - l.counter - 1 ≡ a.s - (l.counter + 1) = omega arith in
    let t : a.t - l.counter - 1 ≡ a.t - (l.counter + 1) = omega arith in (
      next e
          ∙ behind_first _ _ _ c.compare_trace-order.ensures (sym c.is_ne.ensures ∙ c.if-is_ne.false)
          ∙ ap₂ (λ (m o : ℕ). lex_z (key_from x a.n (a.s - l.counter - 1) m) (key_from y a.n (a.t - l.counter - 1) o)) (sym u) (sym v)
          ∙ ap₂ (λ (m o : ℕ). lex_z (key_from x a.n m (l.i + c.stride_at-i.result)) (key_from y a.n o (l.j + c.stride_at-j.result))) s t,
      subst (λ (k : ℕ). behind_traces x a.n k (l.i + c.stride_at-i.result) ≤ length x) s (subst (λ (m : ℕ). behind_traces x a.n (a.s - l.counter - 1) m ≤ length x) (sym u) (subst (λ (m : ℕ). m ≤ length x) (behind_one x a.n (a.s - l.counter) l.i h.0) l.invariant.1)),
      subst (λ (k : ℕ). behind_traces y a.n k (l.j + c.stride_at-j.result) ≤ length y) t (subst (λ (m : ℕ). behind_traces y a.n (a.t - l.counter - 1) m ≤ length y) (sym v) (subst (λ (m : ℕ). m ≤ length y) (behind_one y a.n (a.t - l.counter) l.j h.1) l.invariant.2)),
    )

pub returns : goal.returns
returns c =
    let a = c.args in
    let e : c.loop.counter ≡ min a.s a.t = omega (arith, c.loop-test.false, c.loop.auto.counter-end, c.min-end.ensures) in
    c.cmp.ensures ∙ traces_end a.a.record.now a.b.record.now a.n a.s a.t c.loop.counter c.loop.i c.loop.j e ∙ sym c.loop.invariant.0
