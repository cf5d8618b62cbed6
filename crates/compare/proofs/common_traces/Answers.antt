-- `compare::common_traces` meets its contract. Assumes nothing.
use Rattle.compare.proofs.SharedLaws.{shared_none, shared_next}
use Rattle.compare.specs.Parts.{Shared}
use Rattle.record.specs.Form.{behind_trace_in}
use Prim.Native.Nat.{ℕ, ◌+◌}
use mathlib.Core.Path.{sym, subst, ◌∙◌}
use native.Mathlib.Omega.{arith}
use Rattle.compare.proofs.common_traces.Goals.{After-stride_at}
use Rattle.compare.proofs.common_traces.Goals as goal

pub loop-shared-init : goal.loop-shared-init
loop-shared-init c =
    let s = c in
    let a = s.args in
    shared_none a.a.now a.b.now a.n a.i s.requires.1 s.requires.2 s.requires.3

-- the next trace is shared
next : (c : After-stride_at)
    → let h = c.loop-shared in let a = c.args in
    Shared a.a.now a.b.now a.n a.i (h.shared.traces + 1) (h.shared.place + c.stride_at.result)
unfolding behind_trace_in
next c =
    let h = c.loop-shared in
    let s = c in
    let a = s.args in
    let e = sym c.is_shared.ensures ∙ c.loop-shared-test.true in
    subst (λ (x : ℕ). Shared a.a.now a.b.now a.n a.i (h.shared.traces + 1) (h.shared.place + x)) (sym c.stride_at.ensures) (shared_next a.a.now a.b.now a.n a.i h.shared.traces h.shared.place s.requires.0 h.invariant e)

pub overflow_add-shared : goal.overflow_add-shared
overflow_add-shared c = omega (arith, (next (goal.at.overflow_add-shared c).After-stride_at).first.inside)

pub overflow_add-shared-in-loop-shared : goal.overflow_add-shared-in-loop-shared
overflow_add-shared-in-loop-shared c = omega (arith, (next (goal.at.overflow_add-shared-in-loop-shared c).After-stride_at).few)

pub loop-shared-smaller : goal.loop-shared-smaller
loop-shared-smaller c = omega (arith, (next (goal.at.loop-shared-smaller c).After-stride_at).few)

pub loop-shared-preserved : goal.loop-shared-preserved
loop-shared-preserved c = next (goal.at.loop-shared-preserved c).After-stride_at

pub is_shared-requires : goal.is_shared-requires
is_shared-requires c = c.loop-shared.invariant.second.inside

pub returns : goal.returns
returns c = c.loop-shared.invariant
