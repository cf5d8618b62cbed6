-- `record::stride_at` meets its contract. Assumes nothing.
use Rattle.record.proofs.FormLaws.{share_some, share_high}
use Rattle.record.specs.Kind.{tag04}
use Rattle.fields.specs.Fields.{fields_in}
use native.Mathlib.Nat.{div-le_self}
use Prim.Native.Nat.{ℕ, ◌+◌, ◌-◌, ◌*◌, ◌/◌, ◌<◌, ◌≤◌}
use mathlib.Core.Path.{sym, ap, subst}
use native.Mathlib.Omega.{arith}
use Rattle.record.proofs.stride_at.Goals.{After-share_at-c}
use Rattle.record.proofs.stride_at.Goals as goal

some : (c : After-share_at-c) → (0 < c.share_at-c.result) × (c.share_at-c.result ≤ 8000)
some c =
    let a = c.args in
    subst (λ (x : ℕ). (0 < x) × (x ≤ 8000)) (sym c.share_at-c.ensures) (share_some tag04 a.«record».now a.n (a.at.0 + 183), share_high a.«record».now a.n (a.at.0 + 183))

-- the fields are no more than the samples and a share
few : (c : After-share_at-c) → let a = c.args in let x = c.share_at-c.result in (a.n + (x - 1)) / x ≤ a.n + (x - 1)
few c = let a = c.args in let x = c.share_at-c.result in div-le_self (a.n + (x - 1)) x

pub overflow_sub-result : goal.overflow_sub-result
overflow_sub-result c = omega (arith, some (goal.at.overflow_sub-result c).After-share_at-c)

pub overflow_add-result : goal.overflow_add-result
overflow_add-result c = omega (arith, some (goal.at.overflow_add-result c).After-share_at-c)

pub nonzero_div-result : goal.nonzero_div-result
nonzero_div-result c = omega (arith, some (goal.at.nonzero_div-result c).After-share_at-c)

pub overflow_mul-result : goal.overflow_mul-result
overflow_mul-result c = omega (arith, some c, few (goal.at.overflow_mul-result c).After-share_at-c)

pub overflow_add-result-2 : goal.overflow_add-result-2
overflow_add-result-2 c = omega (arith, some c, few (goal.at.overflow_add-result-2 c).After-share_at-c)

pub overflow_add-result-3 : goal.overflow_add-result-3
overflow_add-result-3 c = omega (arith, some c, few (goal.at.overflow_add-result-3 c).After-share_at-c)

pub returns : goal.returns
unfolding fields_in
returns c = let a = c.args in ap (λ (x : ℕ). 183 + (3 * ((a.n + (x - 1)) / x) + a.n * 6)) c.share_at-c.ensures
