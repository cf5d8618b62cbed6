-- The power of a scalar is its index among the nine scalars. Assumes nothing.
use Rattle.std.proofs.Common.{◌≡◌, ℕ, ◌+◌, ◌-◌, ◌^◌, ◌<◌, ℤ, pos, negsuc, nat_eq, to_z, of_z, unwrap_or, slice_index_or, refl, arith}
use Prim.Native.Nat.{zero, suc}
use mir.Syntax.{w16, w32}
use mir.Val.{SFits}
use Rattle.std.specs.List.{position}
use Rattle.std.proofs.lemmas.Grind.{common_steps}
use Rattle.std.proofs.lemmas.Bool.Decides.{nat_tests}
use Rattle.scalars.specs.declared.TheConstants.{SCALARS, TENS}
use Rattle.scalars.specs.Scalar.{zeros_in, power_of, scalar_of}

found_pos : (n : ℕ) → n < 2 ^ 15 → unwrap_or (position (λ (s : ℤ). nat_eq (of_z w16 s) n) SCALARS) 4 ≡ 4 + zeros_in n
found_pos n h = grind (arith, common_steps, nat_tests)

found_neg : (n : ℕ) → n < 2 ^ 15 → unwrap_or (position (λ (s : ℤ). nat_eq (of_z w16 s) (2 ^ 16 - suc n)) SCALARS) 4 ≡ 4 - zeros_in (1 + n)
found_neg n h = grind (arith, common_steps, nat_tests)

pub power_found : (z : ℤ) → SFits w16 z → unwrap_or (position (λ (s : ℤ). nat_eq (of_z w16 s) (of_z w16 z)) SCALARS) 4 ≡ power_of z
unfolding power_of
power_found (pos n) f = found_pos n (omega (arith, f.sfits))
power_found (negsuc n) f = found_neg n (omega (arith, f.sfits))

pub scalar_at : (q : ℕ) → q < 9 → to_z w16 (of_z w16 (slice_index_or SCALARS q (pos 0))) ≡ scalar_of q
unfolding scalar_of
scalar_at zero h = refl
scalar_at (suc zero) h = refl
scalar_at (suc (suc zero)) h = refl
scalar_at (suc (suc (suc zero))) h = refl
scalar_at (suc (suc (suc (suc zero)))) h = refl
scalar_at (suc (suc (suc (suc (suc zero))))) h = refl
scalar_at (suc (suc (suc (suc (suc (suc zero)))))) h = refl
scalar_at (suc (suc (suc (suc (suc (suc (suc zero))))))) h = refl
scalar_at (suc (suc (suc (suc (suc (suc (suc (suc zero)))))))) h = refl
scalar_at (suc (suc (suc (suc (suc (suc (suc (suc (suc q))))))))) h = absurd (omega arith)

-- ten to a power is the entry of that power
pub ten_at : (q : ℕ) → q < 9 → to_z w32 (of_z w32 (slice_index_or TENS q (pos 0))) ≡ pos (10 ^ q)
ten_at zero h = refl
ten_at (suc zero) h = refl
ten_at (suc (suc zero)) h = refl
ten_at (suc (suc (suc zero))) h = refl
ten_at (suc (suc (suc (suc zero)))) h = refl
ten_at (suc (suc (suc (suc (suc zero))))) h = refl
ten_at (suc (suc (suc (suc (suc (suc zero)))))) h = refl
ten_at (suc (suc (suc (suc (suc (suc (suc zero))))))) h = refl
ten_at (suc (suc (suc (suc (suc (suc (suc (suc zero)))))))) h = refl
ten_at (suc (suc (suc (suc (suc (suc (suc (suc (suc q))))))))) h = absurd (omega arith)
