-- When two values differ: exactly where they are not the same. Assumes nothing.
use mathlib.Core.Path.{◌≡◌, refl, sym, ap, ◌∙◌}
use mathlib.Core.Bool.{Bool, true, false}
use Prim.Native.Nat.{ℕ, ◌≤◌}
use native.Mathlib.Omega.{arith}
use borrow.Author.Tests.{eqb-true, eq-eqb}
use lib.Dec.{eqb}
use lib.IntN.{ℤ, nat_abs, ◌+ℤ◌, ◌-ℤ◌, +ℤ_idl, +ℤ_invr, -ℤ-+ℤ_cancel}
use Rattle.numbers.specs.Walk.{pick}
use Rattle.numbers.specs.Iff.{Iff}
use Rattle.numbers.proofs.SignLaws.{abs_zero}
use Rattle.formats.specs.Nearest.{distance, differs}
use Rattle.formats.proofs.PlacedLaws.{no_zero_one}

-- values at no distance are the same, and only those
pub distance_none : (v w : ℤ) → distance v w ≡ 0 → v ≡ w
distance_none v w e = sym (-ℤ-+ℤ_cancel v w) ∙ ap (λ (z : ℤ). z +ℤ w) (abs_zero (v -ℤ w) e) ∙ +ℤ_idl w

pub distance_self : (v w : ℤ) → v ≡ w → distance v w ≡ 0
distance_self v w e = ap (distance v) (sym e) ∙ ap nat_abs (+ℤ_invr v)

-- LAW. Two values differ by 0 exactly where they are the same, and by 1 exactly where they are not.
pub same_differs : (v w : ℤ) → Iff (differs v w ≡ 0) (v ≡ w)
same_differs v w = (λ e. distance_none v w (there (eqb (distance v w) 0) refl e), λ e. rw (eq-eqb (distance v w) 0 (distance_self v w e)))
  where
    there : (b : Bool) → eqb (distance v w) 0 ≡ b → ◌≡◌ {A = ℕ} (pick b 0 1) 0 → distance v w ≡ 0
    there true e q = eqb-true (distance v w) 0 e
    there false e q = absurd (no_zero_one (sym q))

pub other_differs : (v w : ℤ) → Iff (differs v w ≡ 1) (¬ (v ≡ w))
other_differs v w = (λ e q. no_zero_one (sym ((same_differs v w).1 q) ∙ e), λ n. back n (eqb (distance v w) 0) refl)
  where
    back : ¬ (v ≡ w) → (b : Bool) → eqb (distance v w) 0 ≡ b → ◌≡◌ {A = ℕ} (pick b 0 1) 1
    back n true e = absurd (n (distance_none v w (eqb-true (distance v w) 0 e)))
    back n false e = refl

-- they differ by 1 at most
pub differs_most : (v w : ℤ) → differs v w ≤ 1
differs_most v w = go (eqb (distance v w) 0)
  where
    go : (b : Bool) → pick b 0 1 ≤ 1
    go true = omega arith
    go false = omega arith
