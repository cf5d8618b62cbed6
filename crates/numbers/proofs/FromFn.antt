-- What an array holds whose elements a closure made, each of its index. Assumes nothing.
use Rattle.std.proofs.Common.{◌≡◌, ℕ, zero, suc, ◌+◌, ◌*◌, ◌<◌, List, [], ◌∷◌, length, get_or, refl, ap, ◌∙◌, subst, arith}
use denote.Param.Members.{Mut, Called}
use Rattle.std.specs.Array.{IsFromFnResultFrom}
use Rattle.numbers.specs.Walk.{walk}
use Rattle.numbers.proofs.WalkLaws.{cons_eq, at_zero, at_suc}

module _ {F B : Type 0} (g : Mut F (ℕ × Unit {0}) B) (h : ℕ → B) (f : F) (step : (x : ℕ) (y : B) (q : F) → Called g f (x, tt) y q → (q ≡ f) × (y ≡ h x)) where
  pub made_at : (ys : List B) (i n : ℕ) → IsFromFnResultFrom g f ys i n → (j : ℕ) → j < n → (d : B) → get_or ys (i + j) d ≡ h (i + j)
  made_at ys i zero r j l d = absurd (omega arith)
  made_at ys i (suc n) r zero l d =
      let e : i + 0 ≡ i = omega arith in
      rw e (r.2.1 d ∙ (step i r.1 r.0 r.3).1)
  made_at ys i (suc n) r (suc j) l d =
      let e : i + suc j ≡ i + 1 + j = omega arith in
      rw e (made_at ys (i + 1) n (subst (λ (p : F). IsFromFnResultFrom g p ys (i + 1) n) (step i r.1 r.0 r.3).0 r.4) j (omega arith) d)

-- a list by its elements
pub walk_is : {B : Type 0} (f : ℕ → B) (w : ℕ) (ys : List B) (k at : ℕ) (d : B) → length ys ≡ k → ((j : ℕ) → j < k → get_or ys j d ≡ f (at + j * w)) → ys ≡ walk f w k at
walk_is f w [] zero at d e h = refl
walk_is f w [] (suc k) at d e h = absurd (omega arith)
walk_is f w (y ∷ ys) zero at d e h = absurd (omega arith)
walk_is f w (y ∷ ys) (suc k) at d e h =
    cons_eq (h 0 (omega arith) ∙ ap f (at_zero at w)) (walk_is f w ys k (at + w) d (omega arith) (λ j l. h (suc j) (omega arith) ∙ ap f (at_suc at w j)))
