-- Two lists of bytes that are found to be the same. Assumes nothing.
use mathlib.Core.Path.{◌≡◌, refl, sym, ap, ◌∙◌, subst}
use mathlib.Core.Logic.{◌⊎◌, inl, inr}
use mathlib.Core.Bool.{true}
use mathlib.Core.List.{List, [], ◌∷◌}
use Prim.Native.Nat.{ℕ, ◌+◌, ◌-◌, ◌*◌, ◌≤◌, ◌<◌}
use native.Mathlib.Nat.{not-suc-le-zero}
use native.Mathlib.Omega.{arith}
use borrow.Author.Tests.{eqb-true}
use lib.Dec.{T, eqb}
use lib.ListN.{length, get_or, take, drop}
use Rattle.numbers.specs.Walk.{bytes_at}
use Rattle.numbers.proofs.BoolLaws.{and_true}
use Rattle.numbers.proofs.SignLaws.{below_or}
use Rattle.numbers.proofs.WalkLaws.{cons_eq, walk_each, bytes_between}
use Rattle.compare.specs.Parts.{Alike, same_bytes}

-- they are the same
pub same_are : (k l : List ℕ) → same_bytes k l ≡ true → k ≡ l
same_are [] [] e = refl
same_are [] (y ∷ l) e = absurd (subst T (sym e) tt)
same_are (x ∷ k) [] e = absurd (subst T (sym e) tt)
same_are (x ∷ k) (y ∷ l) e = let h = and_true (eqb x y) (same_bytes k l) e in cons_eq (eqb-true x y h.0) (same_are k l h.1)

-- the bytes of two parts, by their places
pub part_bytes : (a b : List ℕ) (p e q f n : ℕ) → e ≤ length a → f ≤ length b → e ≡ p + n → f ≡ q + n
    → same_bytes (take (e - p) (drop p a)) (take (f - q) (drop q b)) ≡ true → bytes_at a p n ≡ bytes_at b q n
part_bytes a b p e q f n h k x y s = sym (bytes_between a p e n h x) ∙ same_are _ _ s ∙ bytes_between b q f n k y

-- where the bytes up to a place are the same, and n from there on, those up to the end of these are
pub more_alike : (a b : List ℕ) (at n : ℕ) → Alike a b at → bytes_at a at n ≡ bytes_at b at n → Alike a b (at + n)
unfolding bytes_at
more_alike a b at n h e p l = go (below_or p at)
  where
    go : (p < at) ⊎ (at ≤ p) → get_or a p 0 ≡ get_or b p 0
    go (inl k) = h p k
    go (inr k) =
        let z : at + (p - at) * 1 ≡ p = omega arith in
        ap (λ (x : ℕ). get_or a x 0) (sym z) ∙ walk_each (λ x. get_or a x 0) (λ x. get_or b x 0) 1 1 n n at at e (p - at) (omega arith) ∙ ap (λ (x : ℕ). get_or b x 0) z

pub none_alike : (a b : List ℕ) → Alike a b 0
none_alike a b p l = absurd (not-suc-le-zero l)
