-- A table's rule: a test that is computed once over the whole table holds at each entry. Assumes nothing.
use Rattle.std.proofs.Common.{◌≡◌, ℕ, zero, suc, ◌+◌, ◌<◌, Bool, true, ◌&&◌, List, [], ◌∷◌, length, get_or, subst, not-suc-le-zero, arith}
use Rattle.numbers.proofs.BoolLaws.{and_true}

-- The test of an entry by its index and its value, at each entry of a list, of which the first has the index i.
abbrev pub tested : (ℕ → ℕ → Bool) → ℕ → List ℕ → Bool
tested right i [] = true
tested right i (v ∷ l) = right i v && tested right (suc i) l

from : (right : ℕ → ℕ → Bool) (i : ℕ) (l : List ℕ) → tested right i l ≡ true → (j : ℕ) → j < length l → right (i + j) (get_or l j 0) ≡ true
from right i [] t j h = absurd (not-suc-le-zero h)
from right i (v ∷ l) t zero h =
    let e : i ≡ i + 0 = omega arith in
    subst (λ (x : ℕ). right x v ≡ true) e (and_true (right i v) (tested right (suc i) l) t).0
from right i (v ∷ l) t (suc j) h =
    let e : suc i + j ≡ i + suc j = omega arith in
    subst (λ (x : ℕ). right x (get_or l j 0) ≡ true) e (from right (suc i) l (and_true (right i v) (tested right (suc i) l) t).1 j (omega arith))

-- What the test of the whole table says of entry j.
pub at_entry : (right : ℕ → ℕ → Bool) (l : List ℕ) → tested right 0 l ≡ true → (j : ℕ) → j < length l → right j (get_or l j 0) ≡ true
at_entry right l t j h = let e : 0 + j ≡ j = omega arith in subst (λ (x : ℕ). right x (get_or l j 0) ≡ true) e (from right 0 l t j h)
