-- What `first` finds: the first number that passes a test. Assumes nothing.
use Rattle.std.proofs.Common.{◌≡◌, ℕ, zero, suc, ◌+◌, ◌<◌, ◌≤◌, Bool, true, false, T, sym, refl, ap, ◌∙◌, subst, ⊎_elim, add-zero, eq-or-lt_of_le, arith}
use Rattle.numbers.specs.Walk.{pick}
use Rattle.numbers.specs.First.{first}
use Rattle.numbers.proofs.SignLaws.{below_or}

-- the first number at which the test holds
pub first_at : (t : ℕ → Bool) (n i c : ℕ) → i ≤ c → c < i + n → t c ≡ true → ((x : ℕ) → i ≤ x → x < c → t x ≡ false) → first t n i ≡ c
unfolding first
first_at t zero i c l h e f = omega arith
first_at t (suc n) i c l h e f =
    ⊎_elim (λ (q : i ≡ c). rw (ap t q ∙ e) q)
    (λ (q : i < c). rw (f i (omega arith) q) (first_at t n (suc i) c q (omega arith) e (λ x p. f x (omega arith)))) (eq-or-lt_of_le l)

-- no number passes
pub none_passes : (t : ℕ → Bool) (n i : ℕ) → ((x : ℕ) → i ≤ x → x < i + n → t x ≡ false) → first t n i ≡ i + n
unfolding first
none_passes t zero i f = sym (add-zero i)
none_passes t (suc n) i f = rw (f i (omega arith) (omega arith)) (none_passes t n (suc i) (λ x p q. f x (omega arith) (omega arith)) ∙ omega arith)

-- what is found passes, and nothing before it does
pub record Found (t : ℕ → Bool) (n i r : ℕ) : Type 0 where
  pub from : i ≤ r
  pub passes : r < i + n → t r ≡ true
  pub before : (x : ℕ) → i ≤ x → x < r → t x ≡ false

pub found : (t : ℕ → Bool) (n i : ℕ) → Found t n i (first t n i)
unfolding first
found t zero i = record { from = omega arith; passes = λ h. absurd (none h); before = λ x p q. absurd (no x p q) }
  where
    none : i < i + 0 → ⊥
    none h = omega arith

    no : (x : ℕ) → i ≤ x → x < i → ⊥
    no x p q = omega arith
found t (suc n) i = go (t i) refl (found t n (suc i))
  where
    go : (b : Bool) → t i ≡ b → Found t n (suc i) (first t n (suc i)) → Found t (suc n) i (pick b i (first t n (suc i)))
    go true e r = record { from = omega arith; passes = λ h. e; before = λ x p q. absurd (no x p q) }
      where
        no : (x : ℕ) → i ≤ x → x < i → ⊥
        no x p q = omega arith
    go false e r = record { from = omega (arith, r.from); passes = λ h. r.passes (omega arith); before = λ x p q. ⊎_elim (λ (s : i ≡ x). sym (ap t s) ∙ e) (λ (s : i < x). r.before x s q) (eq-or-lt_of_le p) }

-- a number that passes is not passed over
pub first_le : (t : ℕ → Bool) (n i c : ℕ) → i ≤ c → t c ≡ true → first t n i ≤ c
first_le t n i c l e =
    ⊎_elim (λ (h : c < first t n i). absurd (subst T (sym e ∙ (found t n i).before c l h) tt)) (λ (h : first t n i ≤ c). h) (below_or c (first t n i))

-- no more is found than was asked for
pub first_most : (t : ℕ → Bool) (n i : ℕ) → first t n i ≤ i + n
unfolding first
first_most t zero i = omega arith
first_most t (suc n) i = go (t i) (first_most t n (suc i))
  where
    go : (b : Bool) → first t n (suc i) ≤ suc i + n → pick b i (first t n (suc i)) ≤ i + suc n
    go true h = omega arith
    go false h = omega arith
