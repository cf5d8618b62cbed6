-- Two tests together, and a number among others. Assumes nothing.
use Rattle.std.proofs.Common.{◌≡◌, ℕ, Bool, true, false, ◌&&◌, ◌||◌, T, eqb, ◌⊎◌, List, [], ◌∷◌, sym, refl, subst, inl, inr, eq-eqb, eqb-true}
use Rattle.numbers.specs.Walk.{is_among}
use Rattle.numbers.specs.Terms.{Among}

-- two tests that pass together pass each, and the other way round
pub and_true : (a b : Bool) → (a && b) ≡ true → (a ≡ true) × (b ≡ true)
and_true true b e = (refl, e)
and_true false b e = absurd (subst T (sym e) tt)

pub and_both : (a b : Bool) → a ≡ true → b ≡ true → (a && b) ≡ true
and_both true b p q = q
and_both false b p q = p

-- a test that fails, and one that passes, beside any other
pub and_false : (a : Bool) → (a && false) ≡ false
and_false true = refl
and_false false = refl

pub and_right : (a : Bool) → (a && true) ≡ a
and_right true = refl
and_right false = refl

pub or_true : (a : Bool) → (a || true) ≡ true
or_true true = refl
or_true false = refl

-- three tests together, however they are grouped
pub and_assoc : (a b c : Bool) → (a && (b && c)) ≡ ((a && b) && c)
and_assoc true b c = refl
and_assoc false b c = refl

-- two tests that pass in the same cases are the same
pub same_test : (a b : Bool) → (a ≡ true → b ≡ true) → (b ≡ true → a ≡ true) → a ≡ b
same_test true b f g = sym (f refl)
same_test false true f g = g refl
same_test false false f g = refl

-- a number that is found in a list is one of its numbers, and the other way round
pub among_is : (n : ℕ) (ms : List ℕ) → is_among n ms ≡ true → Among n ms
among_is n [] e = absurd (subst T (sym e) tt)
among_is n (m ∷ ms) e = go (λ x. among_is n ms x) (eqb n m) refl e
  where
    go : (is_among n ms ≡ true → Among n ms) → (b : Bool) → eqb n m ≡ b → (b || is_among n ms) ≡ true → (n ≡ m) ⊎ Among n ms
    go rest true q e = inl (eqb-true n m q)
    go rest false q e = inr (rest e)

pub is_among_lem : (n : ℕ) (ms : List ℕ) → Among n ms → is_among n ms ≡ true
is_among_lem n [] h = absurd h
is_among_lem n (m ∷ ms) (inl e) = rw (eq-eqb n m e)
is_among_lem n (m ∷ ms) (inr h) = rw (is_among_lem n ms h) (or_true (eqb n m))
