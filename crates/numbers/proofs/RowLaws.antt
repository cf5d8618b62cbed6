-- What a check answers that tests a condition, alone, before another, and along a walk: nothing where the condition holds, else its number
-- and place; and how a table of rows comes from such checks. Assumes nothing.
use Rattle.std.proofs.Common.{◌≡◌, ℕ, zero, suc, ◌+◌, ◌*◌, ◌<◌, ◌≤◌, Bool, true, false, not, ◌&&◌, T, eqb, ltb, leb, ◌⊎◌, sym, refl, ap, ◌∙◌, subst, inl, inr, ⊎_elim, not-suc-le-zero, arith, ltb-false, ltb-true, eq-eqb, eqb-true, le-leb, leb-true}
use borrow.Author.Tests.{eqb-false}
use Rattle.numbers.specs.Walk.{walk}
use Rattle.numbers.specs.Cause.{refuse_if, then, first_of}
use Rattle.numbers.specs.Places.{place_no}
use Rattle.numbers.specs.Iff.{Iff}
use Rattle.numbers.specs.Terms.{Between, ZeroOr, at_place}
use Rattle.numbers.specs.Cause.{Check, Fine, Refused}
use Rattle.numbers.proofs.BoolLaws.{and_true, and_both}
use Rattle.numbers.proofs.WalkLaws.{at_zero, at_suc}
use Rattle.numbers.proofs.CauseLaws.{not_fine, then_fine}

-- ## One test

-- What a check answers that tests P: nothing where P holds, else its number and place.
abbrev pub Tests : Type 0 → ℕ → ℕ → Check → Type 0
Tests P number at c = (P × (c ≡ Fine)) ⊎ ((¬ P) × (c ≡ Refused number (at_place at)))

-- True is not false.
pub apart : false ≡ true → ⊥
apart e = subst T (sym e) tt

-- A test by a truth value that is true exactly where P holds.
pub test_by : (P : Type 0) (b : Bool) (number at : ℕ) → (b ≡ true → P) → (P → b ≡ true) → Tests P number at (refuse_if (not b) number at)
test_by P true number at f g = inl (f refl, refl)
test_by P false number at f g = inr (λ p. apart (g p), refl)

-- A test that refuses where a truth value is true.
pub test_flag : (b : Bool) (number at : ℕ) → Tests (b ≡ false) number at (refuse_if b number at)
test_flag true number at = inr (λ e. apart (sym e), refl)
test_flag false number at = inl (refl, refl)

-- What is not false is true.
pub not_no : (b : Bool) → ¬ (b ≡ false) → b ≡ true
not_no true h = refl
not_no false h = absurd (h refl)

module _ {P : Type 0} {number at : ℕ} {c : Check} (t : Tests P number at c) where
  -- Where P holds, the check answers nothing.
  pub fine_where : P → c ≡ Fine
  fine_where p = ⊎_elim (λ r. r.1) (λ r. absurd (r.0 p)) t

  -- Where P doesn't hold, it refuses.
  pub refused_where : ¬ P → c ≡ Refused number (at_place at)
  refused_where n = ⊎_elim (λ r. absurd (n r.0)) (λ r. r.1) t

  -- Where it answers nothing, P holds.
  pub holds_where : c ≡ Fine → P
  holds_where e = ⊎_elim (λ r. r.0) (λ r. absurd (not_fine (sym r.1 ∙ e))) t

  -- A check that refuses does so by its own row.
  pub row_where : (R : ℕ → ℕ → Type 0) {n p : ℕ} → (¬ P → R number at) → c ≡ Refused n (at_place p) → R n p
  row_where R {n} {p} f e = ⊎_elim (λ r. absurd (not_fine (sym e ∙ r.1))) (λ r. go r.0 (sym r.1 ∙ e)) t
    where
      go : ¬ P → Refused number (at_place at) ≡ Refused n (at_place p) → R n p
      go h q =
          let a : number ≡ n = cc in
          let b : at_place at ≡ at_place p = cc in
          subst (λ (x : ℕ). R x p) a (subst (λ (x : ℕ). R number x) (ap place_no b) (f h))

-- ## Two checks

-- The row of two checks: of the first, or where that answers nothing, of the second.
pub then_row : (R : ℕ → ℕ → Type 0) (c d : Check) {n p : ℕ} → (c ≡ Refused n (at_place p) → R n p) → (c ≡ Fine → d ≡ Refused n (at_place p) → R n p)
    → then c d ≡ Refused n (at_place p) → R n p
then_row R Fine d a b e = b refl e
then_row R (Refused m q) d a b e = a e

-- Where the first of two checks refuses, both do.
pub then_first : (c d : Check) {n p : ℕ} → c ≡ Refused n (at_place p) → then c d ≡ Refused n (at_place p)
then_first c d e = ap (λ x. then x d) e

-- Where the first answers nothing, both answer what the second does.
pub then_second : (c d : Check) {x : Check} → c ≡ Fine → d ≡ x → then c d ≡ x
then_second c d e f = ap (λ x. then x d) e ∙ f

-- A test of P before another check.
module _ {P : Type 0} {number at : ℕ} {c : Check} (t : Tests P number at c) where
  -- Where P holds, both answer what the other does.
  pub fine_then : {d x : Check} → P → d ≡ x → then c d ≡ x
  fine_then {d} p e = then_second c d (fine_where t p) e

  -- Where P doesn't hold, both refuse.
  pub refused_then : (d : Check) → ¬ P → then c d ≡ Refused number (at_place at)
  refused_then d n = then_first c d (refused_where t n)

  -- Where both answer nothing, P holds and the other answers nothing.
  pub holds_then : (d : Check) → then c d ≡ Fine → P × (d ≡ Fine)
  holds_then d e =
      let a = then_fine c d e in
      (holds_where t a.0, a.1)

  -- Where both refuse, it is by the row of the test, or where P holds, by one of the other's.
  pub row_then : (R : ℕ → ℕ → Type 0) {d : Check} {n p : ℕ} → (¬ P → R number at) → (P → d ≡ Refused n (at_place p) → R n p)
      → then c d ≡ Refused n (at_place p) → R n p
  row_then R {d} f g = then_row R c d (row_where t R f) (λ e. g (holds_where t e))

-- The last check of a list refuses nothing.
pub no_row : (R : ℕ → ℕ → Type 0) {n p : ℕ} → Fine ≡ Refused n (at_place p) → R n p
no_row R e = absurd (not_fine (sym e))

-- ## Tests of numbers

-- A number within its limits.
pub test_between : (a b n number at : ℕ) → Tests (Between a b n) number at (refuse_if (not (leb a n && leb n b)) number at)
test_between a b n number at =
    test_by (Between a b n) (leb a n && leb n b) number at
    (λ e. let h = and_true (leb a n) _ e in (leb-true a n h.0, leb-true n b h.1))
    (λ h. and_both (leb a n) _ (le-leb a n h.0) (le-leb n b h.1))

-- A number that must be another.
pub test_same : (a b number at : ℕ) → Tests (a ≡ b) number at (refuse_if (not (eqb a b)) number at)
test_same a b number at = test_by (a ≡ b) (eqb a b) number at (eqb-true a b) (eq-eqb a b)

-- A number that must be 0 or another.
pub test_either : (m n number at : ℕ) → Tests (ZeroOr m n) number at (refuse_if (not (eqb n 0) && not (eqb n m)) number at)
test_either m n number at = go (eqb n 0) (eqb n m) refl refl
  where
    go : (a b : Bool) → eqb n 0 ≡ a → eqb n m ≡ b → Tests (ZeroOr m n) number at (refuse_if (not a && not b) number at)
    go true b p q = inl (inl (eqb-true n 0 p), refl)
    go false true p q = inl (inr (eqb-true n m q), refl)
    go false false p q = inr (⊎_elim (eqb-false n 0 p) (eqb-false n m q), refl)

-- A length that is enough.
pub test_room : (room size number at : ℕ) → Tests (size ≤ room) number at (refuse_if (ltb room size) number at)
test_room room size number at = go (ltb room size) refl
  where
    go : (b : Bool) → ltb room size ≡ b → Tests (size ≤ room) number at (refuse_if b number at)
    go true e = let h = ltb-true room size e in inr (λ n. let z : 1 ≤ 0 = omega arith in not-suc-le-zero z, refl)
    go false e = inl (ltb-false room size e, refl)

-- A length that is not enough is shorter.
pub not_enough : (room size : ℕ) → ¬ (size ≤ room) → room < size
not_enough room size h = ⊎_elim (λ p. absurd (h p)) (λ p. p) (either (ltb room size) refl)
  where
    either : (b : Bool) → ltb room size ≡ b → (size ≤ room) ⊎ (room < size)
    either true e = inr (ltb-true room size e)
    either false e = inl (ltb-false room size e)

-- A length that is shorter is not enough.
pub too_short : (room size : ℕ) → room < size → ¬ (size ≤ room)
too_short room size l h = let z : 1 ≤ 0 = omega arith in not-suc-le-zero z

-- ## The first of a walk

-- The first of k checks along a walk that refuses is the j-th, at its place.
pub record First (f : ℕ → Check) (w k at number place : ℕ) : Type 0 where
  pub j : ℕ
  pub below : j < k
  pub before : (i : ℕ) → i < j → f (at + i * w) ≡ Fine
  pub here : f (at + j * w) ≡ Refused number (at_place place)

-- Where a walk refuses, the first of its checks that refuses is the one that the answer comes from.
pub first_is : (f : ℕ → Check) (w k at number place : ℕ) → first_of (walk f w k at) ≡ Refused number (at_place place) → First f w k at number place
first_is f w zero at number place e = absurd (not_fine (sym e))
first_is f w (suc k) at number place e = go (λ h. first_is f w k (at + w) number place h) (f at) refl e
  where
    go : (first_of (walk f w k (at + w)) ≡ Refused number (at_place place) → First f w k (at + w) number place)
        → (c : Check) → f at ≡ c → then c (first_of (walk f w k (at + w))) ≡ Refused number (at_place place) → First f w (suc k) at number place
    go rest Fine q e =
        let r = rest e in
        record {
          j = suc r.j;
          below = omega (arith, r.below);
          before = λ i l. earlier r i l;
          here = ap f (at_suc at w r.j) ∙ r.here;
        }
      where
        earlier : (r : First f w k (at + w) number place) (i : ℕ) → i < suc r.j → f (at + i * w) ≡ Fine
        earlier r zero l = ap f (at_zero at w) ∙ q
        earlier r (suc i) l = ap f (at_suc at w i) ∙ r.before i (omega arith)
    go rest (Refused m p) q e =
        record { j = 0; below = omega arith; before = λ i l. absurd (not-suc-le-zero l); here = ap f (at_zero at w) ∙ q ∙ e }

-- And the first of the checks that refuses is the answer.
pub first_of_lem : (f : ℕ → Check) (w k at number place : ℕ) → First f w k at number place → first_of (walk f w k at) ≡ Refused number (at_place place)
first_of_lem f w k at number place r = go k at r.j r.below r.before r.here
  where
    go : (k at j : ℕ) → j < k → ((i : ℕ) → i < j → f (at + i * w) ≡ Fine) → f (at + j * w) ≡ Refused number (at_place place)
        → first_of (walk f w k at) ≡ Refused number (at_place place)
    go zero at j l b h = absurd (not-suc-le-zero l)
    go (suc k) at zero l b h = ap (λ c. then c (first_of (walk f w k (at + w)))) (sym (ap f (at_zero at w)) ∙ h)
    go (suc k) at (suc j) l b h =
        ap (λ c. then c (first_of (walk f w k (at + w)))) (sym (ap f (at_zero at w)) ∙ b 0 (omega arith))
        ∙ go k (at + w) j (omega arith) (λ i m. sym (ap f (at_suc at w i)) ∙ b (suc i) (omega arith)) (sym (ap f (at_suc at w j)) ∙ h)

-- Where a walk refuses nothing, none of its checks does.
pub none_is : (f : ℕ → Check) (w k at : ℕ) → first_of (walk f w k at) ≡ Fine → (j : ℕ) → j < k → f (at + j * w) ≡ Fine
none_is f w zero at e j l = absurd (not-suc-le-zero l)
none_is f w (suc k) at e zero l = ap f (at_zero at w) ∙ (then_fine (f at) _ e).0
none_is f w (suc k) at e (suc j) l = ap f (at_suc at w j) ∙ none_is f w k (at + w) (then_fine (f at) _ e).1 j (omega arith)

-- And where none of them does, the walk refuses nothing.
pub none_of : (f : ℕ → Check) (w k at : ℕ) → ((j : ℕ) → j < k → f (at + j * w) ≡ Fine) → first_of (walk f w k at) ≡ Fine
none_of f w zero at h = refl
none_of f w (suc k) at h =
    ap (λ c. then c (first_of (walk f w k (at + w)))) (sym (ap f (at_zero at w)) ∙ h 0 (omega arith))
    ∙ none_of f w k (at + w) (λ j l. sym (ap f (at_suc at w j)) ∙ h (suc j) (omega arith))

-- ## Tests along a walk

-- k checks along a walk, of which the j-th tests P j.
module _ (P : ℕ → Type 0) (number : ℕ) (f : ℕ → Check) (w k at : ℕ) (place : ℕ → ℕ) (t : (j : ℕ) → j < k → Tests (P j) number (place j) (f (at + j * w))) where
  -- Where P holds all along, they answer nothing.
  pub walk_fine : ((j : ℕ) → j < k → P j) → first_of (walk f w k at) ≡ Fine
  walk_fine h = none_of f w k at (λ j l. fine_where (t j l) (h j l))

  -- Where they answer nothing, P holds all along.
  pub walk_holds : first_of (walk f w k at) ≡ Fine → (j : ℕ) → j < k → P j
  walk_holds e j l = holds_where (t j l) (none_is f w k at e j l)

  -- Where P first fails at j, the j-th refuses.
  pub walk_refused : (j : ℕ) → j < k → ((i : ℕ) → i < j → P i) → ¬ (P j) → first_of (walk f w k at) ≡ Refused number (at_place (place j))
  walk_refused j l h n =
      first_of_lem f w k at number (place j)
      (record { j = j; below = l; before = λ i m. fine_where (t i (omega arith)) (h i m); here = refused_where (t j l) n })

  -- Where they refuse, it is by the row of the first at which P fails.
  pub walk_row : (R : ℕ → ℕ → Type 0) {n p : ℕ} → ((j : ℕ) → j < k → ((i : ℕ) → i < j → P i) → ¬ (P j) → R number (place j))
      → first_of (walk f w k at) ≡ Refused n (at_place p) → R n p
  walk_row R {n} {p} g e =
      let r = first_is f w k at n p e in
      let l : r.j < k = r.below in
      row_where (t r.j l) R (g r.j l (λ i m. holds_where (t i (omega arith)) (r.before i m))) r.here

-- ## A table of rows

-- Where the rows against a call are exact, its checks find nothing exactly where no row applies.
pub fine_none : (R : ℕ → ℕ → Type 0) (c : Check) → ((number place : ℕ) → Iff (c ≡ Refused number (at_place place)) (R number place))
    → Iff (c ≡ Fine) ((number place : ℕ) → ¬ (R number place))
fine_none R c exact = (λ e number place r. not_fine (sym ((exact number place).1 r) ∙ e), there c exact)
  where
    there : (c : Check) → ((number place : ℕ) → Iff (c ≡ Refused number (at_place place)) (R number place)) → ((number place : ℕ) → ¬ (R number place)) → c ≡ Fine
    there Fine exact h = refl
    there (Refused number place) exact h = absurd (h number (place_no place) ((exact number (place_no place)).0 refl))
