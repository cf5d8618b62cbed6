-- Walks over numbers 0, 1 and so on: the first cause along them, a run of tests, and what stands at places that are given by number.
-- Assumes nothing.
use mathlib.Core.Path.{◌≡◌, refl, sym, ap, ◌∙◌, subst}
use mathlib.Core.Logic.{◌⊎◌, inl, inr}
use mathlib.Core.Bool.{Bool, true, false}
use mathlib.Core.List.{List, [], ◌∷◌, ◌++◌, map}
use Prim.Native.Nat.{ℕ, zero, suc, ◌+◌, ◌-◌, ◌≤◌, ◌<◌}
use native.Mathlib.Nat.{add-zero, not-suc-le-zero}
use native.Mathlib.Omega.{arith}
use Rattle.numbers.specs.Walk.{pick, flat}
use Rattle.numbers.specs.Cause.{then, first_of}
use Rattle.numbers.specs.Cause.{Check}
use Rattle.numbers.specs.Cause.{Fine}
use Rattle.numbers.specs.Terms.{All}
use Rattle.numbers.proofs.AllLaws.{all_each}
use Rattle.numbers.proofs.WalkLaws.{map_walk}
use Rattle.numbers.proofs.CauseLaws.{then_assoc}
use Rattle.numbers.proofs.RowLaws.{none_is, none_of}
use Rattle.fields.specs.Fields.{each, run_from}
use Rattle.fields.proofs.FieldsLaws.{step_is}

-- ## Causes

-- Where none of the checks by number refuses, they refuse nothing, and the other way round.
pub each_fine : (f : ℕ → Check) (k : ℕ) → ((j : ℕ) → j < k → f j ≡ Fine) → first_of (each f k) ≡ Fine
each_fine f k h = none_of f 1 k 0 (λ j l. ap f (step_is j) ∙ h j l)

pub each_is : (f : ℕ → Check) (k : ℕ) → first_of (each f k) ≡ Fine → (j : ℕ) → j < k → f j ≡ Fine
each_is f k e j l = ap f (sym (step_is j)) ∙ none_is f 1 k 0 e j l

-- The first cause of two lists, one behind the other, and of lists joined.
pub first_append : (x y : List Check) → first_of (x ++ y) ≡ then (first_of x) (first_of y)
first_append [] y = refl
first_append (c ∷ x) y = ap (then c) (first_append x y) ∙ sym (then_assoc c (first_of x) (first_of y))

pub first_flat : (ls : List (List Check)) → first_of (flat ls) ≡ first_of (map first_of ls)
first_flat [] = refl
first_flat (l ∷ ls) = first_append l (flat ls) ∙ ap (then (first_of l)) (first_flat ls)

-- Lists of checks by number, joined: nothing is found where none of them finds anything, and the other way round.
pub flat_fine : (f : ℕ → List Check) (k : ℕ) → ((j : ℕ) → j < k → first_of (f j) ≡ Fine) → first_of (flat (each f k)) ≡ Fine
flat_fine f k h = first_flat (each f k) ∙ ap first_of (map_walk first_of f 1 k 0) ∙ each_fine (λ j. first_of (f j)) k h

pub flat_is : (f : ℕ → List Check) (k : ℕ) → first_of (flat (each f k)) ≡ Fine → (j : ℕ) → j < k → first_of (f j) ≡ Fine
flat_is f k e j l = each_is (λ j. first_of (f j)) k (sym (ap first_of (map_walk first_of f 1 k 0)) ∙ sym (first_flat (each f k)) ∙ e) j l

-- What holds for each number holds of all that they give.
pub each_all : {A : Type 0} (P : A → Type 0) (f : ℕ → A) (k : ℕ) → ((j : ℕ) → j < k → P (f j)) → All P (each f k)
each_all P f k h = all_each P f 1 k 0 (λ j l. subst (λ (x : ℕ). P (f x)) (sym (step_is j)) (h j l))

-- ## Runs

module _ (test : ℕ → Bool) where
  -- A run is no longer than may be counted.
  pub run_most : (most j : ℕ) → run_from test most j ≤ most
  unfolding run_from
  run_most zero j = omega arith
  run_most (suc most) j = go (test j) (run_most most (j + 1))
    where
      go : (b : Bool) → run_from test most (j + 1) ≤ most → pick b (suc (run_from test most (j + 1))) 0 ≤ suc most
      go true l = omega arith
      go false l = omega arith

  -- Each test of a run passes.
  pub run_are : (most j i : ℕ) → i < run_from test most j → test (j + i) ≡ true
  unfolding run_from
  run_are zero j i h = absurd (not-suc-le-zero h)
  run_are (suc most) j i h = go (λ x l. run_are most (j + 1) x l) (test j) refl i h
    where
      go : ((x : ℕ) → x < run_from test most (j + 1) → test (j + 1 + x) ≡ true) → (b : Bool) → test j ≡ b → (i : ℕ) → i < pick b (suc (run_from test most (j + 1))) 0
          → test (j + i) ≡ true
      go rest false e i h = absurd (not-suc-le-zero h)
      go rest true e zero h = ap test (add-zero j) ∙ e
      go rest true e (suc i) h = let a : j + suc i ≡ j + 1 + i = omega arith in ap test a ∙ rest i (omega arith)

  -- Behind a run a test fails, or no more may be counted.
  pub run_end : (most j : ℕ) → (run_from test most j ≡ most) ⊎ (test (j + run_from test most j) ≡ false)
  unfolding run_from
  run_end zero j = inl refl
  run_end (suc most) j = go (test j) refl (run_end most (j + 1))
    where
      r : ℕ
      r = run_from test most (j + 1)

      go : (b : Bool) → test j ≡ b → (r ≡ most) ⊎ (test (j + 1 + r) ≡ false) → (pick b (suc r) 0 ≡ suc most) ⊎ (test (j + pick b (suc r) 0) ≡ false)
      go true e (inl h) = inl (ap suc h)
      go true e (inr h) = let a : j + suc r ≡ j + 1 + r = omega arith in inr (ap test a ∙ h)
      go false e h = inr (ap test (add-zero j) ∙ e)

  -- k tests that pass are counted before those behind them.
  pub run_more : (most j k : ℕ) → k ≤ most → ((i : ℕ) → i < k → test (j + i) ≡ true) → run_from test most j ≡ k + run_from test (most - k) (j + k)
  unfolding run_from
  run_more most j zero h t =
      let b : most - 0 ≡ most = omega arith in
      rw (add-zero j, b) (omega arith)
  run_more zero j (suc k) h t = absurd (not-suc-le-zero h)
  run_more (suc most) j (suc k) h t =
      let here : test j ≡ true = ap test (sym (add-zero j)) ∙ t 0 (omega arith) in
      let c : suc most - suc k ≡ most - k = omega arith in
      let d : j + suc k ≡ j + 1 + k = omega arith in
      let rest = run_more most (j + 1) k (omega arith) (λ i l. let a : j + 1 + i ≡ j + suc i = omega arith in ap test a ∙ t (suc i) (omega arith)) in
      rw (here, c, d) (omega (arith, rest))

  -- A run that begins with a test that passes, and one that doesn't.
  pub run_one : (most j : ℕ) → 0 < most → test j ≡ true → run_from test most j ≡ suc (run_from test (most - 1) (j + 1))
  unfolding run_from
  run_one zero j h e = absurd (not-suc-le-zero h)
  run_one (suc most) j h e = let a : suc most - 1 ≡ most = omega arith in rw (e, a)

  pub run_none : (most j : ℕ) → test j ≡ false → run_from test most j ≡ 0
  unfolding run_from
  run_none zero j e = refl
  run_none (suc most) j e = rw e
