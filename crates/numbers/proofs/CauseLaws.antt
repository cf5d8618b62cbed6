-- The first cause, found a step at a time, and what follows where there is none.
-- Assumes nothing.
use Rattle.std.proofs.Common.{◌≡◌, ℕ, zero, suc, ◌+◌, ◌-◌, ◌*◌, ◌<◌, ◌≤◌, Bool, true, false, not, ltb, Result, Ok, Err, List, [], ◌∷◌, sym, refl, ap, ◌∙◌, not-suc-le-zero, arith, ltb-false}
use Rattle.numbers.specs.Terms.{All}
use Rattle.numbers.specs.Walk.{walk, pick}
use Rattle.numbers.specs.Cause.{cause_no, checked, refuse_if, then, first_of}
use Rattle.numbers.specs.declared.Place.{Place}
use Rattle.numbers.specs.declared.Refusal.{Refusal}
use Rattle.numbers.specs.Places.{place_no}
use Rattle.numbers.specs.Cause.{Check, Fine, Refused}
use Rattle.numbers.proofs.WalkLaws.{walk_more, all_walk, at_zero, times_more}

-- ## A test

-- A test that answers with a refusal where it fails is the row of the table that refuses there, by the refusal's cause and place.
pub checked_test : (b : Bool) (r : Refusal) → checked (pick b (Ok tt) (Err r)) ≡ refuse_if (not b) (cause_no r.cause) (place_no r.place)
checked_test true r = refl
checked_test false r = refl

-- So is what such a test answered.
pub checked_answer : (b : Bool) (r : Refusal) {answer : Result (Unit {0}) Refusal} → answer ≡ pick b (Ok tt) (Err r)
    → checked answer ≡ refuse_if (not b) (cause_no r.cause) (place_no r.place)
checked_answer b r e = ap checked e ∙ checked_test b r

-- ## A step at a time

-- A check that refuses is the answer, whatever check comes after it.
pub then_stop : (c d : Check) {number : ℕ} {place : Place} → c ≡ Refused number place → c ≡ then c d
then_stop c d e = e ∙ ap (λ x. then x d) (sym e)

-- After a check that finds nothing, the next is the answer.
pub then_next : (c d : Check) → c ≡ Fine → d ≡ then c d
then_next c d e = ap (λ x. then x d) (sym e)

-- Checks one after the other, however they are grouped.
pub then_assoc : (a b c : Check) → then (then a b) c ≡ then a (then b c)
then_assoc Fine b c = refl
then_assoc (Refused number place) b c = refl

-- A check before none.
pub then_last : (c : Check) → then c Fine ≡ c
then_last Fine = refl
then_last (Refused number place) = refl

-- A walk of no step finds nothing.
pub first_none : (f : ℕ → Check) (w k at : ℕ) → k ≤ 0 → Fine ≡ first_of (walk f w k at)
first_none f w zero at h = refl
first_none f w (suc k) at h = absurd (not-suc-le-zero h)

-- A walk of at least one step.
module _ (f : ℕ → Check) (w k at : ℕ) where
  step : 0 < k → first_of (walk f w k at) ≡ then (f at) (first_of (walk f w (k - 1) (at + w)))
  step h = rw (walk_more f w k at)

  -- Where the check at its first offset finds nothing, the answer is that of the walk from the next offset on.
  pub first_more : 0 < k → f at ≡ Fine → first_of (walk f w k at) ≡ first_of (walk f w (k - 1) (at + w))
  first_more h e = step h ∙ ap (λ x. then x (first_of (walk f w (k - 1) (at + w)))) e

  -- Where the check at its first offset refuses, that is the answer.
  pub first_stop : {number : ℕ} {place : Place} → 0 < k → f at ≡ Refused number place
      → first_of (walk f w k at) ≡ Refused number place
  first_stop h e = step h ∙ ap (λ x. then x (first_of (walk f w (k - 1) (at + w)))) e

-- ## A walk by index

-- None of the first i checks of a walk of n refuses, so that its answer is that of the rest.
abbrev pub NoneBefore : (ℕ → Check) → ℕ → ℕ → ℕ → ℕ → Type 0
NoneBefore f w n at i = first_of (walk f w n at) ≡ first_of (walk f w (n - i) (at + i * w))

module _ (f : ℕ → Check) (w n at : ℕ) where
  pub none_yet : NoneBefore f w n at 0
  none_yet =
      let e : at + 0 * w ≡ at = at_zero at w in
      let z : n - 0 ≡ n = omega arith in
      rw (e, z) refl

  turn : (i : ℕ) → i < n → first_of (walk f w (n - i) (at + i * w)) ≡ then (f (at + i * w)) (first_of (walk f w (n - (i + 1)) (at + (i + 1) * w)))
  turn i h =
      let k : n - i - 1 ≡ n - (i + 1) = omega arith in
      let o : i + 1 - 1 ≡ i = omega arith in
      let m : (i + 1) * w ≡ w + i * w = times_more (i + 1) w (omega arith) ∙ ap (λ (k : ℕ). w + k * w) o in
      let p : at + i * w + w ≡ at + (i + 1) * w = omega (arith, m) in
      rw (walk_more f w (n - i) (at + i * w) (omega arith), k, p) refl

  -- The check at the index finds nothing.
  pub none_more : (i : ℕ) → i < n → NoneBefore f w n at i → f (at + i * w) ≡ Fine → NoneBefore f w n at (i + 1)
  none_more i h q e = q ∙ turn i h ∙ ap (λ x. then x (first_of (walk f w (n - (i + 1)) (at + (i + 1) * w)))) e

  -- It refuses, and that is the answer.
  pub none_stop : (i : ℕ) {number : ℕ} {place : Place} → i < n → NoneBefore f w n at i → f (at + i * w) ≡ Refused number place
      → Refused number place ≡ first_of (walk f w n at)
  none_stop i h q e = sym (q ∙ turn i h ∙ ap (λ x. then x (first_of (walk f w (n - (i + 1)) (at + (i + 1) * w)))) e)

  -- None of all n refuses.
  pub none_left : (i : ℕ) → n ≤ i → NoneBefore f w n at i → Fine ≡ first_of (walk f w n at)
  none_left i h q = first_none f w (n - i) (at + i * w) (omega arith) ∙ sym q

-- ## Where there is no cause

-- A refusal is not `Fine`.
pub not_fine : {number : ℕ} {place : Place} → Refused number place ≡ Fine → ⊥
not_fine p =
    let z : ◌≡◌ {A = ℕ} 0 1 = cc in
    omega arith

-- The test of a row that refuses nothing is false.
pub passed : (test : Bool) (number place : ℕ) → refuse_if test number place ≡ Fine → test ≡ false
passed true number place e = absurd (not_fine e)
passed false number place e = refl

-- A row that refuses what is above a limit leaves only what is at most the limit.
pub at_most : (limit n number place : ℕ) → refuse_if (ltb limit n) number place ≡ Fine → n ≤ limit
at_most limit n number place e = ltb-false limit n (passed (ltb limit n) number place e)

-- Where two checks, one after the other, find nothing, neither does.
pub then_fine : (c d : Check) → then c d ≡ Fine → (c ≡ Fine) × (d ≡ Fine)
then_fine Fine d e = (refl, e)
then_fine (Refused number place) d e = absurd (not_fine e)

-- Each check of a list finds nothing.
abbrev pub AllFine : List Check → Type 0
AllFine = All (λ c. c ≡ Fine)

-- Where a list of checks finds nothing, none of them does.
pub each_fine : (cs : List Check) → first_of cs ≡ Fine → AllFine cs
each_fine [] e = tt
each_fine (c ∷ cs) e =
    let p = then_fine c (first_of cs) e in
    (p.0, each_fine cs p.1)

-- And where none of them finds anything, the list finds nothing.
pub fine_each : (cs : List Check) → AllFine cs → first_of cs ≡ Fine
fine_each [] h = refl
fine_each (c ∷ cs) h = rw h.0 (fine_each cs h.1)

-- Where a check that finds nothing shows P of the value at its offset, checks along a walk that find nothing show P of each value along it.
pub first_all : {A : Type 0} (f : ℕ → Check) (g : ℕ → A) (P : A → Type 0) → ((a : ℕ) → f a ≡ Fine → P (g a))
    → (w k at : ℕ) → first_of (walk f w k at) ≡ Fine → All P (walk g w k at)
first_all f g P h w k at e = all_walk (λ c. c ≡ Fine) P f g h w k at (each_fine (walk f w k at) e)

-- And where P of the value at an offset shows that the check there finds nothing, P of each value along a walk shows that the checks along
-- it find nothing.
pub all_first : {A : Type 0} (f : ℕ → Check) (g : ℕ → A) (P : A → Type 0) → ((a : ℕ) → P (g a) → f a ≡ Fine)
    → (w k at : ℕ) → All P (walk g w k at) → first_of (walk f w k at) ≡ Fine
all_first f g P h w k at p = fine_each (walk f w k at) (all_walk P (λ c. c ≡ Fine) g f h w k at p)
