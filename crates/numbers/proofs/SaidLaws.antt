-- What a call says and what it leaves in its output, by what its checks answer. Assumes nothing.
use Rattle.std.proofs.Common.{◌≡◌, ℕ, ◌≤◌, ◌⊎◌, List, ◌++◌, length, drop, sym, refl, ap, ◌∙◌, subst, inl, inr, arith, length-append, length-drop, drop_at}
use Rattle.numbers.specs.Places.{place_no}
use Rattle.numbers.specs.Outcome.{Said, taken, refused, Outcome}
use Rattle.numbers.specs.Iff.{Iff}
use Rattle.numbers.specs.Terms.{at_place}
use Rattle.numbers.specs.declared.Place.{Place}
use Rattle.numbers.specs.Cause.{Check, Fine, Refused}
use Rattle.numbers.proofs.RowLaws.{fine_none}

-- A call that says it refused does not say it took.
pub not_taken : {number place : ℕ} {values : List ℕ} → ¬ (refused number place ≡ taken values)
not_taken p =
    let z : ◌≡◌ {A = ℕ} 0 1 = cc in
    omega arith

-- Where A holds exactly when B does, and B exactly when C does, A holds exactly when C does.
pub iff_trans : {A B C : Type 0} → Iff A B → Iff B C → Iff A C
iff_trans p q = (λ a. q.0 (p.0 a), λ c. p.1 (q.1 c))

-- ## What a call says

-- A call says what its checks answer: taken with its values where they find nothing, else the number and place that they refuse with.
module _ (say : Check → Said) (values : List ℕ) (fine : say Fine ≡ taken values) (row : (number : ℕ) (place : Place) → say (Refused number place) ≡ refused number (place_no place)) where
  -- It says that it refused, by a number with a place, exactly where its checks refuse so.
  pub says_refused : (c : Check) (number place : ℕ) → Iff (say c ≡ refused number place) (c ≡ Refused number (at_place place))
  says_refused c number place = (there c, λ e. ap say e ∙ row number (at_place place))
    where
      same : (m n : ℕ) (q : Place) → refused m (place_no q) ≡ refused n place → Refused m q ≡ Refused n (at_place place)
      same m n q e =
          let a : m ≡ n = cc in
          let b : place_no q ≡ place = cc in
          let r : q ≡ at_place place = ap at_place b in
          cc

      there : (c : Check) → say c ≡ refused number place → c ≡ Refused number (at_place place)
      there Fine e = absurd (not_taken (sym e ∙ fine))
      there (Refused m q) e = same m number q (sym (row m q) ∙ e)

  -- Where it says that it took, they find nothing.
  pub says_fine : (c : Check) (numbers : List ℕ) → say c ≡ taken numbers → c ≡ Fine
  says_fine Fine numbers e = refl
  says_fine (Refused m q) numbers e = absurd (not_taken (sym (row m q) ∙ e))

  -- So it took, with those values, exactly where they find nothing.
  pub says_taken : (c : Check) → Iff (say c ≡ taken values) (c ≡ Fine)
  says_taken c = (says_fine c values, λ e. ap say e ∙ fine)

  -- It comes to a defined end: it took with those values, or it refused by a number with a place.
  pub says_either : (c : Check) → (say c ≡ taken values) ⊎ ((number : ℕ) × (place : ℕ) × (say c ≡ refused number place))
  says_either Fine = inl fine
  says_either (Refused number place) = inr (number, place_no place, row number place)

  -- A table of rows that are exact against the checks c.
  module _ (R : ℕ → ℕ → Type 0) (c : Check) (exact : (number place : ℕ) → Iff (c ≡ Refused number (at_place place)) (R number place)) where
    -- It is refused exactly when a row applies, by its number and place,
    pub refused_by : (number place : ℕ) → Iff (say c ≡ refused number place) (R number place)
    refused_by number place = iff_trans (says_refused c number place) (exact number place)

    -- and taken, with those values, exactly when no row applies.
    pub taken_by : Iff (say c ≡ taken values) ((number place : ℕ) → ¬ (R number place))
    taken_by = iff_trans (says_taken c) (fine_none R c exact)

-- ## What a call leaves in its output

-- Bytes at an output's front, l of them, leave its length and the bytes behind them as they were.
pub behind : (front out : List ℕ) (l : ℕ) → length front ≡ l → l ≤ length out
    → (length (front ++ drop l out) ≡ length out) × (drop l (front ++ drop l out) ≡ drop l out)
behind front out l e h = (omega (arith, length-append front (drop l out), length-drop l out), drop_at front (drop l out) l e)

-- A call that puts l bytes to its output's front where its checks find nothing leaves the output's length, and each byte behind those, as
-- they were.
pub keeps_rest : (end : Check → Outcome) (front out : List ℕ) (l : ℕ) (c : Check) → (end Fine).bytes ≡ front ++ drop l out → c ≡ Fine → length front ≡ l → l ≤ length out
    → (length (end c).bytes ≡ length out) × (drop l (end c).bytes ≡ drop l out)
keeps_rest end front out l c is e size room =
    subst (λ (b : List ℕ). (length b ≡ length out) × (drop l b ≡ drop l out)) (sym (ap (λ (x : Check). (end x).bytes) e ∙ is)) (behind front out l size room)
