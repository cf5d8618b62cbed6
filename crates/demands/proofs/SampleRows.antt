-- # The rows of 12 and 13 in a trace's samples
--
-- A field that doesn't stand is refused by 12, a pair that isn't canonical by 13, whichever comes first: field by field, the field itself
-- before its pairs. Assumes nothing.
use mathlib.Core.Path.{◌≡◌, refl, sym, ap, ◌∙◌, subst}
use mathlib.Core.Logic.{⊎_elim}
use mathlib.Core.List.{List}
use mathlib.Core.Bool.{true}
use Prim.Native.Nat.{ℕ, suc, ◌+◌, ◌-◌, ◌*◌, ◌/◌, ◌%◌, ◌≤◌, ◌<◌}
use native.Mathlib.Nat.{suc-mul, div-add-mod', mod-lt, mul-le-mul_right}
use native.Mathlib.Omega.{arith}
use Rattle.numbers.specs.Walk.{walk, bytes_at}
use Rattle.numbers.specs.Cause.{then, first_of}
use Rattle.numbers.specs.Cause.{Check}
use Rattle.numbers.specs.Cause.{Fine, Refused}
use Rattle.numbers.proofs.SignLaws.{below_or}
use Rattle.numbers.proofs.CauseLaws.{then_fine}
use Rattle.record.specs.Form.{field_cause, pair_cause_in, field_form_in, share_in, samples_causes_in}
use Rattle.numbers.specs.Terms.{at_place}
use Rattle.numbers.proofs.RowLaws.{Tests, test_by, fine_where, holds_where, refused_where, row_where, then_row, then_first, then_second, first_is, first_of_lem, walk_fine, walk_holds, walk_refused, walk_row}
use Rattle.numbers.specs.Iff.{Iff}
use Rattle.demands.specs.ValidRecord.{Stands}
use Rattle.demands.proofs.Valid.{test_field}
use Rattle.fields.specs.Fields.{fields_in, field_count, field_place, pair_place, in_fields}
use Rattle.record.specs.Kind.{Kind}
use Rattle.fields.proofs.FieldsLaws.{step_is, place_of, field_in_lem, field_some}
use Rattle.record.proofs.FormLaws.{share_some}

-- ## The rows

-- The pair at a place is canonical.
abbrev pub CanonicalIn : Kind → List ℕ → ℕ → Type 0
CanonicalIn k s at = k.canonical (bytes_at s at k.width) ≡ true

test_pair : (k : Kind) (s : List ℕ) (at : ℕ) → Tests (CanonicalIn k s at) 13 at (pair_cause_in k s at)
test_pair k s at = test_by (CanonicalIn k s at) (k.canonical (bytes_at s at k.width)) 13 at (λ e. e) (λ e. e)

module _ (k : Kind) (s : List ℕ) (n at : ℕ) where
  -- Field f of the samples stands with its samples; pair j is canonical.
  abbrev pub FieldRight : ℕ → Type 0
  FieldRight f = Stands s k.tag (field_count (share_in k s n at) n f * k.width) (field_place k.width (share_in k s n at) at f)

  abbrev pub PairRight : ℕ → Type 0
  PairRight j = CanonicalIn k s (pair_place k.width (share_in k s n at) at j)

  -- 12 and 13 against the n samples whose first field should stand at the place `at`.
  pub data Row : ℕ → ℕ → Type 0 where
    -- field f doesn't stand; those before it do, and their pairs are canonical
    no_field : (f : ℕ) → f < fields_in (share_in k s n at) n → ((g : ℕ) → g < f → FieldRight g) → ((j : ℕ) → j < f * share_in k s n at → PairRight j) → ¬ (FieldRight f)
        → Row 12 (field_place k.width (share_in k s n at) at f)
    -- pair j isn't canonical; those before it are, and its field and those before it stand
    bad_pair : (j : ℕ) → j < n → ((g : ℕ) → g * share_in k s n at ≤ j → FieldRight g) → ((i : ℕ) → i < j → PairRight i) → ¬ (PairRight j)
        → Row 13 (pair_place k.width (share_in k s n at) at j)

  -- The causes of field f.
  abbrev cause_of : ℕ → Check
  cause_of f = field_form_in k s (field_count (share_in k s n at) n f) (field_place k.width (share_in k s n at) at f)

  abbrev tag_of : ℕ → Check
  tag_of f = field_cause s k.tag (field_count (share_in k s n at) n f * k.width) (field_place k.width (share_in k s n at) at f)

  abbrev pairs_of : ℕ → Check
  pairs_of f = first_of (walk (pair_cause_in k s) k.width (field_count (share_in k s n at) n f) (field_place k.width (share_in k s n at) at f + 3))

  cause_is : (f : ℕ) → cause_of f ≡ then (tag_of f) (pairs_of f)
  unfolding field_form_in
  cause_is f = refl

  by_field : samples_causes_in k s n at ≡ first_of (walk cause_of 1 (fields_in (share_in k s n at) n) 0)
  unfolding samples_causes_in in_fields
  by_field = refl

  -- The test of sample i of field f.
  tests : (f i : ℕ) → i < field_count (share_in k s n at) n f
      → Tests (PairRight (f * share_in k s n at + i)) 13 (pair_place k.width (share_in k s n at) at (f * share_in k s n at + i)) (pair_cause_in k s (field_place k.width (share_in k s n at) at f + 3 + i * k.width))
  tests f i l =
      subst (λ (x : ℕ). Tests (CanonicalIn k s x) 13 x (pair_cause_in k s (field_place k.width (share_in k s n at) at f + 3 + i * k.width)))
      (sym (place_of (share_in k s n at) (share_some k s n at) k.width at f i (omega arith))) (test_pair k s (field_place k.width (share_in k s n at) at f + 3 + i * k.width))

  -- A field in which nothing is found stands, and its pairs are canonical,
  field_right : (f : ℕ) → cause_of f ≡ Fine → FieldRight f
  field_right f e = holds_where (test_field s k.tag _ _) (then_fine (tag_of f) _ (sym (cause_is f) ∙ e)).0

  pairs_right : (f : ℕ) → cause_of f ≡ Fine → (i : ℕ) → i < field_count (share_in k s n at) n f → PairRight (f * share_in k s n at + i)
  pairs_right f e =
      walk_holds (λ i. PairRight (f * share_in k s n at + i)) 13 (pair_cause_in k s) k.width (field_count (share_in k s n at) n f) (field_place k.width (share_in k s n at) at f + 3)
      (λ i. pair_place k.width (share_in k s n at) at (f * share_in k s n at + i)) (tests f) (then_fine (tag_of f) _ (sym (cause_is f) ∙ e)).1

  -- and where it stands and they are, nothing is found.
  cause_fine : (f : ℕ) → FieldRight f → ((i : ℕ) → i < field_count (share_in k s n at) n f → PairRight (f * share_in k s n at + i)) → cause_of f ≡ Fine
  cause_fine f h p =
      cause_is f
      ∙ then_second (tag_of f) (pairs_of f) (fine_where (test_field s k.tag _ _) h)
      (walk_fine (λ i. PairRight (f * share_in k s n at + i)) 13 (pair_cause_in k s) k.width (field_count (share_in k s n at) n f) (field_place k.width (share_in k s n at) at f + 3)
      (λ i. pair_place k.width (share_in k s n at) at (f * share_in k s n at + i)) (tests f) p)

  -- Each pair before field f stands in a field before it.
  before_field : (f : ℕ) → f * share_in k s n at ≤ n → ((g : ℕ) → g < f → cause_of g ≡ Fine) → (j : ℕ) → j < f * share_in k s n at → PairRight j
  before_field f few h j l =
      let c = share_in k s n at in
      let e : j / c * c + j % c ≡ j = div-add-mod' j c in
      let m : j % c < c = mod-lt j (share_some k s n at) in
      let g : j / c < f = below (j / c) (omega arith) in
      subst PairRight e (pairs_right (j / c) (h (j / c) g) (j % c) (omega arith))
    where
      below : (q : ℕ) → q * share_in k s n at < f * share_in k s n at → q < f
      below q l = ⊎_elim (λ x. x) (λ (x : f ≤ q). absurd (no (mul-le-mul_right (share_in k s n at) x))) (below_or q f)
        where
          no : f * share_in k s n at ≤ q * share_in k s n at → ⊥
          no x = omega arith

  -- Sample i of field g comes before field f, where g does.
  earlier : (g f i : ℕ) → g < f → i < share_in k s n at → g * share_in k s n at + i < f * share_in k s n at
  earlier g f i l m =
      let x : suc g * share_in k s n at ≤ f * share_in k s n at = mul-le-mul_right (share_in k s n at) l in
      omega (arith, suc-mul g (share_in k s n at))

  -- LAW. What is refused is refused by a row,
  pub row_is : (number place : ℕ) → samples_causes_in k s n at ≡ Refused number (at_place place) → Row number place
  row_is number place e =
      let r = first_is cause_of 1 (fields_in (share_in k s n at) n) 0 number place (sym by_field ∙ e) in
      let f = r.j in
      let was : (g : ℕ) → g < f → cause_of g ≡ Fine = λ g l. ap cause_of (sym (step_is g)) ∙ r.before g l in
      let in_field = field_some (share_in k s n at) (share_some k s n at) f n r.below in
      let before = before_field f (omega arith) was in
      then_row Row (tag_of f) (pairs_of f)
      (row_where (test_field s k.tag _ _) Row (no_field f r.below (λ g l. field_right g (was g l)) before))
      (λ q x.
      walk_row (λ i. PairRight (f * share_in k s n at + i)) 13 (pair_cause_in k s) k.width (field_count (share_in k s n at) n f) (field_place k.width (share_in k s n at) at f + 3)
      (λ i. pair_place k.width (share_in k s n at) at (f * share_in k s n at + i)) (tests f) Row
      (λ i l p m. bad f i (holds_where (test_field s k.tag _ _) q) (λ g y. field_right g (was g y)) before l p m) x)
      (sym (cause_is f) ∙ sym (ap cause_of (step_is f)) ∙ r.here)
    where
      bad : (f i : ℕ) → FieldRight f → ((g : ℕ) → g < f → FieldRight g) → ((j : ℕ) → j < f * share_in k s n at → PairRight j) → i < field_count (share_in k s n at) n f
          → ((h : ℕ) → h < i → PairRight (f * share_in k s n at + h)) → ¬ (PairRight (f * share_in k s n at + i)) → Row 13 (pair_place k.width (share_in k s n at) at (f * share_in k s n at + i))
      bad f i here was before l p m = bad_pair (f * share_in k s n at + i) (omega arith) stands canonical m
        where
          stands : (g : ℕ) → g * share_in k s n at ≤ f * share_in k s n at + i → FieldRight g
          stands g x =
              ⊎_elim (λ (y : g < f). was g y)
              (λ (y : f ≤ g). ⊎_elim (λ (z : f < g). absurd (no (mul-le-mul_right (share_in k s n at) z))) (λ (z : g ≤ f). let q : f ≡ g = omega arith in subst FieldRight q here) (below_or f g)) (below_or g f)
            where
              no : suc f * share_in k s n at ≤ g * share_in k s n at → ⊥
              no z = omega (arith, suc-mul f (share_in k s n at))

          canonical : (j : ℕ) → j < f * share_in k s n at + i → PairRight j
          canonical j x =
              ⊎_elim (λ (y : j < f * share_in k s n at). before j y)
              (λ (y : f * share_in k s n at ≤ j). let q : f * share_in k s n at + (j - f * share_in k s n at) ≡ j = omega arith in subst PairRight q (p (j - f * share_in k s n at) (omega arith)))
              (below_or j (f * share_in k s n at))

  -- and a row refuses.
  pub is_row : (number place : ℕ) → Row number place → samples_causes_in k s n at ≡ Refused number (at_place place)
  is_row number place (no_field f l fs ps nf) =
      by_field
      ∙ first_of_lem cause_of 1 (fields_in (share_in k s n at) n) 0 12 (field_place k.width (share_in k s n at) at f)
      (record {
        j = f;
        below = l;
        before = λ g m. ap cause_of (step_is g) ∙ cause_fine g (fs g m) (λ i q. ps (g * share_in k s n at + i) (earlier g f i m (omega arith)));
        here = ap cause_of (step_is f) ∙ cause_is f ∙ then_first (tag_of f) (pairs_of f) (refused_where (test_field s k.tag _ _) nf);
      })
  is_row number place (bad_pair j l fs ps np) =
      let c = share_in k s n at in
      let f = j / c in
      let i = j % c in
      let e : f * c + i ≡ j = div-add-mod' j c in
      let m : i < c = mod-lt j (share_some k s n at) in
      by_field
      ∙ first_of_lem cause_of 1 (fields_in (share_in k s n at) n) 0 13 (pair_place k.width c at j)
      (record {
        j = f;
        below = field_in_lem c (share_some k s n at) n f (omega arith);
        before = λ g x. ap cause_of (step_is g) ∙ cause_fine g (fs g (starts g x e)) (λ h q. ps (g * c + h) (sooner g h x (omega arith) e));
        here =
            ap cause_of (step_is f) ∙ cause_is f
            ∙ then_second (tag_of f) (pairs_of f) (fine_where (test_field s k.tag _ _) (fs f (omega arith)))
            (walk_refused (λ h. PairRight (f * c + h)) 13 (pair_cause_in k s) k.width (field_count c n f) (field_place k.width c at f + 3) (λ h. pair_place k.width c at (f * c + h)) (tests f) i (omega arith)
            (λ h q. ps (f * c + h) (omega arith)) (subst (λ (x : ℕ). ¬ (PairRight x)) (sym e) np)
            ∙ ap (λ (x : ℕ). Refused 13 (at_place (pair_place k.width c at x))) e);
      })
    where
      starts : (g : ℕ) → g < j / share_in k s n at → j / share_in k s n at * share_in k s n at + j % share_in k s n at ≡ j → g * share_in k s n at ≤ j
      starts g x e = let y : suc g * share_in k s n at ≤ j / share_in k s n at * share_in k s n at = mul-le-mul_right (share_in k s n at) x in omega (arith, suc-mul g (share_in k s n at))

      sooner : (g h : ℕ) → g < j / share_in k s n at → h < share_in k s n at → j / share_in k s n at * share_in k s n at + j % share_in k s n at ≡ j → g * share_in k s n at + h < j
      sooner g h x m e = let y = earlier g (j / share_in k s n at) h x m in omega arith

  -- LAW. The rows are exact.
  pub rows : (number place : ℕ) → Iff (samples_causes_in k s n at ≡ Refused number (at_place place)) (Row number place)
  rows number place = (row_is number place, is_row number place)
