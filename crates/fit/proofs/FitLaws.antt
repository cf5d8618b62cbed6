-- What the checks of a record for a target code find, and what follows where they find nothing. Assumes nothing.
use mathlib.Core.Path.{◌≡◌, refl, sym, ap, ap₂, ◌∙◌}
use mathlib.Core.List.{List}
use mathlib.Core.Bool.{Bool, true, false, not, ◌&&◌}
use Prim.Native.Nat.{ℕ, zero, suc, ◌+◌, ◌-◌, ◌*◌, ◌<◌, min}
use native.Mathlib.Omega.{arith}
use lib.Dec.{ltb, eqb}
use lib.ListN.{get_or}
use borrow.Author.Tests.{not-false, ltb-false}
use Rattle.numbers.specs.Walk.{pick, walk, flat, bytes_at}
use Rattle.numbers.specs.BigEndian.{number}
use Rattle.numbers.specs.Cause.{refuse_if, then, first_of}
use Rattle.numbers.specs.declared.Place.{Place}
use Rattle.numbers.specs.Cause.{Check}
use Rattle.numbers.specs.Cause.{Fine, Refused}
use Rattle.numbers.proofs.CauseLaws.{not_fine, passed, then_fine}
use Rattle.formats.specs.Codes.{is_code}
use Rattle.value.specs.Pair.{value_of, is_canonical, pair_length, pair_in}
use Rattle.formats.specs.Words.{word_of}
use Rattle.formats.proofs.WordLaws.{Only14, only_14}
use Rattle.value.specs.declared.Pair.{Pair}
use Rattle.formats.specs.Written.{Written}
use Rattle.formats.specs.Written as written
use Rattle.reel.specs.Causes.{most_traces}
use Rattle.fields.specs.Fields.{run_from, in_fields}
use Rattle.fields.proofs.FieldsLaws.{by_fields, in_none, in_next, pairs_in_fields}
use Rattle.fields.proofs.EachLaws.{first_append}
use Rattle.record.specs.Kind.{tag04}
use Rattle.record.specs.Form.{field_cause, cards_causes, held_samples, held_interval, binary_causes, header_causes, traces_place, pair_cause_in, field_form_in, share_in, samples_causes_in, trace_form_in, behind_trace_in, trace_place_in, is_trace_in, held_count, form_causes}
use Rattle.record.specs.Held.{held_value}
use Rattle.fit.specs.Target.{is_unfit, fit_cause, samples_fit, trace_fit, fit_causes, target_causes}
use Rattle.write_samples.specs.Samples.{pair_refused, pair_check}
use Rattle.std.proofs.Common.{Some}
use Rattle.record.specs.Parts.{pairs_by, field_by, fields_by, trace_by, form_from}
use Rattle.fit.specs.Parts.{fit_from}
use Rattle.write_samples.proofs.CallLaws.{samples_checked_lem}
use Rattle.record.proofs.FormLaws.{field_room, fields_none, fields_more, share_some, is_more, more_few, more_tag, place_next, form_more, form_is, form_stop}

-- ## Pairs

module _ (s : List ℕ) (code : ℕ) (h : is_code code ≡ true) where
  -- a pair that writing takes is canonical
  pair_fine : (at : ℕ) → pair_check s code at ≡ Fine → pair_cause_in tag04 s at ≡ Fine
  pair_fine at e = go (is_canonical p) (rw h at e)
    where
      p : Pair
      p = pair_in (bytes_at s at pair_length)

      go : (b : Bool) → pair_refused (pick b (word_of code (value_of p)) (written.Refused 13)) at ≡ Fine → refuse_if (not b) 13 at ≡ Fine
      go true e = refl
      go false e = absurd (not_fine e)

  -- a canonical pair is refused where it doesn't fit
  pair_fit : (at : ℕ) → pair_cause_in tag04 s at ≡ Fine → pair_check s code at ≡ fit_cause s code at
  pair_fit at e =
      let c = not-false (is_canonical (pair_in (bytes_at s at pair_length))) (passed _ 13 at e) in
      rw (h, c) (go (word_of code (held_value s at)) (only_14 code (held_value s at)))
    where
      go : (w : Written) → Only14 w → pair_refused w at ≡ refuse_if (is_unfit w) 14 at
      go (written.Word n) o = refl
      go (written.Refused number) o = ap (λ (k : ℕ). Refused k (record { 0 = at })) o

  pairs_fine : (w k at : ℕ) → first_of (walk (pair_check s code) w k at) ≡ Fine → first_of (walk (pair_cause_in tag04 s) w k at) ≡ Fine
  pairs_fine w zero at e = refl
  pairs_fine w (suc k) at e =
      let t = then_fine (pair_check s code at) (first_of (walk (pair_check s code) w k (at + w))) e in
      ap₂ then (pair_fine at t.0) (pairs_fine w k (at + w) t.1)

  pairs_fit : (w k at : ℕ) → first_of (walk (pair_cause_in tag04 s) w k at) ≡ Fine → first_of (walk (pair_check s code) w k at) ≡ first_of (walk (fit_cause s code) w k at)
  pairs_fit w zero at e = refl
  pairs_fit w (suc k) at e =
      let t = then_fine (pair_cause_in tag04 s at) (first_of (walk (pair_cause_in tag04 s) w k (at + w))) e in
      ap₂ then (pair_fit at t.0) (pairs_fit w k (at + w) t.1)

-- ## Fields

module _ (s : List ℕ) (code : ℕ) (h : is_code code ≡ true) where
  -- 14 alone, of the samples of a field
  abbrev fit_of : ℕ → ℕ → List Check
  fit_of m p = walk (fit_cause s code) 6 m (p + 3)

  -- the pairs of a field that stands, by 13 and 14
  pairs_are : (m at : ℕ) → field_cause s 4 (m * 6) at ≡ Fine → pairs_by (Some code) s m (at + 3) ≡ first_of (walk (pair_check s code) 6 m (at + 3))
  unfolding pairs_by
  pairs_are m at e = samples_checked_lem s code m (at + 3) h (omega (arith, field_room s 4 (m * 6) at e))

  -- a field in which nothing is found is of the right form, and its samples fit
  one_fine : (m at : ℕ) → field_by (Some code) s m at ≡ Fine → (field_form_in tag04 s m at ≡ Fine) × (first_of (fit_of m at) ≡ Fine)
  unfolding field_by field_form_in
  one_fine m at e =
      let t = then_fine (field_cause s 4 (m * 6) at) _ e in
      let q = sym (pairs_are m at t.0) ∙ t.1 in
      let p = pairs_fine s code h 6 m (at + 3) q in
      (ap₂ then t.0 p, sym (pairs_fit s code h 6 m (at + 3) p) ∙ q)

  -- what is found in a field of the right form
  one_fit : (m at : ℕ) → field_form_in tag04 s m at ≡ Fine → field_by (Some code) s m at ≡ first_of (fit_of m at)
  unfolding field_by field_form_in
  one_fit m at e =
      let t = then_fine (field_cause s 4 (m * 6) at) _ e in
      ap (λ (x : Check). then x (pairs_by (Some code) s m (at + 3))) t.0 ∙ pairs_are m at t.0 ∙ pairs_fit s code h 6 m (at + 3) t.1

  module _ (c : ℕ) (some : 0 < c) where
    abbrev Both : ℕ → Type 0
    Both n = (at : ℕ) → fields_by (Some code) s c n at ≡ Fine → (first_of (in_fields (field_form_in tag04 s) 6 c n at) ≡ Fine) × (first_of (flat (in_fields fit_of 6 c n at)) ≡ Fine)

    fields_fine : (n : ℕ) → Both n
    fields_fine =
        by_fields c some Both (λ n l at e. (ap first_of (in_none c some 6 (field_form_in tag04 s) n at l), ap (λ (x : List (List Check)). first_of (flat x)) (in_none c some 6 fit_of n at l)))
        (λ n l rest at e.
        let next = at + (3 + min c n * 6) in
        let t = then_fine (field_by (Some code) s (min c n) at) _ (sym (fields_more (Some code) s c some n at l) ∙ e) in
        let x = one_fine (min c n) at t.0 in
        let y = rest next t.1 in (
          ap first_of (in_next c some 6 (field_form_in tag04 s) n at l) ∙ ap₂ then x.0 y.0,
          ap (λ (z : List (List Check)). first_of (flat z)) (in_next c some 6 fit_of n at l) ∙ first_append (fit_of (min c n) at) (flat (in_fields fit_of 6 c (n - c) next)) ∙ ap₂ then x.1 y.1,
        ))

    abbrev Fits : ℕ → Type 0
    Fits n = (at : ℕ) → first_of (in_fields (field_form_in tag04 s) 6 c n at) ≡ Fine → fields_by (Some code) s c n at ≡ first_of (flat (in_fields fit_of 6 c n at))

    fields_fit : (n : ℕ) → Fits n
    fields_fit =
        by_fields c some Fits (λ n l at e. fields_none (Some code) s c some n at l ∙ sym (ap (λ (x : List (List Check)). first_of (flat x)) (in_none c some 6 fit_of n at l)))
        (λ n l rest at e.
        let next = at + (3 + min c n * 6) in
        let t = then_fine (field_form_in tag04 s (min c n) at) _ (sym (ap first_of (in_next c some 6 (field_form_in tag04 s) n at l)) ∙ e) in
        fields_more (Some code) s c some n at l
        ∙ ap₂ then (one_fit (min c n) at t.0) (rest next t.1)
        ∙ sym (ap (λ (z : List (List Check)). first_of (flat z)) (in_next c some 6 fit_of n at l) ∙ first_append (fit_of (min c n) at) (flat (in_fields fit_of 6 c (n - c) next))))

  module _ (n at : ℕ) where
    fit_is : samples_fit s code n at ≡ first_of (flat (in_fields fit_of 6 (share_in tag04 s n at) n at))
    unfolding samples_fit
    fit_is = ap first_of (pairs_in_fields (share_in tag04 s n at) (share_some tag04 s n at) 6 (fit_cause s code) n at)

    -- a trace's samples in which the one pass finds nothing are of the right form, and fit
    judged_fine : fields_by (Some code) s (share_in tag04 s n at) n at ≡ Fine → (samples_causes_in tag04 s n at ≡ Fine) × (samples_fit s code n at ≡ Fine)
    unfolding samples_causes_in
    judged_fine e =
        let x = fields_fine (share_in tag04 s n at) (share_some tag04 s n at) n at e in
        (x.0, fit_is ∙ x.1)

    -- in samples of the right form it finds the first that doesn't fit
    judged_fit : samples_causes_in tag04 s n at ≡ Fine → fields_by (Some code) s (share_in tag04 s n at) n at ≡ samples_fit s code n at
    unfolding samples_causes_in
    judged_fit e = fields_fit (share_in tag04 s n at) (share_some tag04 s n at) n at e ∙ sym fit_is

-- ## A trace

module _ (s : List ℕ) (code n i : ℕ) (h : is_code code ≡ true) where
  -- a trace for which the check finds nothing
  pub trace_fine : (at : ℕ) → trace_by (Some code) s n i at ≡ Fine → (trace_form_in tag04 s n i at ≡ Fine) × (trace_fit s code n at ≡ Fine)
  unfolding trace_by trace_form_in
  trace_fine at e =
      let t = then_fine (header_causes s n i at) _ e in
      let x = judged_fine s code h n (at + 183) t.1 in
      (ap₂ then t.0 x.0, x.1)

  -- what the check finds in a trace of the right form
  pub trace_fit_lem : (at : ℕ) → trace_form_in tag04 s n i at ≡ Fine → trace_by (Some code) s n i at ≡ trace_fit s code n at
  unfolding trace_by trace_form_in
  trace_fit_lem at e =
      let t = then_fine (header_causes s n i at) _ e in
      ap₂ then t.0 (judged_fit s code h n (at + 183) t.1)

-- ## Traces, one after the other

module _ (s : List ℕ) (n : ℕ) where
  module _ (code : ℕ) where
    -- the fit of the samples that follow, a trace at a time
    pub fit_more : (t at : ℕ) → is_more s t at ≡ true
        → fit_from s code n (most_traces - t) at ≡ then (trace_fit s code n at) (fit_from s code n (most_traces - (t + 1)) (behind_trace_in tag04 s n at))
    unfolding fit_from
    fit_more t at e =
        let few = more_few s t at e in
        let one : most_traces - t ≡ suc (most_traces - (t + 1)) = omega arith in
        ap (λ (k : ℕ). fit_from s code n k at) one ∙ rw (more_tag s t at e)

    pub fit_end : (t at : ℕ) → is_more s t at ≡ false → fit_from s code n (most_traces - t) at ≡ Fine
    unfolding fit_from
    fit_end t at e = go (ltb t most_traces) refl e
      where
        none : (k : ℕ) → eqb (get_or s at 0) 3 ≡ false → fit_from s code n k at ≡ Fine
        none zero q = refl
        none (suc k) q = rw q

        go : (b : Bool) → ltb t most_traces ≡ b → (b && eqb (get_or s at 0) 3) ≡ false → fit_from s code n (most_traces - t) at ≡ Fine
        go true q e = none (most_traces - t) e
        go false q e =
            let l = ltb-false t most_traces q in
            let z : most_traces - t ≡ 0 = omega arith in
            ap (λ (k : ℕ). fit_from s code n k at) z

    -- it is the fit of the traces that are counted
    fit_from_lem : (left t : ℕ) → fit_from s code n left (trace_place_in tag04 s n t) ≡ first_of (walk (λ j. trace_fit s code n (trace_place_in tag04 s n j)) 1 (run_from (is_trace_in tag04 s n) left t) t)
    unfolding fit_from run_from
    fit_from_lem zero t = refl
    fit_from_lem (suc left) t = go (is_trace_in tag04 s n t) (fit_from_lem left (t + 1))
      where
        go : (b : Bool) → fit_from s code n left (trace_place_in tag04 s n (t + 1)) ≡ first_of (walk (λ j. trace_fit s code n (trace_place_in tag04 s n j)) 1 (run_from (is_trace_in tag04 s n) left (t + 1)) (t + 1))
            → pick b (then (trace_fit s code n (trace_place_in tag04 s n t)) (fit_from s code n left (behind_trace_in tag04 s n (trace_place_in tag04 s n t)))) Fine
            ≡ first_of (walk (λ j. trace_fit s code n (trace_place_in tag04 s n j)) 1 (pick b (suc (run_from (is_trace_in tag04 s n) left (t + 1))) 0) t)
        go true e = ap (λ (x : ℕ). then (trace_fit s code n (trace_place_in tag04 s n t)) (fit_from s code n left x)) (sym (place_next tag04 s n t)) ∙ ap (then (trace_fit s code n (trace_place_in tag04 s n t))) e
        go false e = refl

    -- from the first trace on, it is that of the record's traces
    pub fit_all : fit_causes s code n (held_count s n) ≡ fit_from s code n most_traces traces_place
    unfolding fit_causes trace_place_in
    fit_all = sym (fit_from_lem most_traces 0)

    module _ (i : ℕ) (h : is_code code ≡ true) (t at : ℕ) (e : is_more s t at ≡ true) where
      -- behind a trace for which the check finds nothing
      pub body_more : trace_by (Some code) s n i at ≡ Fine
          → then (form_from s n i (most_traces - t) t at) (fit_from s code n (most_traces - t) at)
          ≡ then (form_from s n i (most_traces - (t + 1)) (t + 1) (behind_trace_in tag04 s n at)) (fit_from s code n (most_traces - (t + 1)) (behind_trace_in tag04 s n at))
      body_more f =
          let x = trace_fine s code n i h at f in
          ap₂ then
          (form_more s n i t at e ∙ ap (λ c. then c (form_from s n i (most_traces - (t + 1)) (t + 1) (behind_trace_in tag04 s n at))) x.0)
          (fit_more t at e ∙ ap (λ c. then c (fit_from s code n (most_traces - (t + 1)) (behind_trace_in tag04 s n at))) x.1)

      -- at a trace for which it finds something
      pub body_stop : {number : ℕ} {place : Place} → trace_by (Some code) s n i at ≡ Refused number place
          → then (form_from s n i (most_traces - t) t at) (trace_by (Some code) s n i at) ≡ then (form_from s n i (most_traces - t) t at) (fit_from s code n (most_traces - t) at)
      body_stop {number} {place} f = go (form_from s n i (most_traces - t) t at) refl
        where
          go : (c : Check) → form_from s n i (most_traces - t) t at ≡ c → then c (trace_by (Some code) s n i at) ≡ then c (fit_from s code n (most_traces - t) at)
          go Fine q =
              let x = then_fine (trace_form_in tag04 s n i at) _ (sym (form_more s n i t at e) ∙ q) in
              let y = trace_fit_lem s code n i h at x.0 in
              sym (fit_more t at e ∙ ap (λ c. then c (fit_from s code n (most_traces - (t + 1)) (behind_trace_in tag04 s n at))) (sym y ∙ f) ∙ sym f)
          go (Refused m p) q = refl

-- ## The whole record

-- the causes 11 to 14, where the target code is one of the codes and the first two fields are right
pub target_is : (s : List ℕ) (code : ℕ) → is_code code ≡ true → then (cards_causes s) (binary_causes s) ≡ Fine
    → target_causes s code ≡ then (form_from s (held_samples s) (held_interval s) most_traces 0 traces_place) (fit_from s code (held_samples s) most_traces traces_place)
unfolding target_causes
target_is s code h e = rw h (ap₂ then (form_is s e) (fit_all s (held_samples s) code))

-- and where they are not
pub target_stop : (s : List ℕ) (code : ℕ) → is_code code ≡ true → {number : ℕ} {place : Place} → then (cards_causes s) (binary_causes s) ≡ Refused number place
    → target_causes s code ≡ Refused number place
unfolding target_causes
target_stop s code h e = rw h (ap (λ x. then x (fit_causes s code (held_samples s) (held_count s (held_samples s)))) (form_stop s e))

-- a record with no cause against it is valid
pub target_form : (s : List ℕ) (code : ℕ) → target_causes s code ≡ Fine → form_causes s ≡ Fine
unfolding target_causes
target_form s code e = (then_fine (form_causes s) _ (then_fine (refuse_if (not (is_code code)) 11 0) _ e).1).0
