-- # Refusals of writing are exact
--
-- The rows against writing a record as a reel are `WriteRow`, in `specs/Tables`; those of 12 and 13 are shown to be exact in
-- `FormRefusals`. Writing is refused by a number with a place exactly when that row of the table applies, and it has no cause exactly when
-- no row does. Assumes nothing.
use mathlib.Core.Path.{◌≡◌, refl, sym, ap, ◌∙◌}
use mathlib.Core.List.{List}
use mathlib.Core.Logic.{inl, inr}
use mathlib.Core.Bool.{Bool, true, false}
use Prim.Native.Nat.{ℕ, ◌+◌, ◌*◌, ◌<◌}
use native.Mathlib.Omega.{arith}
use lib.Dec.{ltb}
use lib.ListN.{get_or}
use Rattle.numbers.specs.BigEndian.{number}
use Rattle.numbers.specs.Cause.{refuse_if}
use Rattle.numbers.specs.Cause.{Check}
use Rattle.numbers.specs.Cause.{Fine, Refused}
use Rattle.numbers.specs.Iff.{Iff}
use Rattle.numbers.specs.Terms.{at_place}
use Rattle.numbers.proofs.CauseLaws.{then_fine}
use Rattle.numbers.proofs.RowLaws.{Tests, apart, refused_where, row_where, then_row, then_first, then_second, fine_then, refused_then, holds_then, row_then, test_room, not_enough, too_short, first_is, first_of_lem, none_is, none_of, walk_fine, walk_holds, walk_refused, walk_row, fine_none}
use Rattle.formats.specs.Codes.{is_code}
use Rattle.fields.proofs.FieldsLaws.{step_is}
use Rattle.formats.specs.Words.{word_of}
use Rattle.record.specs.Form.{held_samples, form_causes}
use Rattle.record.specs.Held.{held_value}
use Rattle.fit.specs.Target.{is_unfit, fit_cause, samples_fit, trace_fit, fit_causes, target_causes}
use Rattle.write_reel.specs.Reel.{reel_length}
use Rattle.write_reel.specs.Writing.{write_causes}
use Rattle.demands.proofs.Valid.{count_in, end_counted, record_fine, record_right}
use Rattle.demands.proofs.ProperLaws.{value_held}
use Rattle.reel_theorems.proofs.Refusals.{test_code}
use Rattle.demands.proofs.Fitting.{fits_is}
use Rattle.demands.proofs.FormRefusals.{exact_form}
use Rattle.demands.specs.ValidRecord.{CanonicalAt, trace_place, pair_place, RightUntil, RecordRight}
use Rattle.demands.specs.Words.{HasWord}
use Rattle.demands.specs.Tables.{no_end, Fits, WriteRow, by_form}

-- ## The test of 14

-- A canonical pair that fits the target.
test_fit : (s : List ℕ) (code at : ℕ) → is_code code ≡ true → CanonicalAt s at → Tests (HasWord code (held_value s at)) 14 at (fit_cause s code at)
test_fit s code at h c = go (is_unfit (word_of code (held_value s at))) refl
  where
    both : Iff (is_unfit (word_of code (held_value s at)) ≡ false) (HasWord code (held_value s at))
    both = fits_is code (held_value s at) h (value_held s at c)

    go : (b : Bool) → is_unfit (word_of code (held_value s at)) ≡ b → Tests (HasWord code (held_value s at)) 14 at (refuse_if b 14 at)
    go true e = inr (λ w. apart (sym (both.1 w) ∙ e), refl)
    go false e = inl (both.0 e, refl)

-- ## From the rows to the causes

module _ (s : List ℕ) (code room : ℕ) where
  -- The samples of trace k of a valid record, by whether they fit.
  fit_tests : (t k : ℕ) → is_code code ≡ true → RecordRight s t → k < t → (j : ℕ) → j < held_samples s
      → Tests (Fits s code k j) 14 (pair_place s k j) (fit_cause s code (pair_place s k (0 + j * 1)))
  fit_tests t k g h l j m = rw (step_is j) (test_fit s code (pair_place s k j) g ((h.end.until.before k l).pairs j m))

  -- The causes of its samples, and of the traces, by number.
  abbrev fit_of : ℕ → ℕ → Check
  fit_of k j = fit_cause s code (pair_place s k j)

  abbrev fit_at : ℕ → Check
  fit_at k = trace_fit s code (held_samples s) (trace_place s k)

  -- Where every sample of a trace fits, 14 finds nothing in it.
  trace_fits : (t k : ℕ) → is_code code ≡ true → RecordRight s t → k < t → ((j : ℕ) → j < held_samples s → Fits s code k j)
      → trace_fit s code (held_samples s) (trace_place s k) ≡ Fine
  unfolding samples_fit
  trace_fits t k g h l f =
      walk_fine (Fits s code k) 14 (fit_of k) 1 (held_samples s) 0 (pair_place s k) (fit_tests t k g h l) f

  -- And where it finds nothing in it, every sample fits.
  fits_trace : (t k : ℕ) → is_code code ≡ true → RecordRight s t → k < t → trace_fit s code (held_samples s) (trace_place s k) ≡ Fine
      → (j : ℕ) → j < held_samples s → Fits s code k j
  unfolding samples_fit
  fits_trace t k g h l e =
      walk_holds (Fits s code k) 14 (fit_of k) 1 (held_samples s) 0 (pair_place s k) (fit_tests t k g h l) e

  -- The checks of 14 over t traces.
  abbrev fits_over : ℕ → Check
  fits_over t = fit_causes s code (held_samples s) t

  -- Where every sample of a valid record fits, 14 finds nothing.
  all_fit : (t : ℕ) → is_code code ≡ true → RecordRight s t → ((k j : ℕ) → k < t → j < held_samples s → Fits s code k j) → fits_over t ≡ Fine
  unfolding fit_causes
  all_fit t g h f =
      none_of fit_at 1 t 0 (λ k l. ap fit_at (step_is k) ∙ trace_fits t k g h l (λ j m. f k j l m))

  -- And where it finds nothing in a valid record, every sample fits.
  fit_all : (t : ℕ) → is_code code ≡ true → RecordRight s t → fits_over t ≡ Fine → (k j : ℕ) → k < t → j < held_samples s → Fits s code k j
  unfolding fit_causes
  fit_all t g h e k j l m =
      fits_trace t k g h l (ap fit_at (sym (step_is k)) ∙ none_is fit_at 1 t 0 e k l) j m

  -- Of a valid record, the answer before the output's length is that of 14.
  from_fits : {x : Check} (t : ℕ) → is_code code ≡ true → RecordRight s t → fits_over t ≡ x → target_causes s code ≡ x
  unfolding target_causes
  from_fits t g h e =
      fine_then (test_code code 11 0) g (then_second _ _ (record_fine s t h) (ap fits_over (end_counted s t h.end) ∙ e))

  -- The first sample that doesn't fit is refused by 14.
  from_unfit : (t k j : ℕ) → is_code code ≡ true → RecordRight s t → k < t → j < held_samples s
      → ((h i : ℕ) → h < k → i < held_samples s → Fits s code h i) → ((i : ℕ) → i < j → Fits s code k i) → ¬ (Fits s code k j)
      → fits_over t ≡ Refused 14 (at_place (pair_place s k j))
  unfolding fit_causes samples_fit
  from_unfit t k j g h l m f b n =
      let size = held_samples s in
      first_of_lem fit_at 1 t 0 14 (pair_place s k j)
      (record {
        j = k;
        below = l;
        before = λ i q. ap fit_at (step_is i) ∙ trace_fits t i g h (omega arith) (λ y z. f i y q z);
        here = ap fit_at (step_is k) ∙ walk_refused (Fits s code k) 14 (fit_of k) 1 size 0 (pair_place s k) (fit_tests t k g h l) j m b n;
      })

  -- Each row is the answer where it applies: all that comes before it finds nothing, and its own test refuses.
  from_row : {n p : ℕ} → WriteRow s code room n p → write_causes s code room ≡ Refused n (at_place p)
  unfolding target_causes
  from_row (WriteRow.bad_target h) = then_first (target_causes s code) _ (refused_then (test_code code 11 0) _ h)
  from_row {n} {p} (by_form g r) =
      then_first (target_causes s code) _ (fine_then (test_code code 11 0) g (then_first (form_causes s) _ ((exact_form s n p).1 r)))
  from_row (WriteRow.unfit t k j g h l m f b n) = then_first (target_causes s code) _ (from_fits t g h (from_unfit t k j g h l m f b n))
  from_row (WriteRow.short_output t g h f l) =
      let size = reel_length code t (held_samples s) in
      then_second _ _ (from_fits t g h (all_fit t g h f))
      (ap (λ (x : ℕ). refuse_if (ltb room (reel_length code x (held_samples s))) 10 (reel_length code x (held_samples s))) (end_counted s t h.end)
      ∙ refused_where (test_room room size 10 size) (too_short room size l))

-- ## From the causes to the rows

module _ (s : List ℕ) (code room : ℕ) {n p : ℕ} (g : is_code code ≡ true) where
  -- What 14 refuses in a valid record has its row.
  to_fits : (t : ℕ) → RecordRight s t → fits_over s code room t ≡ Refused n (at_place p) → WriteRow s code room n p
  unfolding fit_causes samples_fit
  to_fits t h e =
      let size = held_samples s in
      let at = fit_at s code room in
      let r = first_is at 1 t 0 n p e in
      let k = r.j in
      let l : k < t = r.below in
      walk_row (Fits s code k) 14 (fit_of s code room k) 1 size 0 (pair_place s k) (fit_tests s code room t k g h l) (WriteRow s code room)
      (λ j m b x. WriteRow.unfit t k j g h l m (λ y z u v. fits_trace s code room t y g h (omega arith) (ap at (sym (step_is y)) ∙ r.before y u) z v) b x) (ap at (sym (step_is k)) ∙ r.here)

module _ (s : List ℕ) (code room : ℕ) where
  -- What is refused has its row: the first that applies.
  to_row : {n p : ℕ} → write_causes s code room ≡ Refused n (at_place p) → WriteRow s code room n p
  unfolding target_causes
  to_row {n} {p} =
      let row = WriteRow s code room in
      let target = test_code code 11 0 in
      let size = reel_length code (count_in s) (held_samples s) in
      then_row row (target_causes s code) _
      (row_then target row WriteRow.bad_target
      (λ g. then_row row (form_causes s) _ (λ e. by_form g ((exact_form s n p).0 e)) (λ q. to_fits s code room g (count_in s) (record_right s q))))
      (λ e. let a = holds_then target _ e in
      let b = then_fine (form_causes s) _ a.1 in
      let g = a.0 in
      let h = record_right s b.0 in
      row_where (test_room room size 10 size) row (λ m. WriteRow.short_output (count_in s) g h (fit_all s code room (count_in s) g h b.1) (not_enough room size m)))

-- THEOREM. Writing is refused by a number, with what stands beside it, exactly when that row of the table applies.
pub exact_writing : (s : List ℕ) (code room number place : ℕ) → Iff (write_causes s code room ≡ Refused number (at_place place)) (WriteRow s code room number place)
exact_writing s code room number place = (to_row s code room, from_row s code room)

-- THEOREM. Writing has no cause against it exactly when no row of the table applies.
pub no_writing_cause : (s : List ℕ) (code room : ℕ) → Iff (write_causes s code room ≡ Fine) ((number place : ℕ) → ¬ (WriteRow s code room number place))
no_writing_cause s code room = fine_none (WriteRow s code room) (write_causes s code room) (exact_writing s code room)

-- THEOREM. Where 100,000 traces stand and are right, and trace 100,001 follows them, writing is refused by 12 at the place of its tag.
pub trace_beyond : (s : List ℕ) (code room : ℕ) → is_code code ≡ true → RightUntil s 100000 → get_or s (trace_place s 100000) 0 ≡ 3
    → write_causes s code room ≡ Refused 12 (at_place (trace_place s 100000))
trace_beyond s code room g h tag =
    from_row s code room (by_form g (no_end 100000 (record { until = h; few = omega arith; end = inl refl }) (λ f. other f.tag_is)))
  where
    other : get_or s (trace_place s 100000) 0 ≡ 5 → ⊥
    other e = let z : ◌≡◌ {A = ℕ} 3 5 = sym tag ∙ e in omega arith
