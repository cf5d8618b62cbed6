-- # Refusals of a record's form are exact
--
-- The rows of 12 and 13 are `FormRow`, in `specs/Tables`: a record is refused by one of them with a place exactly when that row applies to
-- it, and it is valid exactly when no row does. Assumes nothing.
use mathlib.Core.Path.{◌≡◌, refl, sym, ap, ◌∙◌}
use mathlib.Core.List.{List}
use Prim.Native.Nat.{ℕ, zero, suc, ◌+◌}
use native.Mathlib.Omega.{arith}
use lib.ListN.{length, get_or}
use Rattle.numbers.specs.Cause.{first_of}
use Rattle.numbers.specs.Iff.{Iff}
use Rattle.numbers.specs.Terms.{at_place}
use Rattle.numbers.specs.Cause.{Fine, Refused}
use Rattle.numbers.proofs.RowLaws.{then_row, then_first, then_second, fine_then, refused_then, row_then, no_row, not_enough, too_short, first_is, first_of_lem, walk_refused, walk_row, fine_none}
use Rattle.reel.specs.Layout.{elevation_scalar, coordinate_scalar}
use Rattle.reel.specs.Meaning.{elevation_fields, coordinate_fields}
use Rattle.fields.specs.Fields.{each}
use Rattle.fields.proofs.FieldsLaws.{step_is}
use Rattle.record.specs.Kind.{tag04}
use Rattle.record.specs.Form.{card_cause, cards_causes, held_interval, held_samples, binary_causes, end_causes, samples_causes_in, body_causes_in, form_causes_in, form_causes}
use Rattle.numbers.specs.Cause.{Check}
use Rattle.demands.specs.ValidRecord.{trace_place, CardsRight, HeadRight, ScalarsRight, HeaderRight, TraceNext, EndNext}
use Rattle.demands.specs.Tables.{FormRow, no_cards, bad_card, no_binary, bad_held_interval, bad_held_samples, bad_held_code, no_header, bad_held_69, bad_held_71, bad_held_115, bad_held_117, no_end, bad_count, after}
use Rattle.demands.proofs.Valid.{card_tests, cards_test, binary_test, interval_test, number_test, code_test, end_test, total_test, last_test, cards_fine, cards_right, head_right, form_at, header_test, scalar_test, count_test, spacing_test, form_parts, behind_scalars, behind_header, trace_fine, count_in, next_counted, end_next, trace_next, body_end, form_body}
use Rattle.demands.proofs.SampleRows as samples

-- ## From the rows to the causes

module _ (s : List ℕ) where
  -- What is refused in tag 02 is refused, where tag 01 is right.
  from_binary : {n p : ℕ} → CardsRight s → binary_causes s ≡ Refused n (at_place p) → form_causes s ≡ Refused n (at_place p)
  unfolding form_causes_in
  from_binary h e = then_second _ _ (cards_fine s h) (then_first (binary_causes s) _ e)

  -- So in trace k, where all is right up to it.
  from_trace : {n p : ℕ} (k : ℕ) → TraceNext s k → form_at s (trace_place s k) ≡ Refused n (at_place p) → form_causes s ≡ Refused n (at_place p)
  unfolding body_causes_in
  from_trace {n} {p} k h e =
      form_body s h.until.head
      (then_first _ _ (first_of_lem at 1 (count_in s) 0 n p (record { j = k; below = next_counted s k h; before = λ i l. ap at (step_is i) ∙ trace_fine s i (h.until.before i l); here = ap at (step_is k) ∙ e })))
    where
      at : ℕ → Check
      at j = form_at s (trace_place s j)

  -- So at the end, where all is right up to it.
  from_end : {n p : ℕ} (t : ℕ) → EndNext s t → end_causes s t (trace_place s t) ≡ Refused n (at_place p) → form_causes s ≡ Refused n (at_place p)
  from_end t h e = form_body s h.until.head (body_end s t h e)

  -- Each row is the answer where it applies: all that comes before it finds nothing, and its own test refuses.
  from_row : {n p : ℕ} → FormRow s n p → form_causes s ≡ Refused n (at_place p)
  unfolding form_causes_in cards_causes binary_causes
  from_row (no_cards h) = then_first (cards_causes s) _ (refused_then (cards_test s) _ h)
  from_row (bad_card j c l b z) =
      then_first (cards_causes s) _
      (fine_then (cards_test s) c (walk_refused (λ i. ¬ (get_or s (3 + i) 0 ≡ 0)) 13 (card_cause s) 1 3200 3 (λ i. 3 + i) (card_tests s) j l b (λ n. n z)))
  from_row (no_binary c h) = from_binary c (refused_then (binary_test s) _ h)
  from_row (bad_held_interval c f h) = from_binary c (fine_then (binary_test s) f (refused_then (interval_test s) _ h))
  from_row (bad_held_samples c f i h) = from_binary c (fine_then (binary_test s) f (fine_then (interval_test s) i (refused_then (number_test s) _ h)))
  from_row (bad_held_code c f i m h) =
      from_binary c (fine_then (binary_test s) f (fine_then (interval_test s) i (fine_then (number_test s) m (refused_then (code_test s) _ h))))
  from_row (no_header k t h) = from_trace k t (form_parts s k ∙ refused_then (header_test s k) _ h)
  from_row (bad_held_69 k t f h) = from_trace k t (form_parts s k ∙ fine_then (header_test s k) f (refused_then (scalar_test s k elevation_fields elevation_scalar) _ h))
  from_row (bad_held_71 k t f e h) =
      from_trace k t
      (form_parts s k
      ∙ fine_then (header_test s k) f (fine_then (scalar_test s k elevation_fields elevation_scalar) e (refused_then (scalar_test s k coordinate_fields coordinate_scalar) _ h)))
  from_row (bad_held_115 k t f h) = from_trace k t (behind_scalars s k f (refused_then (count_test s k) _ h))
  from_row (bad_held_117 k t f c h) = from_trace k t (behind_scalars s k f (fine_then (count_test s k) c (refused_then (spacing_test s k) _ h)))
  from_row (FormRow.no_sample_field k f t h l fs ps nf) = from_trace k t (behind_header s k h (samples.is_row tag04 s (held_samples s) (trace_place s k + 183) _ _ (samples.no_field f l fs ps nf)))
  from_row (FormRow.bad_pair k j t h l fs ps np) = from_trace k t (behind_header s k h (samples.is_row tag04 s (held_samples s) (trace_place s k + 183) _ _ (samples.bad_pair j l fs ps np)))
  from_row (no_end t e h) = from_end t e (refused_then (end_test s t) _ h)
  from_row (bad_count t e f h) = from_end t e (fine_then (end_test s t) f (refused_then (total_test s t) _ h))
  from_row (after t e f c h) =
      from_end t e (fine_then (end_test s t) f (fine_then (total_test s t) c (refused_then (last_test s t) _ (too_short (trace_place s t + 7) (length s) h))))

-- ## From the causes to the rows

-- A number that is not other than 0 is 0.
not_other : (x : ℕ) → ¬ (¬ (x ≡ 0)) → x ≡ 0
not_other zero h = refl
not_other (suc x) h = absurd (h (λ e. absurd (let z : suc x ≡ 0 = e in omega arith)))

module _ (s : List ℕ) {n p : ℕ} where
  -- What is refused in tag 01 has its row.
  to_cards : cards_causes s ≡ Refused n (at_place p) → FormRow s n p
  unfolding cards_causes
  to_cards =
      row_then (cards_test s) (FormRow s) no_cards
      (λ c. walk_row (λ j. ¬ (get_or s (3 + j) 0 ≡ 0)) 13 (card_cause s) 1 3200 3 (λ j. 3 + j) (card_tests s) (FormRow s)
      (λ j l b h. bad_card j c l b (not_other (get_or s (3 + j) 0) h)))

  -- What is refused in tag 02 has its row, where tag 01 is right.
  to_binary : CardsRight s → binary_causes s ≡ Refused n (at_place p) → FormRow s n p
  unfolding binary_causes
  to_binary c =
      row_then (binary_test s) (FormRow s) (no_binary c)
      (λ f. row_then (interval_test s) (FormRow s) (bad_held_interval c f)
      (λ i. row_then (number_test s) (FormRow s) (bad_held_samples c f i)
      (λ m. row_then (code_test s) (FormRow s) (bad_held_code c f i m) (λ z. no_row (FormRow s)))))

  -- What is refused in the samples of trace k has its row, where all is right up to them.
  to_samples_lem : (k : ℕ) → TraceNext s k → HeaderRight s k → samples_causes_in tag04 s (held_samples s) (trace_place s k + 183) ≡ Refused n (at_place p) → FormRow s n p
  to_samples_lem k t h e = row (samples.row_is tag04 s (held_samples s) (trace_place s k + 183) n p e)
    where
      row : {n p : ℕ} → samples.Row tag04 s (held_samples s) (trace_place s k + 183) n p → FormRow s n p
      row (samples.no_field f l fs ps nf) = FormRow.no_sample_field k f t h l fs ps nf
      row (samples.bad_pair j l fs ps np) = FormRow.bad_pair k j t h l fs ps np

  -- What is refused in trace k has its row, where all is right up to it.
  to_trace : (k : ℕ) → TraceNext s k → form_at s (trace_place s k) ≡ Refused n (at_place p) → FormRow s n p
  to_trace k t refused =
      row_then (header_test s k) (FormRow s) (no_header k t)
      (λ f. row_then (scalar_test s k elevation_fields elevation_scalar) (FormRow s) (bad_held_69 k t f)
      (λ x. row_then (scalar_test s k coordinate_fields coordinate_scalar) (FormRow s) (bad_held_71 k t f x)
      (λ y. let scalars : ScalarsRight s k = record { header = f; elevations = x; coordinates = y } in
      row_then (count_test s k) (FormRow s) (bad_held_115 k t scalars)
      (λ c. row_then (spacing_test s k) (FormRow s) (bad_held_117 k t scalars c)
      (λ i. to_samples_lem k t (record { front = scalars; count = c; interval = i }))))))
      (sym (form_parts s k) ∙ refused)

  -- What is refused at the end has its row, where all is right up to it.
  to_end : (t : ℕ) → EndNext s t → end_causes s t (trace_place s t) ≡ Refused n (at_place p) → FormRow s n p
  to_end t h =
      row_then (end_test s t) (FormRow s) (no_end t h)
      (λ f. row_then (total_test s t) (FormRow s) (bad_count t h f)
      (λ c. row_then (last_test s t) (FormRow s) (λ m. after t h f c (not_enough (trace_place s t + 7) (length s) m)) (λ l. no_row (FormRow s))))

  -- What is refused behind tags 01 and 02 has its row, where these are right.
  to_body : HeadRight s → body_causes_in tag04 s (held_samples s) (held_interval s) (count_in s) ≡ Refused n (at_place p) → FormRow s n p
  unfolding body_causes_in
  to_body h =
      then_row (FormRow s) (first_of (each at (count_in s))) _
      (λ e. let r = first_is at 1 (count_in s) 0 n p e in
      to_trace r.j (trace_next s h r.j r.below (λ i l. ap at (sym (step_is i)) ∙ r.before i l)) (ap at (sym (step_is r.j)) ∙ r.here))
      (λ e. to_end (count_in s) (end_next s h e))
    where
      at : ℕ → Check
      at j = form_at s (trace_place s j)

  -- What is refused has its row: the first that applies.
  to_row : form_causes s ≡ Refused n (at_place p) → FormRow s n p
  unfolding form_causes_in
  to_row =
      then_row (FormRow s) (cards_causes s) _ to_cards
      (λ e. let c = cards_right s e in
      then_row (FormRow s) (binary_causes s) _ (to_binary c) (λ q. to_body (head_right s c q)))

-- THEOREM. A record is refused by 12 or 13, with what stands beside it, exactly when that row of the table applies.
pub exact_form : (s : List ℕ) (number place : ℕ) → Iff (form_causes s ≡ Refused number (at_place place)) (FormRow s number place)
exact_form s number place = (to_row s, from_row s)

-- THEOREM. "A record is valid when neither 12 nor 13 applies to it" (document 01): exactly when no row of the table does.
pub no_form_cause : (s : List ℕ) → Iff (form_causes s ≡ Fine) ((number place : ℕ) → ¬ (FormRow s number place))
no_form_cause s = fine_none (FormRow s) (form_causes s) (exact_form s)
