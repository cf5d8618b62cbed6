-- # What a valid record is
--
-- A record is valid when neither 12 nor 13 applies to it: its fields stand whole one behind the other, and its numbers are within their
-- limits. Assumes nothing.
use mathlib.Core.Path.{◌≡◌, refl, sym, ap, ◌∙◌}
use mathlib.Core.List.{List, map}
use mathlib.Core.Logic.{inl, inr, ⊎_elim}
use mathlib.Core.Bool.{Bool, true, false, not}
use Prim.Native.Nat.{ℕ, ◌+◌, ◌-◌, ◌*◌, ◌≤◌, ◌<◌}
use native.Mathlib.Nat.{mul-one}
use native.Mathlib.Omega.{arith}
use borrow.Author.Tests.{le-leb, eq-eqb, ne_eqb, leb-true, eqb-true, eqb-false}
use lib.Dec.{leb, ltb, eqb}
use lib.ListN.{length, get_or}
use Rattle.numbers.specs.Walk.{walk, flat, bytes_at}
use Rattle.numbers.specs.BigEndian.{number}
use Rattle.numbers.specs.Cause.{refuse_if, then, first_of}
use Rattle.numbers.specs.Cause.{Check}
use Rattle.numbers.specs.Cause.{Fine}
use Rattle.numbers.specs.Terms.{Between}
use Rattle.numbers.proofs.CauseLaws.{then_assoc, then_fine}
use Rattle.numbers.proofs.BoolLaws.{and_true, and_both}
use Rattle.numbers.proofs.RowLaws.{Tests, test_by, fine_where, holds_where, then_second, fine_then, holds_then, test_between, test_same, test_room, walk_fine, walk_holds}
use Rattle.value.specs.Pair.{is_canonical, pair_length, pair_in}
use Rattle.scalars.specs.Scalar.{is_smallest}
use Rattle.reel.specs.Layout.{Field, elevation_scalar, coordinate_scalar, field_number, number16}
use Rattle.reel.specs.Meaning.{elevation_fields, coordinate_fields}
use Rattle.headers.specs.Header.{smallest_cause, smallest_causes}
use Rattle.reel.specs.Causes.{most_samples, most_traces, most_interval, within}
use Rattle.fields.specs.Fields.{each, fields_in, field_count}
use Rattle.fields.specs.Fields as fields
use Rattle.fields.proofs.FieldsLaws.{pairs_in_fields}
use Rattle.fields.proofs.EachLaws.{each_fine, each_is, flat_fine, flat_is, run_most, run_are, run_end, run_more, run_one, run_none}
use Rattle.record.specs.Kind.{tag04}
use Rattle.record.specs.Form.{is_field, field_cause, card_cause, cards_causes, held_interval, held_samples, held_code, binary_causes, end_causes, pair_cause_in, field_form_in, samples_causes_in, trace_form_in, is_trace_in, held_count, body_causes_in, form_causes_in, form_causes}
use Rattle.record.proofs.FormLaws.{share_some, trace_parts}
use Rattle.demands.specs.ValidRecord.{Stands, CanonicalAt, trace_place, header_place, share_of, field_place, pair_place, CardsRight, HeadRight, SmallestAt, ScalarsRight, HeaderRight, FieldRight, TraceRight, RightUntil, TraceNext, EndNext, RecordRight}

-- ## The tests, one by one

-- A field at its place.
pub test_field : (s : List ℕ) (tag size at : ℕ) → Tests (Stands s tag size at) 12 at (field_cause s tag size at)
test_field s tag size at =
    test_by (Stands s tag size at) (is_field s tag size at) 12 at there
    (λ h. and_both (leb (at + (3 + size)) (length s)) _ (le-leb (at + (3 + size)) (length s) h.whole) (and_both (eqb (get_or s at 0) tag) _ (eq-eqb (get_or s at 0) tag h.tag_is) (eq-eqb (number16 s (at + 1)) size h.size_is)))
  where
    there : is_field s tag size at ≡ true → Stands s tag size at
    there e =
        let a = and_true (leb (at + (3 + size)) (length s)) _ e in
        let b = and_true (eqb (get_or s at 0) tag) _ a.1 in
        record {
          whole = leb-true (at + (3 + size)) (length s) a.0;
          tag_is = eqb-true (get_or s at 0) tag b.0;
          size_is = eqb-true (number16 s (at + 1)) size b.1;
        }

-- A card byte other than 00.
test_card : (s : List ℕ) (at : ℕ) → Tests (¬ (get_or s at 0 ≡ 0)) 13 at (card_cause s at)
test_card s at = go (eqb (get_or s at 0) 0) refl
  where
    go : (b : Bool) → eqb (get_or s at 0) 0 ≡ b → Tests (¬ (get_or s at 0 ≡ 0)) 13 at (refuse_if b 13 at)
    go true e = inr (λ n. n (eqb-true (get_or s at 0) 0 e), refl)
    go false e = inl (eqb-false (get_or s at 0) 0 e, refl)

-- A pair that is canonical.
pub test_pair : (s : List ℕ) (at : ℕ) → Tests (CanonicalAt s at) 13 at (pair_cause_in tag04 s at)
test_pair s at = test_by (CanonicalAt s at) (is_canonical (pair_in (bytes_at s at pair_length))) 13 at (λ e. e) (λ e. e)

-- ## Tags 01 and 02

module _ (s : List ℕ) where
  -- The card bytes along tag 01.
  pub card_tests : (j : ℕ) → j < 3200 → Tests (¬ (get_or s (3 + j) 0 ≡ 0)) 13 (3 + j) (card_cause s (3 + j * 1))
  card_tests j l = rw (mul-one j) (test_card s (3 + j))

  -- The tests of tags 01 and 02, and of what stands in tag 02.
  pub cards_test : Tests (Stands s 1 3200 0) 12 0 (field_cause s 1 3200 0)
  cards_test = test_field s 1 3200 0

  pub binary_test : Tests (Stands s 2 60 3203) 12 3203 (field_cause s 2 60 3203)
  binary_test = test_field s 2 60 3203

  pub interval_test : Tests (Between 1 32767 (held_interval s)) 13 3222 (refuse_if (not (within 1 most_interval (held_interval s))) 13 3222)
  interval_test = test_between 1 32767 (held_interval s) 13 3222

  pub number_test : Tests (Between 1 32767 (held_samples s)) 13 3226 (refuse_if (not (within 1 most_samples (held_samples s))) 13 3226)
  number_test = test_between 1 32767 (held_samples s) 13 3226

  pub code_test : Tests (held_code s ≡ 0) 13 3230 (refuse_if (not (eqb (held_code s) 0)) 13 3230)
  code_test = test_same (held_code s) 0 13 3230

  -- Where tag 01 is right, 12 and 13 find nothing in it.
  pub cards_fine : CardsRight s → cards_causes s ≡ Fine
  unfolding cards_causes
  cards_fine h =
      fine_then cards_test h.cards (walk_fine (λ j. ¬ (get_or s (3 + j) 0 ≡ 0)) 13 (card_cause s) 1 3200 3 (λ j. 3 + j) card_tests h.card_bytes)

  -- And where they find nothing in it, it is right.
  pub cards_right : cards_causes s ≡ Fine → CardsRight s
  unfolding cards_causes
  cards_right e =
      let a = holds_then cards_test _ e in
      record {
        cards = a.0;
        card_bytes = walk_holds (λ j. ¬ (get_or s (3 + j) 0 ≡ 0)) 13 (card_cause s) 1 3200 3 (λ j. 3 + j) card_tests a.1;
      }

  -- Where tag 02 is right, 12 and 13 find nothing in it.
  head_fine : HeadRight s → binary_causes s ≡ Fine
  unfolding binary_causes
  head_fine h =
      fine_then binary_test h.binary
      (fine_then interval_test h.interval (fine_then number_test h.samples (fine_then code_test h.code refl)))

  -- And where they find nothing in it, it is right.
  pub head_right : CardsRight s → binary_causes s ≡ Fine → HeadRight s
  unfolding binary_causes
  head_right c e =
      let d = holds_then binary_test _ e in
      let f = holds_then interval_test _ d.1 in
      let g = holds_then number_test _ f.1 in
      let h = holds_then code_test _ g.1 in
      record { front = c; binary = d.0; interval = f.0; samples = g.0; code = h.0 }

-- ## Traces

-- The checks of the trace at a place, with the N and interval that the record holds.
abbrev pub form_at : List ℕ → ℕ → Check
form_at s at = trace_form_in tag04 s (held_samples s) (held_interval s) at

module _ (s : List ℕ) (k : ℕ) where
  -- The tests of tag 03, of its scalars, and of its fields 115 and 117.
  pub header_test : Tests (Stands s 3 180 (trace_place s k)) 12 (trace_place s k) (field_cause s 3 180 (trace_place s k))
  header_test = test_field s 3 180 (trace_place s k)

  pub scalar_test : (fields : List Field) (scalar : Field) → Tests (SmallestAt s k fields scalar) 13 (header_place s k scalar.begins) (smallest_cause s (trace_place s k + 3) fields scalar)
  scalar_test fields scalar =
      test_by (SmallestAt s k fields scalar) (is_smallest (map (field_number s (trace_place s k + 3)) fields) (field_number s (trace_place s k + 3) scalar)) 13 (header_place s k scalar.begins) (λ e. e) (λ e. e)

  pub count_test : Tests (number16 s (header_place s k 115) ≡ held_samples s) 13 (header_place s k 115) (refuse_if (not (eqb (number16 s (header_place s k 115)) (held_samples s))) 13 (header_place s k 115))
  count_test = test_same (number16 s (header_place s k 115)) (held_samples s) 13 (header_place s k 115)

  pub spacing_test : Tests (number16 s (header_place s k 117) ≡ held_interval s) 13 (header_place s k 117) (refuse_if (not (eqb (number16 s (header_place s k 117)) (held_interval s))) 13 (header_place s k 117))
  spacing_test = test_same (number16 s (header_place s k 117)) (held_interval s) 13 (header_place s k 117)

  -- The causes of its samples: field by field, 12 and then 13.
  abbrev samples_at : Check
  samples_at = samples_causes_in tag04 s (held_samples s) (trace_place s k + 183)

  abbrev tags : ℕ → Check
  tags f = field_cause s 4 (field_count (share_of s k) (held_samples s) f * 6) (field_place s k f)

  abbrev pairs_of_lem : ℕ → List Check
  pairs_of_lem f = walk (pair_cause_in tag04 s) 6 (field_count (share_of s k) (held_samples s) f) (field_place s k f + 3)

  by_field : samples_causes_in tag04 s (held_samples s) (trace_place s k + 183) ≡ first_of (each (λ f. then (tags f) (first_of (pairs_of_lem f))) (fields_in (share_of s k) (held_samples s)))
  unfolding samples_causes_in fields.in_fields field_form_in
  by_field = refl

  by_pair : first_of (each (λ j. pair_cause_in tag04 s (pair_place s k j)) (held_samples s)) ≡ first_of (flat (each pairs_of_lem (fields_in (share_of s k) (held_samples s))))
  unfolding fields.in_fields
  by_pair = ap first_of (pairs_in_fields (share_of s k) (share_some tag04 s (held_samples s) (trace_place s k + 183)) 6 (pair_cause_in tag04 s) (held_samples s) (trace_place s k + 183))

  -- Where each field stands and each pair is canonical, 12 and 13 find nothing in them,
  samples_fine : ((f : ℕ) → f < fields_in (share_of s k) (held_samples s) → FieldRight s k f) → ((j : ℕ) → j < held_samples s → CanonicalAt s (pair_place s k j)) → samples_causes_in tag04 s (held_samples s) (trace_place s k + 183) ≡ Fine
  samples_fine h p =
      let q : first_of (each (λ j. pair_cause_in tag04 s (pair_place s k j)) (held_samples s)) ≡ Fine = each_fine _ (held_samples s) (λ j l. fine_where (test_pair s _) (p j l)) in
      by_field
      ∙ each_fine _ (fields_in (share_of s k) (held_samples s))
      (λ f l. fine_then (test_field s 4 _ _) (h f l) (flat_is pairs_of_lem (fields_in (share_of s k) (held_samples s)) (sym by_pair ∙ q) f l))

  -- and where they find nothing in them, all that is so.
  samples_right : samples_causes_in tag04 s (held_samples s) (trace_place s k + 183) ≡ Fine → ((f : ℕ) → f < fields_in (share_of s k) (held_samples s) → FieldRight s k f) × ((j : ℕ) → j < held_samples s → CanonicalAt s (pair_place s k j))
  samples_right e =
      let one = each_is (λ f. then (tags f) (first_of (pairs_of_lem f))) (fields_in (share_of s k) (held_samples s)) (sym by_field ∙ e) in
      let q : first_of (each (λ j. pair_cause_in tag04 s (pair_place s k j)) (held_samples s)) ≡ Fine =
      by_pair ∙ flat_fine pairs_of_lem (fields_in (share_of s k) (held_samples s)) (λ f l. (then_fine (tags f) _ (one f l)).1) in
      (λ f l. holds_where (test_field s 4 _ _) (then_fine (tags f) _ (one f l)).0, λ j l. holds_where (test_pair s _) (each_is _ (held_samples s) q j l))

  -- The causes of a trace, one by one.
  pub form_parts : form_at s (trace_place s k)
      ≡ then (field_cause s 3 180 (trace_place s k))
      (then (smallest_cause s (trace_place s k + 3) elevation_fields elevation_scalar)
      (then (smallest_cause s (trace_place s k + 3) coordinate_fields coordinate_scalar)
      (then (refuse_if (not (eqb (number16 s (header_place s k 115)) (held_samples s))) 13 (header_place s k 115))
      (then (refuse_if (not (eqb (number16 s (header_place s k 117)) (held_interval s))) 13 (header_place s k 117)) (samples_causes_in tag04 s (held_samples s) (trace_place s k + 183))))))
  unfolding smallest_causes
  form_parts =
      trace_parts tag04 s (held_samples s) (held_interval s) (trace_place s k)
      ∙ ap (then (field_cause s 3 180 (trace_place s k)))
      (then_assoc (smallest_cause s (trace_place s k + 3) elevation_fields elevation_scalar) (smallest_cause s (trace_place s k + 3) coordinate_fields coordinate_scalar) _)

  -- Behind scalars that are right, the answer is that of fields 115 and 117 and of tag 04.
  pub behind_scalars : ScalarsRight s k → {x : Check}
      → then (refuse_if (not (eqb (number16 s (header_place s k 115)) (held_samples s))) 13 (header_place s k 115))
      (then (refuse_if (not (eqb (number16 s (header_place s k 117)) (held_interval s))) 13 (header_place s k 117)) (samples_causes_in tag04 s (held_samples s) (trace_place s k + 183))) ≡ x
      → form_at s (trace_place s k) ≡ x
  behind_scalars h e =
      form_parts
      ∙ fine_then header_test h.header
      (fine_then (scalar_test elevation_fields elevation_scalar) h.elevations (fine_then (scalar_test coordinate_fields coordinate_scalar) h.coordinates e))

  -- Behind a header that is right, the answer is that of tag 04.
  pub behind_header : HeaderRight s k → {x : Check} → samples_causes_in tag04 s (held_samples s) (trace_place s k + 183) ≡ x → form_at s (trace_place s k) ≡ x
  behind_header h e = behind_scalars h.front (fine_then count_test h.count (fine_then spacing_test h.interval e))

  -- Where the scalars are right, 13 finds nothing in them.
  pub scalars_fine : ScalarsRight s k → smallest_causes s (trace_place s k + 3) ≡ Fine
  unfolding smallest_causes
  scalars_fine h = fine_then (scalar_test elevation_fields elevation_scalar) h.elevations (fine_where (scalar_test coordinate_fields coordinate_scalar) h.coordinates)

  -- Where a trace is right, 12 and 13 find nothing in it.
  pub trace_fine : TraceRight s k → form_at s (trace_place s k) ≡ Fine
  trace_fine h = behind_header h.front (samples_fine h.fields h.pairs)

  -- And where they find nothing in it, it is right.
  pub trace_right : form_at s (trace_place s k) ≡ Fine → TraceRight s k
  trace_right e =
      let a = holds_then header_test _ (sym form_parts ∙ e) in
      let x = holds_then (scalar_test elevation_fields elevation_scalar) _ a.1 in
      let y = holds_then (scalar_test coordinate_fields coordinate_scalar) _ x.1 in
      let b = holds_then count_test _ y.1 in
      let c = holds_then spacing_test _ b.1 in
      let d = samples_right c.1 in
      record {
        front = record { front = record { header = a.0; elevations = x.0; coordinates = y.0 }; count = b.0; interval = c.0 };
        fields = d.0;
        pairs = d.1;
      }

-- ## How many traces there are

-- The traces that a record holds, by the tags 03 that follow each other.
abbrev pub count_in : List ℕ → ℕ
count_in s = held_count s (held_samples s)

module _ (s : List ℕ) where
  -- Tag 03 stands where trace t should.
  abbrev is_trace : ℕ → Bool
  is_trace t = is_trace_in tag04 s (held_samples s) t

  -- The tags of the traces up to trace k are 03.
  tags_until : (k : ℕ) → RightUntil s k → (j : ℕ) → j < k → is_trace (0 + j) ≡ true
  tags_until k h j l = let z : 0 + j ≡ j = omega arith in ap is_trace z ∙ eq-eqb (get_or s (trace_place s j) 0) 3 (h.before j l).front.front.header.tag_is

  -- Where another trace begins behind k traces, more than k are counted.
  pub next_counted : (k : ℕ) → TraceNext s k → k < count_in s
  next_counted k h =
      let few : k < most_traces = h.few in
      let all = run_more is_trace most_traces 0 k (omega arith) (tags_until k h.until) in
      let z : 0 + k ≡ k = omega arith in
      let one = run_one is_trace (most_traces - k) (0 + k) (omega arith) (ap is_trace z ∙ eq-eqb (get_or s (trace_place s k) 0) 3 h.tag) in
      omega arith

  -- Where tag 05 should follow t traces, t are counted.
  pub end_counted : (t : ℕ) → EndNext s t → count_in s ≡ t
  end_counted t h =
      let few : t ≤ most_traces = h.few in
      let all = run_more is_trace most_traces 0 t (omega arith) (tags_until t h.until) in
      let most = run_most is_trace (most_traces - t) (0 + t) in
      ⊎_elim (λ (e : t ≡ 100000). omega arith)
      (λ n. let z : 0 + t ≡ t = omega arith in
      let none = run_none is_trace (most_traces - t) (0 + t) (ap is_trace z ∙ ne_eqb (get_or s (trace_place s t) 0) 3 n) in
      omega arith) h.end

  -- The traces up to trace t are right, as far as they are looked at.
  until_fine : (t : ℕ) → RightUntil s t → first_of (each (λ j. form_at s (trace_place s j)) t) ≡ Fine
  until_fine t h = each_fine (λ j. form_at s (trace_place s j)) t (λ j l. trace_fine s j (h.before j l))

  -- Where the traces that are counted are all right, tag 05 should follow them.
  pub end_next : HeadRight s → first_of (each (λ j. form_at s (trace_place s j)) (count_in s)) ≡ Fine → EndNext s (count_in s)
  end_next h e =
      let z : 0 + count_in s ≡ count_in s = omega arith in
      record {
        until = record { head = h; before = λ i l. trace_right s i (each_is (λ j. form_at s (trace_place s j)) (count_in s) e i l) };
        few = run_most is_trace most_traces 0;
        end = ⊎_elim (λ q. inl q) (λ q. inr (eqb-false (get_or s (trace_place s (count_in s)) 0) 3 (ap is_trace (sym z) ∙ q))) (run_end is_trace most_traces 0);
      }

  -- A trace that is counted, behind traces that are all right.
  pub trace_next : HeadRight s → (k : ℕ) → k < count_in s → ((i : ℕ) → i < k → form_at s (trace_place s i) ≡ Fine) → TraceNext s k
  trace_next h k l b =
      let z : 0 + k ≡ k = omega arith in
      let most = run_most is_trace most_traces 0 in
      record {
        until = record { head = h; before = λ i m. trace_right s i (b i m) };
        few = omega arith;
        tag = eqb-true (get_or s (trace_place s k) 0) 3 (ap is_trace (sym z) ∙ run_are is_trace most_traces 0 k l);
      }

  -- ## The end

  -- The tests of tag 05 behind t traces, of the count in it, and of the bytes after it.
  pub end_test : (t : ℕ) → Tests (Stands s 5 4 (trace_place s t)) 12 (trace_place s t) (field_cause s 5 4 (trace_place s t))
  end_test t = test_field s 5 4 (trace_place s t)

  pub total_test : (t : ℕ) → Tests (number (bytes_at s (trace_place s t + 3) 4) ≡ t) 12 (trace_place s t) (refuse_if (not (eqb (number (bytes_at s (trace_place s t + 3) 4)) t)) 12 (trace_place s t))
  total_test t = test_same (number (bytes_at s (trace_place s t + 3) 4)) t 12 (trace_place s t)

  pub last_test : (t : ℕ) → Tests (length s ≤ trace_place s t + 7) 12 (trace_place s t + 7) (refuse_if (ltb (trace_place s t + 7) (length s)) 12 (trace_place s t + 7))
  last_test t = test_room (trace_place s t + 7) (length s) 12 (trace_place s t + 7)

  -- At the end of a valid record 12 finds nothing.
  end_fine : (t : ℕ) → RecordRight s t → end_causes s t (trace_place s t) ≡ Fine
  end_fine t h = fine_then (end_test t) h.field (fine_then (total_test t) h.count (fine_then (last_test t) h.last refl))

  -- And where it finds nothing at the end, the record is valid.
  end_right : (t : ℕ) → EndNext s t → end_causes s t (trace_place s t) ≡ Fine → RecordRight s t
  end_right t h e =
      let k = holds_then (end_test t) _ e in
      let l = holds_then (total_test t) _ k.1 in
      let m = holds_then (last_test t) _ l.1 in
      record { end = h; field = k.0; count = l.0; last = m.0 }

  -- ## The whole record

  -- Behind traces that are all right, the answer is that of the end.
  pub body_end : (t : ℕ) → EndNext s t → {x : Check} → end_causes s t (trace_place s t) ≡ x → body_causes_in tag04 s (held_samples s) (held_interval s) (count_in s) ≡ x
  unfolding body_causes_in
  body_end t h e = ap (body_causes_in tag04 s (held_samples s) (held_interval s)) (end_counted t h) ∙ then_second _ _ (until_fine t h.until) e

  -- Behind tags 01 and 02 that are right, the answer is that of the traces and the end.
  pub form_body : HeadRight s → {x : Check} → body_causes_in tag04 s (held_samples s) (held_interval s) (count_in s) ≡ x → form_causes s ≡ x
  unfolding form_causes_in
  form_body h e = then_second _ _ (cards_fine s h.front) (then_second _ _ (head_fine s h) e)

  -- A valid record is refused by neither 12 nor 13.
  pub record_fine : (t : ℕ) → RecordRight s t → form_causes s ≡ Fine
  record_fine t h = form_body h.end.until.head (body_end t h.end (end_fine t h))

  -- A record that neither refuses is valid, with the traces that are counted.
  pub record_right : form_causes s ≡ Fine → RecordRight s (count_in s)
  unfolding form_causes_in body_causes_in
  record_right e =
      let a = then_fine (cards_causes s) _ e in
      let b = then_fine (binary_causes s) _ a.1 in
      let h = head_right s (cards_right s a.0) b.0 in
      let c = then_fine (first_of (each (λ j. form_at s (trace_place s j)) (count_in s))) _ b.1 in
      end_right (count_in s) (end_next h c.0) c.1
