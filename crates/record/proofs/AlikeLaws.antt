-- Two lists of bytes of the same length that have the same bytes from tag 02 on: what is found in them there, and what they hold there, is the
-- same, whatever the form of each trace. Assumes nothing.
use mathlib.Core.Path.{◌≡◌, refl, ap, ap₂, fun_ext, ◌∙◌}
use mathlib.Core.List.{List, map}
use mathlib.Core.Bool.{Bool, not, ◌&&◌}
use Prim.Native.Nat.{ℕ, zero, suc, ◌+◌, ◌*◌, ◌≤◌}
use native.Mathlib.Omega.{arith}
use lib.Dec.{leb, ltb, eqb}
use lib.ListN.{length, get_or}
use lib.IntN.{ℤ}
use Rattle.numbers.specs.Walk.{pick, bytes_at}
use Rattle.numbers.specs.Places.{byte_place}
use Rattle.numbers.specs.BigEndian.{number}
use Rattle.numbers.specs.TwosComplement.{signed_of}
use Rattle.numbers.specs.Cause.{refuse_if, then, first_of}
use Rattle.numbers.specs.Cause.{Check}
use Rattle.numbers.specs.Cause.{Fine}
use Rattle.numbers.proofs.WalkLaws.{walk_same}
use Rattle.fields.specs.Fields.{each, run_from, fields_in, field_count, field_place, pair_place, fields_length, in_fields}
use Rattle.fields.proofs.FieldsLaws.{each_like}
use Rattle.reel.specs.Layout.{Field, elevation_scalar, coordinate_scalar, field_number, number16}
use Rattle.reel.specs.Causes.{most_traces}
use Rattle.scalars.specs.Scalar.{is_smallest}
use Rattle.reel.specs.Meaning.{elevation_fields, coordinate_fields, Header, header_of, Trace}
use Rattle.headers.specs.Header.{smallest_causes}
use Rattle.record.specs.Kind.{Kind}
use Rattle.record.specs.Record.{field_samples}
use Rattle.record.specs.Form.{field_cause, number_causes, binary_causes, header_causes, end_causes, pair_cause_in, field_form_in, share_in, samples_causes_in, trace_form_in, behind_trace_in, trace_place_in, is_trace_in, held_count_in, body_causes_in}
use Rattle.record.specs.Held.{held_value_in, held_values_in, held_trace_in}
use Rattle.record.proofs.FormLaws.{place_front}

-- runs of tests that give the same
run_alike : (f g : ℕ → Bool) → ((j : ℕ) → f j ≡ g j) → (most j : ℕ) → run_from f most j ≡ run_from g most j
run_alike f g h most j = ap (λ (t : ℕ → Bool). run_from t most j) (fun_ext h)

module _ (s r : List ℕ) (long : length s ≡ length r) (same : (p : ℕ) → 3203 ≤ p → get_or s p 0 ≡ get_or r p 0) where
  pub bytes_alike : (at k : ℕ) → 3203 ≤ at → bytes_at s at k ≡ bytes_at r at k
  unfolding bytes_at
  bytes_alike at k h = walk_same (λ a. get_or s a 0) (λ a. get_or r a 0) 1 1 k at at (λ j l. same (at + j * 1) (omega arith))

  pub number_alike : (at : ℕ) → 3203 ≤ at → number16 s at ≡ number16 r at
  number_alike at h = ap number (bytes_alike at 2 h)

  -- header numbers, where byte number 1 stands behind tag 02
  pub fields_alike : (start : ℕ) → 3203 ≤ start → field_number s start ≡ field_number r start
  fields_alike start h = fun_ext (λ (f : Field). ap (λ (b : List ℕ). signed_of (8 * f.width) (number b)) (bytes_alike (byte_place start f.begins) f.width (omega arith)))

  cause_alike : (tag size at : ℕ) → 3203 ≤ at → field_cause s tag size at ≡ field_cause r tag size at
  cause_alike tag size at h =
      let made : ℕ → ℕ → ℕ → Check = λ l b n. refuse_if (not (leb (at + (3 + size)) l && (eqb b tag && eqb n size))) 12 at in
      ap (λ (l : ℕ). made l (get_or s at 0) (number16 s (at + 1))) long ∙ ap₂ (made (length r)) (same at h) (number_alike (at + 1) (omega arith))

  pub binary_alike : binary_causes s ≡ binary_causes r
  unfolding binary_causes
  binary_alike =
      ap₂ then (cause_alike 2 60 3203 (omega arith))
      (ap (λ (i : ℕ). number_causes i (number16 s 3226) (number16 s 3230)) (number_alike 3222 (omega arith))
      ∙ ap₂ (number_causes (number16 r 3222)) (number_alike 3226 (omega arith)) (number_alike 3230 (omega arith)))

  scalars_alike : (start : ℕ) → 3203 ≤ start → smallest_causes s start ≡ smallest_causes r start
  unfolding smallest_causes
  scalars_alike start h =
      let one : List Field → Field → (Field → ℤ) → Check = λ fields scalar f. refuse_if (not (is_smallest (map f fields) (f scalar))) 13 (byte_place start scalar.begins) in
      ap (λ (f : Field → ℤ). then (one elevation_fields elevation_scalar f) (one coordinate_fields coordinate_scalar f)) (fields_alike start h)

  header_alike : (n i at : ℕ) → 3203 ≤ at → header_causes s n i at ≡ header_causes r n i at
  unfolding header_causes
  header_alike n i at h =
      let own : ℕ → ℕ → ℕ → Check = λ p m x. refuse_if (not (eqb x m)) 13 p in
      let b = ap (own (byte_place (at + 3) 115) n) (number_alike (byte_place (at + 3) 115) (omega arith)) in
      let c = ap (own (byte_place (at + 3) 117) i) (number_alike (byte_place (at + 3) 117) (omega arith)) in
      ap₂ then (cause_alike 3 180 at h) (ap₂ then (scalars_alike (at + 3) (omega arith)) (ap₂ then b c))

  end_alike : (t at : ℕ) → 3203 ≤ at → end_causes s t at ≡ end_causes r t at
  end_alike t at h =
      let b = ap (λ (x : List ℕ). refuse_if (not (eqb (number x) t)) 12 at) (bytes_alike (at + 3) 4 (omega arith)) in
      let c = ap (λ (x : ℕ). then (refuse_if (ltb (at + 7) x) 12 (at + 7)) Fine) long in
      ap₂ then (cause_alike 5 4 at h) (ap₂ then b c)

  module _ (k : Kind) where
    pair_alike : (at : ℕ) → 3203 ≤ at → pair_cause_in k s at ≡ pair_cause_in k r at
    pair_alike at h = ap (λ (b : List ℕ). refuse_if (not (k.canonical b)) 13 at) (bytes_alike at k.width h)

    field_alike : (count at : ℕ) → 3203 ≤ at → field_form_in k s count at ≡ field_form_in k r count at
    unfolding field_form_in
    field_alike count at h =
        ap₂ then (cause_alike k.tag (count * k.width) at h)
        (ap first_of (walk_same (pair_cause_in k s) (pair_cause_in k r) k.width k.width count (at + 3) (at + 3) (λ j l. pair_alike (at + 3 + j * k.width) (omega arith))))

    share_alike : (n at : ℕ) → 3203 ≤ at → share_in k s n at ≡ share_in k r n at
    share_alike n at h = ap (λ (x : ℕ). pick ((ltb field_samples n && leb n k.earlier) && eqb x (n * k.width)) n field_samples) (number_alike (at + 1) (omega arith))

    samples_alike : (n at : ℕ) → 3203 ≤ at → samples_causes_in k s n at ≡ samples_causes_in k r n at
    unfolding samples_causes_in in_fields
    samples_alike n at h =
        let c = share_in k r n at in
        ap (λ (x : ℕ). first_of (each (λ f. field_form_in k s (field_count x n f) (field_place k.width x at f)) (fields_in x n))) (share_alike n at h)
        ∙ ap first_of (each_like _ _ (fields_in c n) (λ f l. field_alike (field_count c n f) (field_place k.width c at f) (omega arith)))

    trace_alike : (n i at : ℕ) → 3203 ≤ at → trace_form_in k s n i at ≡ trace_form_in k r n i at
    unfolding trace_form_in
    trace_alike n i at h = ap₂ then (header_alike n i at h) (samples_alike n (at + 183) (omega arith))

    behind_alike : (n at : ℕ) → 3203 ≤ at → behind_trace_in k s n at ≡ behind_trace_in k r n at
    unfolding behind_trace_in
    behind_alike n at h = ap (λ (c : ℕ). at + (183 + fields_length k.width c n)) (share_alike n (at + 183) (omega arith))

    pub place_alike : (n t : ℕ) → trace_place_in k s n t ≡ trace_place_in k r n t
    unfolding trace_place_in
    place_alike n zero = refl
    place_alike n (suc t) = ap (behind_trace_in k s n) (place_alike n t) ∙ behind_alike n (trace_place_in k r n t) (omega (arith, place_front k r n t))

    pub count_alike : (n : ℕ) → held_count_in k s n ≡ held_count_in k r n
    count_alike n =
        run_alike (is_trace_in k s n) (is_trace_in k r n)
        (λ j. ap (λ (x : ℕ). eqb (get_or s x 0) 3) (place_alike n j) ∙ ap (λ (b : ℕ). eqb b 3) (same (trace_place_in k r n j) (omega (arith, place_front k r n j)))) most_traces 0

    pub body_alike : (n i t : ℕ) → body_causes_in k s n i t ≡ body_causes_in k r n i t
    unfolding body_causes_in
    body_alike n i t =
        ap₂ then
        (ap first_of (each_like _ _ t (λ j l. ap (trace_form_in k s n i) (place_alike n j) ∙ trace_alike n i (trace_place_in k r n j) (omega (arith, place_front k r n j)))))
        (ap (end_causes s t) (place_alike n t) ∙ end_alike t (trace_place_in k r n t) (omega (arith, place_front k r n t)))

    -- ## What they hold

    values_alike : (n at : ℕ) → 3203 ≤ at → held_values_in k s n at ≡ held_values_in k r n at
    unfolding held_values_in
    values_alike n at h =
        let c = share_in k r n at in
        ap (λ (x : ℕ). each (λ j. held_value_in k s (pair_place k.width x at j)) n) (share_alike n at h)
        ∙ each_like _ _ n (λ j l. ap k.value (bytes_alike (pair_place k.width c at j) k.width (omega arith)))

    held_alike : (n at : ℕ) → 3203 ≤ at → held_trace_in k s n at ≡ held_trace_in k r n at
    unfolding held_trace_in
    held_alike n at h = ap₂ (λ (x : Field → ℤ) (y : List ℤ). made (header_of x) y) (fields_alike (at + 3) (omega arith)) (values_alike n (at + 183) (omega arith))
      where
        made : Header → List ℤ → Trace
        made x y = record { header = x; values = y }

    pub traces_alike : (n t : ℕ) → each (λ j. held_trace_in k s n (trace_place_in k s n j)) t ≡ each (λ j. held_trace_in k r n (trace_place_in k r n j)) t
    traces_alike n t = each_like _ _ t (λ j l. ap (held_trace_in k s n) (place_alike n j) ∙ held_alike n (trace_place_in k r n j) (omega (arith, place_front k r n j)))
