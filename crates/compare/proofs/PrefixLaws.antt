-- Two lists that have their first e bytes in common, and what is found and held there. Assumes nothing.
use mathlib.Core.Path.{◌≡◌, refl, sym, ap, ap₂, ◌∙◌}
use mathlib.Core.Bool.{Bool, not, ◌&&◌}
use mathlib.Core.List.{List, ◌++◌, map}
use Prim.Native.Nat.{ℕ, ◌+◌, ◌*◌, ◌≤◌, ◌<◌, min}
use native.Mathlib.Omega.{arith}
use borrow.Author.Tests.{le-leb}
use lib.Dec.{leb, ltb, eqb}
use lib.IntN.{ℤ, pos}
use lib.ListN.{length, get_or}
use Rattle.numbers.specs.Walk.{pick, walk, flat, bytes_at}
use Rattle.numbers.specs.BigEndian.{number}
use Rattle.numbers.specs.TwosComplement.{signed_of}
use Rattle.numbers.specs.Places.{byte_place}
use Rattle.numbers.specs.Cause.{refuse_if, then, first_of}
use Rattle.numbers.specs.Cause.{Check}
use Rattle.numbers.proofs.WalkLaws.{walk_same, cons_eq}
use Rattle.fields.specs.Fields.{each, pair_place, fields_length, in_fields}
use Rattle.fields.proofs.FieldsLaws.{by_fields, length_more, fields_more, in_none, in_next, pairs_in_fields}
use Rattle.reel.specs.Layout.{number16, trace_fields, trace_widths}
use Rattle.reel.specs.Meaning.{elevation_fields, coordinate_fields}
use Rattle.scalars.specs.Scalar.{is_smallest}
use Rattle.headers.specs.Header.{smallest_causes}
use Rattle.headers.proofs.Listed.{elevations_in, coordinates_in, elevation_scalar_in, coordinate_scalar_in}
use Rattle.record.specs.Kind.{tag04}
use Rattle.record.specs.Record.{field_samples}
use Rattle.record.specs.Form.{field_cause, card_cause, cards_causes, number_causes, binary_causes, header_causes, pair_cause_in, field_form_in, share_in, samples_causes_in, trace_form_in, behind_trace_in}
use Rattle.record.specs.Held.{held_value, held_values_in}
use Rattle.record.proofs.FormLaws.{share_some}
use Rattle.compare.specs.Key.{card_key, binary_key, header_key, trace_key}
use Rattle.compare.specs.Parts.{Alike, number_at, row_of, low_rows, high_rows}
use Rattle.compare.proofs.KeyLaws.{header_rows, binary_rows}

-- 13 of a header's scalars, by its numbers
scalars_of : ℕ → List ℤ → Check
scalars_of start zs =
    then (refuse_if (not (is_smallest (elevations_in zs) (elevation_scalar_in zs))) 13 (start + 68)) (refuse_if (not (is_smallest (coordinates_in zs) (coordinate_scalar_in zs))) 13 (start + 70))

scalars_by : (s : List ℕ) (start : ℕ) → smallest_causes s start ≡ scalars_of start (header_key s start)
unfolding smallest_causes header_key scalars_of elevation_fields coordinate_fields trace_fields trace_widths
scalars_by s start = refl

module _ (a b : List ℕ) (e : ℕ) (ea : e ≤ length a) (eb : e ≤ length b) (same : Alike a b e) where
  bytes_like : (at k : ℕ) → at + k ≤ e → bytes_at a at k ≡ bytes_at b at k
  unfolding bytes_at
  bytes_like at k h = walk_same (λ x. get_or a x 0) (λ x. get_or b x 0) 1 1 k at at (λ j l. same (at + j * 1) (omega arith))

  pub number_like : (at : ℕ) → at + 2 ≤ e → number16 a at ≡ number16 b at
  number_like at h = ap number (bytes_like at 2 h)

  -- ## The first two fields

  field_like : (tag size at : ℕ) → at + (3 + size) ≤ e → field_cause a tag size at ≡ field_cause b tag size at
  field_like tag size at h =
      let made : Bool → ℕ → ℕ → Check = λ l x n. refuse_if (not (l && (eqb x tag && eqb n size))) 12 at in
      let whole : leb (at + (3 + size)) (length a) ≡ leb (at + (3 + size)) (length b) = le-leb (at + (3 + size)) (length a) (omega arith) ∙ sym (le-leb (at + (3 + size)) (length b) (omega arith)) in
      ap (λ (l : Bool). made l (get_or a at 0) (number16 a (at + 1))) whole ∙ ap₂ (made (leb (at + (3 + size)) (length b))) (same at (omega arith)) (number_like (at + 1) (omega arith))

  pub cards_like : 3266 ≤ e → cards_causes a ≡ cards_causes b
  unfolding cards_causes
  cards_like h =
      ap₂ then (field_like 1 3200 0 (omega arith))
      (ap first_of (walk_same (card_cause a) (card_cause b) 1 1 3200 3 3 (λ j l. ap (λ (x : ℕ). refuse_if (eqb x 0) 13 (3 + j * 1)) (same (3 + j * 1) (omega arith)))))

  pub binary_like : 3266 ≤ e → binary_causes a ≡ binary_causes b
  unfolding binary_causes
  binary_like h =
      ap₂ then (field_like 2 60 3203 (omega arith))
      (ap (λ (i : ℕ). number_causes i (number16 a 3226) (number16 a 3230)) (number_like 3222 (omega arith))
      ∙ ap₂ (number_causes (number16 b 3222)) (number_like 3226 (omega arith)) (number_like 3230 (omega arith)))

  -- ## Numbers in a row

  long_like : (k p : ℕ) → p + k * 4 ≤ e → row_of a 4 k p ≡ row_of b 4 k p
  unfolding row_of
  long_like k p h = walk_same (number_at a 4) (number_at b 4) 4 4 k p p (λ j l. ap (λ (x : List ℕ). signed_of 32 (number x)) (bytes_like (p + j * 4) 4 (omega arith)))

  short_like : (k p : ℕ) → p + k * 2 ≤ e → row_of a 2 k p ≡ row_of b 2 k p
  unfolding row_of
  short_like k p h = walk_same (number_at a 2) (number_at b 2) 2 2 k p p (λ j l. ap (λ (x : List ℕ). signed_of 16 (number x)) (bytes_like (p + j * 2) 2 (omega arith)))

  low_like : (p : ℕ) → p + 180 ≤ e → low_rows a p ≡ low_rows b p
  unfolding low_rows
  low_like p h =
      ap₂ (λ (x y : List ℤ). x ++ y) (long_like 7 p (omega arith)) (ap₂ (λ (x y : List ℤ). x ++ y) (short_like 4 (p + 28) (omega arith)) (long_like 8 (p + 36) (omega arith)))

  high_like : (p : ℕ) → p + 180 ≤ e → high_rows a p ≡ high_rows b p
  unfolding high_rows
  high_like p h =
      ap₂ (λ (x y : List ℤ). x ++ y) (short_like 2 (p + 68) (omega arith)) (ap₂ (λ (x y : List ℤ). x ++ y) (long_like 4 (p + 72) (omega arith)) (short_like 46 (p + 88) (omega arith)))

  numbers_like : (p : ℕ) → p + 180 ≤ e → header_key a p ≡ header_key b p
  numbers_like p h = header_rows a p ∙ ap₂ (λ (x y : List ℤ). x ++ y) (low_like p h) (high_like p h) ∙ sym (header_rows b p)

  pub card_key_like : 3266 ≤ e → card_key a ≡ card_key b
  unfolding card_key
  card_key_like h = ap (map pos) (bytes_like 3 3200 (omega arith))

  pub binary_key_like : 3266 ≤ e → binary_key a ≡ binary_key b
  binary_key_like h =
      binary_rows a ∙ ap₂ (λ (x y : List ℤ). x ++ y) (long_like 3 3206 (omega arith)) (short_like 24 3218 (omega arith)) ∙ sym (binary_rows b)

  -- ## A trace

  header_like : (n i at : ℕ) → at + 183 ≤ e → header_causes a n i at ≡ header_causes b n i at
  unfolding header_causes
  header_like n i at h =
      let own : ℕ → ℕ → ℕ → Check = λ p m x. refuse_if (not (eqb x m)) 13 p in
      let s = scalars_by a (at + 3) ∙ ap (scalars_of (at + 3)) (numbers_like (at + 3) (omega arith)) ∙ sym (scalars_by b (at + 3)) in
      let x = ap (own (byte_place (at + 3) 115) n) (number_like (byte_place (at + 3) 115) (omega arith)) in
      let y = ap (own (byte_place (at + 3) 117) i) (number_like (byte_place (at + 3) 117) (omega arith)) in
      ap₂ then (field_like 3 180 at (omega arith)) (ap₂ then s (ap₂ then x y))

  pair_like : (count at : ℕ) → at + 3 + count * 6 ≤ e → field_form_in tag04 a count at ≡ field_form_in tag04 b count at
  unfolding field_form_in
  pair_like count at h =
      ap₂ then (field_like 4 (count * 6) at (omega arith))
      (ap first_of (walk_same (pair_cause_in tag04 a) (pair_cause_in tag04 b) 6 6 count (at + 3) (at + 3) (λ j l. ap (λ (x : List ℕ). refuse_if (not (tag04.canonical x)) 13 (at + 3 + j * 6)) (bytes_like (at + 3 + j * 6) 6 (omega arith)))))

  value_like : (count at : ℕ) → at + 3 + count * 6 ≤ e → walk (held_value a) 6 count (at + 3) ≡ walk (held_value b) 6 count (at + 3)
  value_like count at h =
      walk_same (held_value a) (held_value b) 6 6 count (at + 3) (at + 3) (λ j l. ap (λ (x : List ℕ). tag04.value x) (bytes_like (at + 3 + j * 6) 6 (omega arith)))

  share_like : (n at : ℕ) → at + 3 ≤ e → share_in tag04 a n at ≡ share_in tag04 b n at
  share_like n at h = ap (λ (x : ℕ). pick ((ltb field_samples n && leb n tag04.earlier) && eqb x (n * 6)) n field_samples) (number_like (at + 1) (omega arith))

  -- what is found or held in each field
  fields_like : {A : Type 0} (g h : ℕ → ℕ → A) → ((count at : ℕ) → at + 3 + count * 6 ≤ e → g count at ≡ h count at)
      → (c : ℕ) → 0 < c → (n at : ℕ) → at + fields_length 6 c n ≤ e → in_fields g 6 c n at ≡ in_fields h 6 c n at
  fields_like g h f c some =
      by_fields c some (λ n. (at : ℕ) → at + fields_length 6 c n ≤ e → in_fields g 6 c n at ≡ in_fields h 6 c n at)
      (λ n z at l. in_none c some 6 g n at z ∙ sym (in_none c some 6 h n at z))
      (λ n z rest at l.
      let m = length_more c some 6 n z in
      in_next c some 6 g n at z ∙ cons_eq (f (min c n) at (omega (arith, m))) (rest (at + (3 + min c n * 6)) (omega (arith, m))) ∙ sym (in_next c some 6 h n at z))

  module _ (n at : ℕ) (some : 0 < n) (inside : behind_trace_in tag04 a n at ≤ e) where
    room : (at + 183 + fields_length 6 (share_in tag04 a n (at + 183)) n ≤ e) × (at + 186 ≤ e)
    unfolding behind_trace_in
    room =
        let m = fields_more (share_in tag04 a n (at + 183)) (share_some tag04 a n (at + 183)) n some in
        (omega (arith, inside), omega (arith, inside, m))

    shares : share_in tag04 a n (at + 183) ≡ share_in tag04 b n (at + 183)
    shares = share_like n (at + 183) (omega (arith, room.1))

    pub behind_like : behind_trace_in tag04 a n at ≡ behind_trace_in tag04 b n at
    unfolding behind_trace_in
    behind_like = ap (λ (x : ℕ). at + (183 + fields_length 6 x n)) shares

    samples_like : samples_causes_in tag04 a n (at + 183) ≡ samples_causes_in tag04 b n (at + 183)
    unfolding samples_causes_in
    samples_like =
        let x = share_in tag04 a n (at + 183) in
        ap first_of (fields_like (field_form_in tag04 a) (field_form_in tag04 b) pair_like x (share_some tag04 a n (at + 183)) n (at + 183) room.0)
        ∙ ap (λ (y : ℕ). first_of (in_fields (field_form_in tag04 b) 6 y n (at + 183))) shares

    -- LAW. A trace that ends within the common bytes is found to be of the same form,
    pub trace_like : (i : ℕ) → trace_form_in tag04 a n i at ≡ trace_form_in tag04 b n i at
    unfolding trace_form_in
    trace_like i = ap₂ then (header_like n i at (omega (arith, room.1))) samples_like

    values_like : held_values_in tag04 a n (at + 183) ≡ held_values_in tag04 b n (at + 183)
    unfolding held_values_in
    values_like =
        let x = share_in tag04 a n (at + 183) in
        let some-a = share_some tag04 a n (at + 183) in
        pairs_in_fields x some-a 6 (held_value a) n (at + 183)
        ∙ ap flat (fields_like (λ m p. walk (held_value a) 6 m (p + 3)) (λ m p. walk (held_value b) 6 m (p + 3)) value_like x some-a n (at + 183) room.0)
        ∙ sym (pairs_in_fields x some-a 6 (held_value b) n (at + 183))
        ∙ ap (λ (y : ℕ). each (λ j. held_value b (pair_place 6 y (at + 183) j)) n) shares

    -- and holds the same.
    pub trace_key_like : trace_key a n at ≡ trace_key b n at
    unfolding trace_key
    trace_key_like = ap₂ (λ (x y : List ℤ). x ++ y) (numbers_like (at + 3) (omega (arith, room.1))) values_like
