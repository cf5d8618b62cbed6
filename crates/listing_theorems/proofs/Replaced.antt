-- A valid record with another text: it is valid, and it differs in its cards alone. Assumes nothing.
use mathlib.Core.Path.{◌≡◌, refl, sym, ap, ap₂, subst, ◌∙◌}
use mathlib.Core.List.{List, [], ◌∷◌, ◌++◌, map}
use mathlib.Core.Bool.{not, ◌&&◌}
use Prim.Native.Nat.{ℕ, ◌+◌, ◌-◌, ◌*◌, ◌≤◌, ◌<◌}
use native.Mathlib.Omega.{arith}
use lib.Dec.{leb, eqb}
use lib.ListN.{length, get_or, take, drop, length-take, take-append-drop}
use lib.IntN.{ℤ}
use lib.Seq.{get_or-drop, drop-drop}
use Rattle.numbers.specs.Walk.{bytes_at, overwritten}
use Rattle.numbers.specs.BigEndian.{number}
use Rattle.numbers.specs.TwosComplement.{signed_of}
use Rattle.numbers.specs.Cause.{refuse_if}
use Rattle.numbers.specs.Terms.{All, Bytes}
use Rattle.numbers.specs.Cause.{Check}
use Rattle.numbers.specs.Cause.{Fine}
use Rattle.numbers.proofs.WalkLaws.{cons_eq, all_take, all_drop, bytes_part, size_bytes}
use Rattle.numbers.proofs.AllLaws.{all_append}
use Rattle.numbers.proofs.CauseLaws.{then_fine}
use Rattle.numbers.proofs.RowLaws.{then_second}
use Rattle.numbers.proofs.Filling.{size_over}
use Rattle.fields.specs.Fields.{each}
use Rattle.reel.specs.Layout.{fields_from, card_bytes, binary_widths, binary_fields, field_number}
use Rattle.reel.specs.Meaning.{Meaning}
use Rattle.record.specs.Kind.{tag04}
use Rattle.record.specs.Form.{field_cause, cards_causes, binary_causes, held_interval, held_samples, trace_place, held_count, body_causes_in, form_causes_in, form_causes}
use Rattle.record.specs.Held.{held_trace_in, held_by_in, held_by}
use Rattle.record.proofs.HeaderLaws.{binary_front, binary_back}
use Rattle.record.proofs.AlikeLaws.{bytes_alike, number_alike, binary_alike, count_alike, body_alike, traces_alike}
use Rattle.listing.specs.Listing.{with_text}
use Rattle.listing.proofs.EndLaws.{long}
use Rattle.demands.proofs.From.{From, from_start, from_next, from_bytes}
use Rattle.demands.proofs.FieldBack.{cards_fine}
use Rattle.demands.proofs.Headers.{bytes_cards, meaning_eq}

-- ## Bytes

module _ (r text : List ℕ) (n : length text ≡ card_bytes) (h : 3203 ≤ length r) where
  -- The record with another text, from its first byte on, from the text on, and behind it.
  at_text : From (with_text r text) 3 (text ++ drop (3 + length text) r)
  unfolding overwritten
  at_text =
      let few : length (take 3 r) ≡ 3 = simp length-take (omega arith) in
      from_next (take 3 r) (text ++ drop (3 + length text) r) 3 few (from_start (with_text r text))

  at_behind : From (with_text r text) 3203 (drop 3203 r)
  at_behind =
      let e : 3 + length text ≡ 3203 = omega arith in
      subst (λ (x : ℕ). From (with_text r text) 3203 (drop x r)) e (from_next text (drop (3 + length text) r) 3200 n at_text)

  -- The text stands behind tag 01 and its length, and all else is as it was.
  pub text_bytes : bytes_at (with_text r text) 3 3200 ≡ text
  text_bytes = from_bytes text (drop (3 + length text) r) 3200 n at_text

  pub front_bytes : bytes_at (with_text r text) 0 3 ≡ bytes_at r 0 3
  unfolding overwritten
  front_bytes =
      let few : length (take 3 r) ≡ 3 = simp length-take (omega arith) in
      from_bytes (take 3 r) (text ++ drop (3 + length text) r) 3 few (from_start (with_text r text)) ∙ bytes_part r 0 3 (omega arith)

  pub behind_byte : (p : ℕ) → 3203 ≤ p → get_or (with_text r text) p 0 ≡ get_or r p 0
  behind_byte p l =
      let q = p - 3203 in
      let e : 3203 + q ≡ p = omega arith in
      ap (λ (x : ℕ). get_or (with_text r text) x 0) (sym e) ∙ sym (get_or-drop 3203 (with_text r text) q 0)
      ∙ ap (λ (x : List ℕ). get_or x q 0) at_behind.is ∙ get_or-drop 3203 r q 0 ∙ ap (λ (x : ℕ). get_or r x 0) e

-- ## Meaning

-- The meaning with another text.
abbrev pub with_cards : Meaning → List ℕ → Meaning
with_cards m text = record { cards = text; binary = m.binary; traces = m.traces }

-- Header numbers behind tag 02, by the byte number where the first field begins.
fields_alike : (s r : List ℕ) → length s ≡ length r → ((p : ℕ) → 3203 ≤ p → get_or s p 0 ≡ get_or r p 0) → (start b : ℕ) (ws : List ℕ) → 3203 ≤ start + (b - 1)
    → map (field_number s start) (fields_from b ws) ≡ map (field_number r start) (fields_from b ws)
fields_alike s r long same start b [] h = refl
fields_alike s r long same start b (w ∷ ws) h =
    cons_eq (ap (λ (x : List ℕ). signed_of (8 * w) (number x)) (bytes_alike s r long same (start + (b - 1)) w h))
    (fields_alike s r long same start (b + w) ws (omega arith))

-- A valid record r.
module _ (r : List ℕ) (bytes : Bytes r) (valid : form_causes r ≡ Fine) where
  whole : 3203 ≤ length r
  whole = long r valid

  -- With its own text it is itself.
  pub same_text : with_text r (held_by r).cards ≡ r
  unfolding held_by_in overwritten
  same_text =
      let text = bytes_at r 3 3200 in
      let e : 3 + length text ≡ 3200 + 3 = omega (arith, size_bytes r 3 3200) in
      ap (λ (x : ℕ). take 3 r ++ (text ++ drop x r)) e
      ∙ ap (λ (x : List ℕ). take 3 r ++ (text ++ x)) (sym (drop-drop 3200 3 r))
      ∙ ap (λ (x : List ℕ). take 3 r ++ (x ++ drop 3200 (drop 3 r))) (sym (bytes_part r 3 3200 (omega (arith, whole))))
      ∙ ap (λ (x : List ℕ). take 3 r ++ x) (take-append-drop 3200 (drop 3 r))
      ∙ take-append-drop 3 r

  -- And with another text, without 00.
  module _ (text : List ℕ) (n : length text ≡ card_bytes) (some : All (λ b. (0 < b) × (b < 256)) text) where
    new : List ℕ
    new = with_text r text

    same_length : length new ≡ length r
    unfolding new
    same_length = size_over r text 3 (omega (arith, n, whole))

    same_byte : (p : ℕ) → 3203 ≤ p → get_or new p 0 ≡ get_or r p 0
    unfolding new
    same_byte = behind_byte r text n whole

    samples_same : held_samples new ≡ held_samples r
    samples_same = number_alike new r same_length same_byte 3226 (omega arith)

    interval_same : held_interval new ≡ held_interval r
    interval_same = number_alike new r same_length same_byte 3222 (omega arith)

    count_same : held_count new (held_samples new) ≡ held_count r (held_samples r)
    count_same = ap (held_count new) samples_same ∙ count_alike new r same_length same_byte tag04 (held_samples r)

    -- Tag 01 stands as it stood, and no card byte is 00.
    front_same : field_cause new 1 3200 0 ≡ field_cause r 1 3200 0
    unfolding new bytes_at
    front_same =
        let made : ℕ → ℕ → List ℕ → Check = λ l b x. refuse_if (not (leb 3203 l && (eqb b 1 && eqb (number x) 3200))) 12 0 in
        let f = front_bytes r text n whole in
        ap (λ (l : ℕ). made l (get_or new 0 0) (bytes_at new 1 2)) same_length
        ∙ ap₂ (made (length r)) (ap (λ (x : List ℕ). get_or x 0 0) f) (ap (drop 1) f)

    cards_right : cards_causes new ≡ Fine
    unfolding new cards_causes form_causes_in
    cards_right =
        let a = (then_fine (cards_causes r) _ valid).0 in
        then_second _ _ (front_same ∙ (then_fine (field_cause r 1 3200 0) _ a).0) (cards_fine new text 3200 3 _ n some (at_text r text n whole))

    pub text_valid : form_causes (with_text r text) ≡ Fine
    unfolding new form_causes_in
    text_valid =
        let a = then_fine (cards_causes r) _ valid in
        let b = then_fine (binary_causes r) _ a.1 in
        let i = held_interval r in
        let m = held_samples r in
        let t = held_count r m in
        let body : body_causes_in tag04 new (held_samples new) (held_interval new) (held_count new (held_samples new)) ≡ Fine =
        ap (λ (x : ℕ). body_causes_in tag04 new x (held_interval new) (held_count new (held_samples new))) samples_same
        ∙ ap₂ (body_causes_in tag04 new m) interval_same count_same
        ∙ body_alike new r same_length same_byte tag04 m i t ∙ b.1 in
        then_second _ _ cards_right (then_second _ _ (binary_alike new r same_length same_byte ∙ b.0) body)

    pub text_is_bytes : Bytes (with_text r text)
    unfolding overwritten
    text_is_bytes =
        let byte : ℕ → Type 0 = λ b. b < 256 in
        all_append byte (take 3 r) (text ++ drop (3 + length text) r) (all_take byte 3 r bytes)
        (all_append byte text (drop (3 + length text) r) (bytes_cards text some) (all_drop byte (3 + length text) r bytes))

    pub text_held : held_by (with_text r text) ≡ with_cards (held_by r) text
    unfolding new held_by_in binary_fields binary_widths binary_front binary_back
    text_held =
        meaning_eq (text_bytes r text n whole)
        (ap₂ (λ (x y : List ℤ). x ++ y) (fields_alike new r same_length same_byte 6 3201 binary_front (omega arith)) (fields_alike new r same_length same_byte 6 3227 binary_back (omega arith)))
        (ap (λ (x : ℕ). each (λ j. held_trace_in tag04 new x (trace_place new x j)) (held_count new x)) samples_same
        ∙ ap (each (λ j. held_trace_in tag04 new (held_samples r) (trace_place new (held_samples r) j))) (count_alike new r same_length same_byte tag04 (held_samples r))
        ∙ traces_alike new r same_length same_byte tag04 (held_samples r) (held_count r (held_samples r)))

    pub text_samples : held_samples (with_text r text) ≡ held_samples r
    unfolding new
    text_samples = samples_same

    pub text_traces : held_count (with_text r text) (held_samples (with_text r text)) ≡ held_count r (held_samples r)
    unfolding new
    text_traces = count_same
