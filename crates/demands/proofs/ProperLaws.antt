-- # What reels mean and records hold is proper
--
-- What a reel means to which no cause of 1 to 9, 18 and 19 applies, and what a record holds to which neither 12 nor 13 applies. Each byte of either is
-- below 256; nothing else is assumed.
use mathlib.Core.Path.{◌≡◌, refl, ap, ◌∙◌}
use mathlib.Core.List.{List, map}
use mathlib.Core.Bool.{Bool, true, false}
use Prim.Native.Nat.{ℕ, zero, suc, ◌+◌, ◌^◌, ◌<◌}
use native.Mathlib.Nat.{mul-one}
use native.Mathlib.Omega.{arith}
use borrow.Author.Tests.{lt-ltb, eqb-true, ne_eqb, not-false}
use lib.Dec.{eqb}
use lib.ListN.{get_or, take, drop}
use lib.IntN.{ℤ, pos}
use Rattle.numbers.specs.Walk.{pick, bytes_at}
use Rattle.numbers.specs.TwosComplement.{signed_of}
use Rattle.numbers.specs.Cause.{refuse_if}
use Rattle.numbers.specs.Cause.{Fine}
use Rattle.numbers.specs.Terms.{All, Bytes}
use Rattle.numbers.proofs.WalkLaws.{size_walk, size_bytes, all_both}
use Rattle.numbers.proofs.ByteLaws.{bytes_at_lem}
use Rattle.numbers.proofs.CauseLaws.{passed, then_fine, first_all}
use Rattle.numbers.proofs.AllLaws.{all_each, all_map}
use Rattle.formats.specs.Codes.{is_code}
use Rattle.value.specs.Pair.{pair_of, is_canonical, pair_length, pair_in}
use Rattle.sample_theorems.proofs.Pairs.{value_pair_back}
use Rattle.cards.proofs.EightLaws.{blank_some}
use Rattle.reel.specs.Layout.{Field, card_bytes, binary_widths, binary_fields, trace_widths, trace_fields, field_number, first_trace, number16, samples_of, interval_of, code_of, stride_of, traces_of}
use Rattle.reel.specs.Causes.{neither, trace_causes, causes_of}
use Rattle.reel.specs.Meaning.{blank, card_text_by, card_text, binary_numbers, filled, trace_number, unscaled_fields, header_of, trace_meaning, meaning_by, meaning_of}
use Rattle.reel.proofs.CheckLaws.{reel_fine}
use Rattle.fields.proofs.EachLaws.{each_all}
use Rattle.record.specs.Kind.{tag04}
use Rattle.record.specs.Form.{held_interval, held_samples, held_count, form_causes}
use Rattle.record.specs.Held.{held_value, held_values_in, held_trace_in, held_by_in, held_by}
use Rattle.headers.proofs.TraceLaws.{count_field, interval_field}
use Rattle.headers.proofs.Ranges.{Fit, fields_fit}
use Rattle.headers.proofs.Listed.{header_listed}
use Rattle.headers.proofs.HeaderBytes.{HeaderFits, listed_fits, held_fit}
use Rattle.record.proofs.HeaderLaws.{binary_front, binary_back, size_cards}
use Rattle.record.proofs.FormLaws.{count_most}
use Rattle.reel_theorems.proofs.Same.{binary_front_some, binary_back_some, trace_like, eighth}
use Rattle.demands.proofs.Proper.{ProperTrace, Proper}
use Rattle.demands.proofs.Valid.{record_right}
use Rattle.demands.specs.ValidRecord.{CanonicalAt, trace_place, pair_place, TraceRight}

-- ## Numbers and lists

-- The signed number of 16 bits below 32,768 is the number itself.
signed_low : (n : ℕ) → n < 2 ^ 15 → signed_of 16 n ≡ pos n
signed_low n h = rw (lt-ltb n (2 ^ 15) h)

-- A number above 0 is not 0.
some_not : (n : ℕ) → eqb (suc n) 0 ≡ false
some_not n = ne_eqb (suc n) 0 no
  where
    no : suc n ≡ 0 → ⊥
    no e = omega arith

-- ## What a record holds

-- A canonical pair's value has a canonical pair.
pub value_held : (s : List ℕ) (at : ℕ) → CanonicalAt s at → is_canonical (pair_of (held_value s at)) ≡ true
value_held s at c = ap is_canonical (value_pair_back (pair_in (bytes_at s at pair_length)) c) ∙ c

-- The numbers of fields 115 and 117 in a trace's header, by the numbers of its fields.
held_count_lem : (f : Field → ℤ) → get_or (header_of f).numbers 25 (pos 0) ≡ f count_field
unfolding header_of unscaled_fields trace_fields trace_widths
held_count_lem f = refl

held_interval_lem : (f : Field → ℤ) → get_or (header_of f).numbers 26 (pos 0) ≡ f interval_field
unfolding header_of unscaled_fields trace_fields trace_widths
held_interval_lem f = refl

-- The header of a record's trace fits.
held_fits : (s : List ℕ) → Bytes s → (start : ℕ) → HeaderFits (header_of (field_number s start))
held_fits s h start = rw (header_listed (field_number s start)) (listed_fits (map (field_number s start) trace_fields) (held_fit s h start))

-- A trace of a record that is right holds a proper trace.
trace_held : (s : List ℕ) → Bytes s → held_samples s < 2 ^ 15 → held_interval s < 2 ^ 15 → (k : ℕ) → TraceRight s k
    → ProperTrace (held_samples s) (held_interval s) (held_trace_in tag04 s (held_samples s) (trace_place s k))
unfolding held_trace_in held_values_in
trace_held s h p q k t =
    let n = held_samples s in
    let i = held_interval s in
    let at = trace_place s k in
    record {
      header = held_fits s h (at + 3);
      n_is = held_count_lem (field_number s (at + 3)) ∙ ap (signed_of 16) t.front.count ∙ signed_low n p;
      i_is = held_interval_lem (field_number s (at + 3)) ∙ ap (signed_of 16) t.front.interval ∙ signed_low i q;
      size = size_walk (λ j. held_value s (pair_place s k j)) 1 n 0;
      canonical = each_all (λ v. is_canonical (pair_of v) ≡ true) (λ j. held_value s (pair_place s k j)) n (λ j l. value_held s (pair_place s k j) (t.pairs j l));
    }

-- The card bytes that a valid record holds are not 00.
cards_some : (s : List ℕ) → ((j : ℕ) → j < 3200 → ¬ (get_or s (3 + j) 0 ≡ 0)) → All (λ b. 0 < b) (bytes_at s 3 card_bytes)
unfolding bytes_at
cards_some s h = all_each (λ b. 0 < b) (λ a. get_or s a 0) 1 3200 3 (λ j l. rw (mul-one j) (some (get_or s (3 + j) 0) (h j l)))
  where
    some : (b : ℕ) → ¬ (b ≡ 0) → 0 < b
    some b n = omega arith

-- LAW. What a valid record holds is proper, with the record's N and interval.
pub held_proper : (r : List ℕ) → Bytes r → form_causes r ≡ Fine → Proper (held_samples r) (held_interval r) (held_by r)
unfolding held_by_in binary_fields binary_widths binary_front binary_back
held_proper r h e =
    let v = (record_right r e).end.until in
    let n = held_samples r in
    let i = held_interval r in
    let t = held_count r n in
    let p : n < 2 ^ 15 = omega (arith, v.head.samples.1) in
    let q : i < 2 ^ 15 = omega (arith, v.head.interval.1) in
    record {
      n_low = v.head.samples.0;
      n_high = v.head.samples.1;
      i_low = v.head.interval.0;
      i_high = v.head.interval.1;
      size = size_bytes r 3 card_bytes;
      cards = all_both (λ b. 0 < b) (λ b. b < 256) (bytes_at r 3 card_bytes) (cards_some r v.head.front.card_bytes) (bytes_at_lem r h 3 card_bytes);
      fit_front = fields_fit r h 6 3201 binary_front binary_front_some;
      fit_back = fields_fit r h 6 3227 binary_back binary_back_some;
      n_is = signed_low n p;
      i_is = signed_low i q;
      few = rw (size_walk (λ j. held_trace_in tag04 r n (trace_place r j)) 1 t 0) (count_most tag04 r n);
      traces = each_all (ProperTrace n i) (λ j. held_trace_in tag04 r n (trace_place r j)) t (λ k l. trace_held r h p q k (v.before k l));
    }

-- ## What a reel means

-- The card text is 3,200 bytes other than 00.
card_text_lem : (s : List ℕ) → Bytes s → All (λ b. (0 < b) × (b < 256)) (card_text s)
unfolding card_text_by
card_text_lem s h = all_map (λ b. b < 256) (λ b. (0 < b) × (b < 256)) blank blank_some (bytes_at s 0 card_bytes) (bytes_at_lem s h 0 card_bytes)

-- The interval, by the binary numbers: field 3217 is the sixth.
sixth : (s : List ℕ) → get_or (binary_numbers s) 5 (pos 0) ≡ signed_of 16 (interval_of s)
unfolding binary_numbers binary_fields binary_widths
sixth s = refl

-- The binary numbers before the format code fit their fields, and so do those behind it.
front_fit : (s : List ℕ) → Bytes s → Fit binary_front (take 9 (binary_numbers s))
unfolding binary_numbers binary_fields binary_widths binary_front
front_fit s h = fields_fit s h 0 3201 binary_front binary_front_some

back_fit : (s : List ℕ) → Bytes s → Fit binary_back (drop 9 (binary_numbers s))
unfolding binary_numbers binary_fields binary_widths binary_back
back_fit s h = fields_fit s h 0 3227 binary_back binary_back_some

-- A number that is 0 or the reel's own, with the reel's own for 0, is the reel's own.
filled_own : (own v : ℕ) → own < 2 ^ 15 → neither v own ≡ false → filled own (signed_of 16 v) ≡ pos own
filled_own own zero h e = refl
filled_own own (suc v) h e =
    let same : suc v ≡ own = eqb-true (suc v) own (not-false (eqb (suc v) own) (rw (some_not v) at e)) in
    rw (same, signed_low own h) (go (eqb own 0))
  where
    go : (b : Bool) → pick b (pos own) (pos own) ≡ pos own
    go true = refl
    go false = refl

-- The numbers of fields 115 and 117 in a reel's trace.
meant_count : (s : List ℕ) (code n i at : ℕ) → get_or (trace_meaning s code n i at).header.numbers 25 (pos 0) ≡ filled n (signed_of 16 (number16 s (at + 114)))
unfolding trace_meaning
meant_count s code n i at = held_count_lem (trace_number s n i at)

meant_interval : (s : List ℕ) (code n i at : ℕ) → get_or (trace_meaning s code n i at).header.numbers 26 (pos 0) ≡ filled i (signed_of 16 (number16 s (at + 116)))
unfolding trace_meaning
meant_interval s code n i at = held_interval_lem (trace_number s n i at)

-- A trace to which 7 and 8 don't apply means a proper trace.
trace_meant : (s : List ℕ) → Bytes s → (code n i at : ℕ) → is_code code ≡ true → n < 2 ^ 15 → i < 2 ^ 15 → trace_causes s code n i at ≡ Fine → ProperTrace n i (trace_meaning s code n i at)
unfolding trace_causes
trace_meant s h code n i at c p q e =
    let a = then_fine (refuse_if (neither (number16 s (at + 114)) n) 7 (at + 114)) _ e in
    let b = then_fine (refuse_if (neither (number16 s (at + 116)) i) 8 (at + 116)) _ a.1 in
    let l = trace_like s h code n i at c p q in
    record {
      header = l.header;
      n_is = meant_count s code n i at ∙ filled_own n (number16 s (at + 114)) p (passed _ _ _ a.0);
      i_is = meant_interval s code n i at ∙ filled_own i (number16 s (at + 116)) q (passed _ _ _ b.0);
      size = l.count;
      canonical = l.canonical;
    }

-- LAW. What a reel means to which no cause of 1 to 9, 18 and 19 applies is proper, with the reel's N and interval.
pub reel_proper : (s : List ℕ) → Bytes s → causes_of s ≡ Fine → Proper (samples_of s) (interval_of s) (meaning_of s)
unfolding meaning_by
reel_proper s h e =
    let v = reel_fine s e in
    let code = code_of s in
    let n = samples_of s in
    let i = interval_of s in
    let k = v.numbers in
    let p : n < 2 ^ 15 = omega (arith, k.n_high) in
    let q : i < 2 ^ 15 = omega (arith, k.i_high) in
    record {
      n_low = k.n_low;
      n_high = k.n_high;
      i_low = k.i_low;
      i_high = k.i_high;
      size = size_cards s;
      cards = card_text_lem s h;
      fit_front = front_fit s h;
      fit_back = back_fit s h;
      n_is = eighth s ∙ signed_low n p;
      i_is = sixth s ∙ signed_low i q;
      few = rw (size_walk (trace_meaning s code n i) (stride_of s) (traces_of s) first_trace) v.few;
      traces = first_all (trace_causes s code n i) (trace_meaning s code n i) (ProperTrace n i) (λ a. trace_meant s h code n i a k.is_code_lem p q) (stride_of s) (traces_of s) first_trace v.traces;
    }
