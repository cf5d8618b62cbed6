-- The reel that the code writes is that of what the record holds, or to the nearest that of the nearest values; and so is the count.
-- Assumes nothing.
use mathlib.Core.Path.{◌≡◌, refl, sym, ap, ap₂, ◌∙◌}
use mathlib.Core.List.{List, [], ◌∷◌, ◌++◌, map, append_assoc}
use mathlib.Core.Bool.{Bool, true, false}
use Prim.Native.Nat.{ℕ, ◌+◌, ◌-◌, ◌<◌}
use borrow.Author.Tests.{not-false}
use lib.ListN.{length, replicate}
use Rattle.numbers.specs.Terms.{Bytes}
use Rattle.numbers.specs.Walk.{pick, flat, sum, bytes_at, overwritten}
use Rattle.numbers.specs.Places.{byte_place}
use Rattle.numbers.specs.BigEndian.{bytes_of}
use Rattle.numbers.specs.Cause.{Fine}
use Rattle.numbers.proofs.CauseLaws.{passed, then_fine}
use Rattle.numbers.proofs.WalkLaws.{size_bytes, map_walk}
use Rattle.fields.specs.Fields.{each, pair_place}
use Rattle.fields.proofs.FieldsLaws.{each_like, in_like, flat_in_fields, sum_in_fields}
use Rattle.formats.specs.Codes.{is_code}
use Rattle.formats.specs.Nearest.{nearest_value, changes}
use Rattle.value.specs.Pair.{is_canonical, pair_length, pair_in}
use Rattle.reel.specs.Layout.{card_bytes, trace_header}
use Rattle.reel.specs.Meaning.{Trace}
use Rattle.headers.specs.Header.{header_bytes, header_size}
use Rattle.record.specs.Record.{binary_bytes}
use Rattle.record.specs.Kind.{tag04}
use Rattle.record.specs.Form.{field_head, binary_size, binary_start, to_samples, header_causes, held_samples, held_interval, held_count, pair_cause_in, share_in, samples_causes_in, trace_form_in, trace_place, form_causes}
use Rattle.record.specs.Held.{held_value, held_values_in, held_trace_in, held_by_in, held_by}
use Rattle.headers.proofs.HeaderBytes.{bytes_again}
use Rattle.record.proofs.StoredLaws.{code_stored}
use Rattle.record.proofs.FormLaws.{share_some, pairs_fine, scalars_fine, traces_fine}
use Rattle.write_reel.specs.Reel.{sample_written, binary_header, trace_written, reel_of}
use Rattle.write_reel.specs.Nearest.{nearest_trace, nearest_meaning, trace_changes, meaning_changes}
use Rattle.write_samples.specs.Samples.{word_bytes, written_at, sample_words}
use Rattle.write_samples.specs.Nearest.{nearest_at, rounded_bytes, nearest_words, pairs_changed}
use Rattle.write_reel.specs.Copied.{reel_header_copied, samples_copied, samples_changed_at, fields_words, fields_changed_at, reel_trace_copied, trace_changed_at, traces_copied, traces_changed_at, parts_copied, reel_copied}
use Rattle.write_reel.proofs.CopiedLaws.{header_bytes_lem}

-- ## Samples

-- a canonical pair under one of the codes
canonical : (s : List ℕ) (p : ℕ) → pair_cause_in tag04 s p ≡ Fine → is_canonical (pair_in (bytes_at s p pair_length)) ≡ true
canonical s p e = not-false (is_canonical (pair_in (bytes_at s p pair_length))) (passed _ 13 p e)

module _ (s : List ℕ) (code : ℕ) (h : is_code code ≡ true) where
  sample_is : (p : ℕ) → pair_cause_in tag04 s p ≡ Fine → sample_written code (held_value s p) ≡ word_bytes code (written_at s code p)
  sample_is p e = rw (h, canonical s p e)

  nearest_is : (p : ℕ) → pair_cause_in tag04 s p ≡ Fine → sample_written code (nearest_value code (held_value s p)) ≡ rounded_bytes code (nearest_at s code p)
  nearest_is p e = rw (h, canonical s p e)

  changes_is : (p : ℕ) → pair_cause_in tag04 s p ≡ Fine → changes code (held_value s p) ≡ (nearest_at s code p).changed
  changes_is p e = rw (h, canonical s p e)

  -- the words of samples in fields, and how many changed, by the places of their pairs
  module _ (c : ℕ) (some : 0 < c) (n at : ℕ) where
    abbrev place : ℕ → ℕ
    place j = pair_place pair_length c at j

    exact_words : fields_words false s code c n at ≡ flat (each (λ j. word_bytes code (written_at s code (place j))) n)
    unfolding fields_words samples_copied sample_words
    exact_words =
        ap flat (in_like c some pair_length _ _ (λ m p. ap flat (map_walk (word_bytes code) (written_at s code) pair_length m (p + 3))) n at)
        ∙ sym (flat_in_fields c some pair_length (λ p. word_bytes code (written_at s code p)) n at)

    nearest_words_lem : fields_words true s code c n at ≡ flat (each (λ j. rounded_bytes code (nearest_at s code (place j))) n)
    unfolding fields_words samples_copied nearest_words
    nearest_words_lem =
        ap flat (in_like c some pair_length _ _ (λ m p. ap flat (map_walk (rounded_bytes code) (nearest_at s code) pair_length m (p + 3))) n at)
        ∙ sym (flat_in_fields c some pair_length (λ p. rounded_bytes code (nearest_at s code p)) n at)

    changed_words : fields_changed_at true s code c n at ≡ sum (each (λ j. (nearest_at s code (place j)).changed) n)
    unfolding fields_changed_at samples_changed_at pairs_changed
    changed_words = sym (sum_in_fields c some pair_length (λ p. (nearest_at s code p).changed) n at)

  -- those of the samples that a trace holds
  module _ (n at : ℕ) (e : samples_causes_in tag04 s n at ≡ Fine) where
    abbrev own : ℕ
    own = share_in tag04 s n at

    abbrev at_pair : ℕ → ℕ
    at_pair j = pair_place pair_length own at j

    samples_words : flat (map (sample_written code) (held_values_in tag04 s n at)) ≡ fields_words false s code own n at
    unfolding held_values_in
    samples_words =
        ap flat (map_walk (sample_written code) (λ j. held_value s (at_pair j)) 1 n 0 ∙ each_like _ _ n (λ j l. sample_is (at_pair j) (pairs_fine tag04 s n at e j l)))
        ∙ sym (exact_words own (share_some tag04 s n at) n at)

    rounded_words : flat (map (sample_written code) (map (nearest_value code) (held_values_in tag04 s n at))) ≡ fields_words true s code own n at
    unfolding held_values_in
    rounded_words =
        ap flat (ap (map (sample_written code)) (map_walk (nearest_value code) (λ j. held_value s (at_pair j)) 1 n 0)
        ∙ map_walk (sample_written code) (λ j. nearest_value code (held_value s (at_pair j))) 1 n 0
        ∙ each_like _ _ n (λ j l. nearest_is (at_pair j) (pairs_fine tag04 s n at e j l)))
        ∙ sym (nearest_words_lem own (share_some tag04 s n at) n at)

    changes_words : sum (map (changes code) (held_values_in tag04 s n at)) ≡ fields_changed_at true s code own n at
    unfolding held_values_in
    changes_words =
        ap sum (map_walk (changes code) (λ j. held_value s (at_pair j)) 1 n 0 ∙ each_like _ _ n (λ j l. changes_is (at_pair j) (pairs_fine tag04 s n at e j l)))
        ∙ sym (changed_words own (share_some tag04 s n at) n at)

-- ## Traces

-- the trace that is written: as it is, or to the nearest
abbrev aimed : Bool → ℕ → Trace → Trace
aimed near code t = pick near (nearest_trace code t) t

module _ (s : List ℕ) (b : Bytes s) (code n i : ℕ) (h : is_code code ≡ true) where
  samples_fine : (at : ℕ) → trace_form_in tag04 s n i at ≡ Fine → samples_causes_in tag04 s n (at + to_samples) ≡ Fine
  unfolding trace_form_in
  samples_fine at e = (then_fine (header_causes s n i at) _ e).1

  -- its header and its words
  joined : (near : Bool) (at : ℕ) (words : List ℕ) → trace_form_in tag04 s n i at ≡ Fine → words ≡ fields_words near s code (share_in tag04 s n (at + to_samples)) n (at + to_samples)
      → header_bytes (held_trace_in tag04 s n at).header ++ (replicate (trace_header - header_size) 0 ++ words) ≡ reel_trace_copied near s code n at
  unfolding held_trace_in reel_trace_copied
  joined near at words e is =
      let header_is = bytes_again s b (at + field_head) (scalars_fine tag04 s n i at e) in
      let header = bytes_at s (at + field_head) header_size in
      let zeros : List ℕ = replicate (trace_header - header_size) 0 in
      ap₂ (λ (x y : List ℕ). x ++ (zeros ++ y)) header_is is ∙ sym (append_assoc header zeros _)
      ∙ ap (λ (l : List ℕ). l ++ fields_words near s code (share_in tag04 s n (at + to_samples)) n (at + to_samples)) (sym (header_bytes_lem trace_header s (at + field_head) header_size))

  trace_is : (near : Bool) (at : ℕ) → trace_form_in tag04 s n i at ≡ Fine → trace_written code (aimed near code (held_trace_in tag04 s n at)) ≡ reel_trace_copied near s code n at
  unfolding trace_written held_trace_in
  trace_is false at e = joined false at _ e (samples_words s code h n (at + to_samples) (samples_fine at e))
  trace_is true at e = joined true at _ e (rounded_words s code h n (at + to_samples) (samples_fine at e))

  trace_changes_lem : (at : ℕ) → trace_form_in tag04 s n i at ≡ Fine → trace_changes code (held_trace_in tag04 s n at) ≡ trace_changed_at true s code n at
  unfolding held_trace_in trace_changed_at
  trace_changes_lem at e = changes_words s code h n (at + to_samples) (samples_fine at e)

  -- along traces that are all of the right form
  module _ (k : ℕ) (fine : (j : ℕ) → j < k → trace_form_in tag04 s n i (trace_place s n j) ≡ Fine) where
    abbrev held : ℕ → Trace
    held j = held_trace_in tag04 s n (trace_place s n j)

    traces_each : (near : Bool) → flat (map (trace_written code) (map (aimed near code) (each held k))) ≡ traces_copied near s code n k 0
    unfolding traces_copied
    traces_each near =
        ap flat (ap (map (trace_written code)) (map_walk (aimed near code) held 1 k 0)
        ∙ map_walk (trace_written code) (λ j. aimed near code (held j)) 1 k 0
        ∙ each_like _ _ k (λ j l. trace_is near (trace_place s n j) (fine j l))
        ∙ sym (map_walk (reel_trace_copied near s code n) (trace_place s n) 1 k 0))

    counts_each : sum (map (trace_changes code) (each held k)) ≡ traces_changed_at true s code n k 0
    unfolding traces_changed_at
    counts_each = ap sum (map_walk (trace_changes code) held 1 k 0 ∙ each_like _ _ k (λ j l. trace_changes_lem (trace_place s n j) (fine j l)))

-- ## The reel

module _ (s : List ℕ) (b : Bytes s) (code : ℕ) (h : is_code code ≡ true) (e : form_causes s ≡ Fine) where
  traces_is : (near : Bool) → let n = held_samples s in flat (map (trace_written code) (map (aimed near code) (held_by s).traces)) ≡ traces_copied near s code n (held_count s n) 0
  unfolding held_by_in
  traces_is near = traces_each s b code (held_samples s) (held_interval s) h (held_count s (held_samples s)) (traces_fine tag04 s e) near

  -- of the traces that are written
  of_traces : (near : Bool) (traces : List Trace) → traces ≡ map (aimed near code) (held_by s).traces
      → reel_of code (record { cards = (held_by s).cards; binary = (held_by s).binary; traces = traces }) ≡ reel_copied near s code (held_samples s) (held_count s (held_samples s))
  unfolding reel_of reel_copied parts_copied held_by_in
  of_traces near ts q =
      let n = held_samples s in
      let cards = bytes_at s field_head card_bytes in
      let binary = bytes_at s (byte_place binary_start 3201) binary_size in
      let zeros : List ℕ = replicate (binary_header - binary_size) 0 in
      let traces = traces_copied near s code n (held_count s n) 0 in
      let place : byte_place 0 3225 ≡ length cards + (3225 - 3201) = rw (size_bytes s field_head card_bytes) in
      let joined : reel_header_copied binary_header binary ++ traces ≡ binary ++ (zeros ++ traces) =
      ap (λ (l : List ℕ). l ++ traces) (header_bytes_lem binary_header s (byte_place binary_start 3201) binary_size) ∙ append_assoc binary zeros traces in
      ap (λ (l : List ℕ). cards ++ (binary_bytes code (held_by s).binary ++ (zeros ++ l))) (ap (λ (l : List Trace). flat (map (trace_written code) l)) q ∙ traces_is near)
      ∙ sym (ap (λ (l : List ℕ). overwritten (cards ++ l) (byte_place 0 3225) (bytes_of 2 code)) joined
      ∙ code_stored s b binary_start code cards (zeros ++ traces) (byte_place 0 3225) place)

  pub reel_is : reel_of code (held_by s) ≡ reel_copied false s code (held_samples s) (held_count s (held_samples s))
  reel_is = of_traces false (held_by s).traces (sym (map_same (held_by s).traces))
    where
      map_same : (l : List Trace) → map (λ t. t) l ≡ l
      map_same [] = refl
      map_same (t ∷ l) = ap (λ (r : List Trace). t ∷ r) (map_same l)

  pub nearest_reel_is : reel_of code (nearest_meaning code (held_by s)) ≡ reel_copied true s code (held_samples s) (held_count s (held_samples s))
  nearest_reel_is = of_traces true (map (nearest_trace code) (held_by s).traces) refl

  pub count_is : meaning_changes code (held_by s) ≡ traces_changed_at true s code (held_samples s) (held_count s (held_samples s)) 0
  unfolding held_by_in
  count_is = counts_each s b code (held_samples s) (held_interval s) h (held_count s (held_samples s)) (traces_fine tag04 s e)
