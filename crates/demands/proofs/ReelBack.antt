-- # The reel of a meaning means it again
--
-- A proper meaning each of whose samples has a word under a code: its reel under that code has the length that document 01 sets, its own
-- numbers are those of the meaning, no cause of 1 to 9, 18 and 19 applies to it, and it means that meaning. Nothing else is assumed.
use mathlib.Core.Path.{◌≡◌, refl, sym, ap, ap₂, ◌∙◌, subst}
use mathlib.Core.List.{List, [], ◌∷◌, ◌++◌, map, map-id, append-nil, append_assoc}
use mathlib.Core.Bool.{Bool, true, false, not, ◌&&◌}
use Prim.Native.Nat.{ℕ, ◌+◌, ◌-◌, ◌*◌, ◌/◌, ◌%◌, ◌<◌}
use native.Mathlib.Nat.{mul-div_cancel, mul-mod_left}
use native.Mathlib.Omega.{arith}
use borrow.Author.Tests.{le-ltb, le-leb, eq-eqb, ne_eqb}
use lib.Dec.{T, eqb, ltb}
use lib.ListN.{length, get_or, replicate, length-append}
use lib.IntN.{ℤ, pos, nat_abs}
use Rattle.numbers.specs.Walk.{pick, walk, flat, sum, bytes_at}
use Rattle.numbers.specs.BigEndian.{number, bytes_of}
use Rattle.numbers.specs.Cause.{refuse_if, first_of}
use Rattle.numbers.specs.Cause.{Fine}
use Rattle.numbers.specs.Terms.{All, Bytes}
use Rattle.numbers.proofs.WalkLaws.{cons_eq, flat_size, all_both}
use Rattle.numbers.proofs.ByteLaws.{length_bytes, bytes_of_lem, number_bytes_lem}
use Rattle.numbers.proofs.AllLaws.{all_append, bytes_zeros, all_flat}
use Rattle.formats.specs.Value.{is_bad, value_in, word_number, exact_value}
use Rattle.formats.specs.Codes.{is_code, sample_bytes, word_length}
use Rattle.value.specs.Pair.{pair_of, is_canonical}
use Rattle.formats.specs.Words.{word_of, word_bits}
use Rattle.value.specs.Writing.{write_pair}
use Rattle.formats.specs.Written.{Written}
use Rattle.formats.specs.Written.{Word, Refused}
use Rattle.sample.specs.Reading.{bad_number, not_normal}
use Rattle.sample.specs.Calls.{single_word}
use Rattle.formats.proofs.CodeLaws.{word_there, code_limits}
use Rattle.sample_theorems.proofs.Pairs.{pair_value}
use Rattle.sample_theorems.specs.Statements.{Says}
use Rattle.sample_theorems.proofs.Words.{single_number, count_by, writing_sound, writing_0}
use Rattle.reel.specs.Layout.{card_bytes, first_trace, trace_header, binary_fields, trace_fields, field_number, interval_of, samples_of, code_of, stride, stride_of, whole_in, over_in, traces_of}
use Rattle.reel.specs.Causes.{most_samples, most_traces, most_interval, neither, limit_causes, word_cause, trace_causes, behind_causes_by, behind_causes, causes_by, causes_of}
use Rattle.reel.specs.Meaning.{blank, card_text_by, other_than, binary_numbers, filled, trace_number, Trace, trace_meaning, Meaning, meaning_by, meaning_of}
use Rattle.reel.specs.NotNormal.{not_normal_in, not_normal_among, not_normal_of}
use Rattle.headers.specs.Header.{record_numbers, header_bytes, header_size}
use Rattle.headers.proofs.TraceLaws.{trace_numbers_lem, count_field, interval_field}
use Rattle.headers.proofs.Listed.{behind_at}
use Rattle.headers.proofs.HeaderBytes.{header_again, allowed_again}
use Rattle.record.specs.Record.{binary_bytes}
use Rattle.fit.specs.Target.{is_unfit}
use Rattle.reel_theorems.proofs.Same.{trace_eq}
use Rattle.write_reel.specs.Reel.{sample_written, trace_written, reel_of, reel_length}
use Rattle.demands.proofs.Proper.{ProperTrace, Proper}
use Rattle.demands.proofs.Fitting.{Fitting}
use Rattle.demands.proofs.From.{From, from_start, from_at, from_next, from_bytes, from_walk, from_fine, sum_zeros}
use Rattle.demands.proofs.Headers.{bytes_header, size_zeros, bytes_cards, meaning_eq, size_binary, bytes_binary, binary_again, code_again, samples_again, interval_again, size_header, count_at, interval_at, trace_around, numbers_again, count_again, spacing_again}
use Rattle.demands.proofs.WrittenSize.{sample_size}

-- ## Samples

-- A value with a word under the code, and with a canonical pair.
abbrev Writable : ℕ → ℤ → Type 0
Writable code v = (is_unfit (word_of code v) ≡ false) × (is_canonical (pair_of v) ≡ true)

-- Its word has the value, and reading takes it.
word_of_lem : (code : ℕ) (v : ℤ) → is_code code ≡ true → Writable code v → (k : ℕ) × (word_of code v ≡ Word k) × Says code v k × (not_normal code (single_word code k) ≡ 0)
word_of_lem code v c h = go (word_of code v) refl h.0
  where
    written : (k : ℕ) → word_of code v ≡ Word k → write_pair code (pair_of v) ≡ Word k
    written k e = rw (c, h.1, pair_value v) e

    says : (k : ℕ) → word_of code v ≡ Word k → Says code v k
    says k e = subst (λ (x : ℤ). Says code x k) (pair_value v) (writing_sound code (pair_of v) k (written k e))

    go : (w : Written) → word_of code v ≡ w → is_unfit w ≡ false → (k : ℕ) × (word_of code v ≡ Word k) × Says code v k × (not_normal code (single_word code k) ≡ 0)
    go (Word k) e q = (k, e, says k e, writing_0 code (pair_of v) k (written k e))
    go (Refused number) e q = absurd (subst T q tt)

-- The bytes of a sample are bytes.
bytes_sample : (code : ℕ) (v : ℤ) → Bytes (sample_written code v)
bytes_sample code v = bytes_of_lem (sample_bytes code) (word_bits (word_of code v))

-- What is read of a sample that stands at a place.
record Read (s : List ℕ) (code : ℕ) (v : ℤ) (at : ℕ) : Type 0 where
  good : is_bad code (word_number code (bytes_at s at word_length)) ≡ false
  value : exact_value code (bytes_at s at word_length) ≡ v
  count : not_normal code (bytes_at s at word_length) ≡ 0

-- The bytes of the word stand there, and no others are read.
read_sample : (s : List ℕ) (code : ℕ) (v : ℤ) (at : ℕ) (rest : List ℕ) → is_code code ≡ true → Writable code v → From s at (sample_written code v ++ rest) → Read s code v at
read_sample s code v at rest c h f =
    let w = word_of_lem code v c h in
    let k = w.0 in
    let m = sample_bytes code in
    let x = w.2 in
    let g = subst (λ (y : Written). From s at (bytes_of m (word_bits y) ++ rest)) w.1 f in
    let same : word_number code (bytes_at s at word_length) ≡ word_number code (single_word code k) =
    word_there s code at ∙ ap number (from_bytes (bytes_of m k) rest m (length_bytes m k) g) ∙ number_bytes_lem m k x.fit ∙ sym (single_number code k c x.fit) in
    record {
      good = ap (is_bad code) same ∙ x.good;
      value = ap (value_in code) same ∙ x.value;
      count = count_by code (bytes_at s at word_length) (single_word code k) same ∙ w.3;
    }

-- ## Traces

-- A proper trace whose samples have words under the code.
record Ready (code n i : ℕ) (t : Trace) : Type 0 where
  proper : ProperTrace n i t
  writable : All (Writable code) t.values

-- Proper traces with words for their samples are all so.
all_ready : (code n i : ℕ) (l : List Trace) → All (ProperTrace n i) l → All (λ (t : Trace). All (λ v. is_unfit (word_of code v) ≡ false) t.values) l → All (Ready code n i) l
all_ready code n i [] p f = tt
all_ready code n i (t ∷ l) p f = (
  record {
    proper = p.0;
    writable = all_both (λ v. is_unfit (word_of code v) ≡ false) (λ v. is_canonical (pair_of v) ≡ true) t.values f.0 p.0.canonical;
  },
  all_ready code n i l p.1 f.1,
)

-- A number is neither 0 nor another number than itself.
neither_same : (n : ℕ) → neither n n ≡ false
neither_same n = rw (eq-eqb n n refl) (go (eqb n 0))
  where
    go : (b : Bool) → (not b && not true) ≡ false
    go true = refl
    go false = refl

-- The reel's own number, filled in for 0, is that number wherever it stands already.
filled_same : (own : ℕ) (z : ℤ) → z ≡ pos own → filled own z ≡ z
filled_same own z e = go (eqb (nat_abs z) 0)
  where
    go : (b : Bool) → pick b (pos own) z ≡ z
    go true = sym e
    go false = refl

module _ (code n i : ℕ) (c : is_code code ≡ true) (t : Trace) (h : Ready code n i t) where
  -- The samples of a trace on the reel.
  sample_sizes : length (flat (map (sample_written code) t.values)) ≡ n * sample_bytes code
  sample_sizes =
      flat_size (sample_written code) (Writable code) (sample_bytes code) (λ v q. sample_size code v) t.values h.writable
      ∙ ap (λ (k : ℕ). k * sample_bytes code) h.proper.size

  -- A trace has the bytes of a stride.
  size_trace : length (trace_written code t) ≡ stride n (sample_bytes code)
  unfolding trace_written
  size_trace =
      simp length-append (omega (arith, size_header n i t h.proper, size_zeros 60, sample_sizes))

  -- They are bytes.
  bytes_trace : Bytes (trace_written code t)
  unfolding trace_written
  bytes_trace =
      let byte : ℕ → Type 0 = λ b. b < 256 in
      let samples = flat (map (sample_written code) t.values) in
      all_append byte (header_bytes t.header) (replicate 60 0 ++ samples) (bytes_header t.header)
      (all_append byte (replicate 60 0) samples (bytes_zeros 60)
      (all_flat (λ b. b < 256) (sample_written code) (Writable code) (λ v q. bytes_sample code v) t.values h.writable))

  -- A trace that stands in a list of bytes.
  module _ (s : List ℕ) (b : Bytes s) (at : ℕ) (rest : List ℕ) (f : From s at (trace_written code t ++ rest)) where
    -- Its 71 fields stand at its place,
    from_header : From s at (header_bytes t.header ++ (replicate 60 0 ++ (flat (map (sample_written code) t.values) ++ rest)))
    unfolding trace_written
    from_header = simp append_assoc at f

    -- and its samples behind its header.
    from_samples : From s (at + trace_header) (flat (map (sample_written code) t.values) ++ rest)
    from_samples =
        from_at (omega arith)
        (from_next (replicate 60 0) _ 60 (size_zeros 60)
        (from_next (header_bytes t.header) _ 180 (size_header n i t h.proper) from_header))

    -- No cause of 7, 8, 18, 9 and 19 applies to it.
    trace_fine : trace_causes s code n i at ≡ Fine
    unfolding trace_causes
    trace_fine =
        let words =
        from_fine s (sample_written code) (Writable code) (sample_bytes code) (λ v q. sample_size code v) (word_cause s code)
        (λ v p r q e. ap (λ (x : Bool). refuse_if x (bad_number code) p) (read_sample s code v p r c q e).good) t.values (at + trace_header) rest h.writable from_samples in
        let scalars = allowed_again s at t.header h.proper.header.scaled (numbers_again n i t h.proper s b at _ from_header) in
        rw (count_again n i t h.proper s b at _ from_header, spacing_again n i t h.proper s b at _ from_header, neither_same n, neither_same i, scalars.0, scalars.1)
        (ap (λ (k : ℕ). first_of (walk (word_cause s code) (sample_bytes code) k (at + trace_header))) (sym h.proper.size) ∙ words)

    -- None of its words counts: under code 1 each is normal.
    trace_count : not_normal_in s code n (at + trace_header) ≡ 0
    unfolding not_normal_in
    trace_count =
        ap (λ (k : ℕ). sum (walk (λ p. not_normal code (bytes_at s p word_length)) (sample_bytes code) k (at + trace_header))) (sym h.proper.size)
        ∙ ap sum
        (from_walk s (sample_written code) (Writable code) (sample_bytes code) (λ v q. sample_size code v) (λ p. not_normal code (bytes_at s p word_length)) (λ v. 0)
        (λ v p r q e. (read_sample s code v p r c q e).count) t.values (at + trace_header) rest h.writable from_samples)
        ∙ sum_zeros t.values

    -- It means the trace.
    trace_again : trace_meaning s code n i at ≡ t
    unfolding trace_meaning
    trace_again = trace_eq (header_again (trace_number s n i at) t.header h.proper.header numbers) values
      where
        whole : map (field_number s at) trace_fields ≡ record_numbers t.header
        whole = numbers_again n i t h.proper s b at _ from_header

        count : field_number s at count_field ≡ pos n
        count = sym (count_at s at) ∙ ap (λ (l : List ℤ). get_or l 38 (pos 0)) whole ∙ behind_at t.header h.proper.header.scaled 13 ∙ h.proper.n_is

        spacing : field_number s at interval_field ≡ pos i
        spacing = sym (interval_at s at) ∙ ap (λ (l : List ℤ). get_or l 39 (pos 0)) whole ∙ behind_at t.header h.proper.header.scaled 14 ∙ h.proper.i_is

        numbers : map (trace_number s n i at) trace_fields ≡ record_numbers t.header
        numbers =
            trace_numbers_lem s n i at
            ∙ rw (filled_same n (field_number s at count_field) count, filled_same i (field_number s at interval_field) spacing) (sym (trace_around s at) ∙ whole)

        values : walk (λ p. exact_value code (bytes_at s p word_length)) (sample_bytes code) n (at + trace_header) ≡ t.values
        values =
            ap (λ (k : ℕ). walk (λ p. exact_value code (bytes_at s p word_length)) (sample_bytes code) k (at + trace_header)) (sym h.proper.size)
            ∙ from_walk s (sample_written code) (Writable code) (sample_bytes code) (λ v q. sample_size code v) (λ p. exact_value code (bytes_at s p word_length)) (λ v. v)
            (λ v p r q e. (read_sample s code v p r c q e).value) t.values (at + trace_header) rest h.writable from_samples
            ∙ map-id t.values

-- ## Reels

-- Card bytes other than 00 are taken as they are.
blank_same : (l : List ℕ) → All (λ b. (0 < b) × (b < 256)) l → map blank l ≡ l
blank_same [] h = refl
blank_same (b ∷ l) h = cons_eq (rw (ne_eqb b 0 (λ e. some h.0.0 e))) (blank_same l h.1)
  where
    some : {b : ℕ} → 0 < b → b ≡ 0 → ⊥
    some p e = omega arith

-- The codes are at most 4.
module _ (code n i : ℕ) (m : Meaning) (p : Proper n i m) (c : is_code code ≡ true) (f : Fitting code m) where
  -- Each trace is proper and has words for its samples.
  ready : All (Ready code n i) m.traces
  ready = all_ready code n i m.traces p.traces f

  -- The traces have the bytes of T strides.
  size_traces : length (flat (map (trace_written code) m.traces)) ≡ length m.traces * stride n (sample_bytes code)
  size_traces = flat_size (trace_written code) (Ready code n i) (stride n (sample_bytes code)) (size_trace code n i c) m.traces ready

  -- LAW. The reel of T traces of N samples has the 3,600 bytes of its headers, and for each trace 240 and those of N samples.
  reel_length_lem : length (reel_of code m) ≡ reel_length code (length m.traces) n
  unfolding reel_of
  reel_length_lem = simp length-append (omega (arith, p.size, size_binary n i m p code, size_zeros 340, size_traces))

  -- LAW. The reel is a list of bytes.
  pub reel_bytes : Bytes (reel_of code m)
  unfolding reel_of
  reel_bytes =
      let byte : ℕ → Type 0 = λ b. b < 256 in
      let traces = flat (map (trace_written code) m.traces) in
      all_append byte m.cards (binary_bytes code m.binary ++ (replicate 340 0 ++ traces)) (bytes_cards m.cards p.cards)
      (all_append byte (binary_bytes code m.binary) (replicate 340 0 ++ traces) (bytes_binary n i m p code)
      (all_append byte (replicate 340 0) traces (bytes_zeros 340)
      (all_flat (λ b. b < 256) (trace_written code) (Ready code n i) (bytes_trace code n i c) m.traces ready)))

  -- The card bytes stand at the front,
  from_cards : From (reel_of code m) 0 (m.cards ++ (binary_bytes code m.binary ++ (replicate 340 0 ++ flat (map (trace_written code) m.traces))))
  unfolding reel_of
  from_cards = from_start (reel_of code m)

  -- then the binary fields,
  from_binary : From (reel_of code m) 3200 (binary_bytes code m.binary ++ (replicate 340 0 ++ flat (map (trace_written code) m.traces)))
  from_binary = from_next m.cards _ 3200 p.size from_cards

  -- then, behind the headers, the traces.
  from_traces : From (reel_of code m) first_trace (flat (map (trace_written code) m.traces) ++ [])
  from_traces =
      rw append-nil
      (from_next (replicate 340 0) _ 340 (size_zeros 340) (from_next (binary_bytes code m.binary) _ 60 (size_binary n i m p code) from_binary))

  -- LAW. The reel's format code is the code.
  pub reel_code : code_of (reel_of code m) ≡ code
  reel_code = code_again n i m p code (reel_of code m) reel_bytes 0 _ from_binary (omega (arith, (code_limits code c).1))

  -- LAW. The reel's N is that of the meaning.
  pub reel_samples : samples_of (reel_of code m) ≡ n
  reel_samples = samples_again n i m p code (reel_of code m) reel_bytes 0 _ from_binary

  -- LAW. The reel's interval is that of the meaning.
  pub reel_interval : interval_of (reel_of code m) ≡ i
  reel_interval = interval_again n i m p code (reel_of code m) reel_bytes 0 _ from_binary

  -- The stride is that of N samples under the code.
  reel_stride : stride_of (reel_of code m) ≡ stride n (sample_bytes code)
  reel_stride = ap₂ (λ (k x : ℕ). stride k (sample_bytes x)) reel_samples reel_code

  -- The bytes behind the headers are those of the traces.
  behind : length (reel_of code m) - first_trace ≡ length m.traces * stride n (sample_bytes code)
  behind = omega (arith, reel_length_lem)

  -- They are as many whole traces as the meaning has,
  whole : whole_in (length (reel_of code m)) (stride n (sample_bytes code)) ≡ length m.traces
  whole = ap (λ (k : ℕ). k / stride n (sample_bytes code)) behind ∙ mul-div_cancel (length m.traces) (omega arith)

  -- and no bytes are left over.
  over : over_in (length (reel_of code m)) (stride n (sample_bytes code)) ≡ 0
  over = ap (λ (k : ℕ). k % stride n (sample_bytes code)) behind ∙ mul-mod_left (length m.traces) (stride n (sample_bytes code))

  -- LAW. The reel's T is the count of the meaning's traces.
  pub reel_traces : traces_of (reel_of code m) ≡ length m.traces
  reel_traces = ap (whole_in (length (reel_of code m))) reel_stride ∙ whole

  -- None of the causes 2 to 4 applies,
  headed : limit_causes code n i ≡ Fine
  headed = rw (c, le-leb 1 n p.n_low, le-leb n most_samples p.n_high, le-leb 1 i p.i_low, le-leb i most_interval p.i_high)

  -- none of 7, 8, 18 and 9 to a trace,
  traces_fine : first_of (walk (trace_causes (reel_of code m) code n i) (stride n (sample_bytes code)) (length m.traces) first_trace) ≡ Fine
  traces_fine =
      from_fine (reel_of code m) (trace_written code) (Ready code n i) (stride n (sample_bytes code)) (size_trace code n i c) (trace_causes (reel_of code m) code n i)
      (λ t at rest h e. trace_fine code n i c t h (reel_of code m) reel_bytes at rest e) m.traces first_trace [] ready from_traces

  -- and none of 5 and 6.
  behind_fine : behind_causes (reel_of code m) code n i (stride n (sample_bytes code)) ≡ Fine
  unfolding behind_causes_by
  behind_fine = rw (whole, over, le-ltb most_traces (length m.traces) p.few) traces_fine

  -- LAW. No cause of 1 to 9, 18 and 19 applies to the reel.
  pub reel_no_cause : causes_of (reel_of code m) ≡ Fine
  unfolding causes_by
  reel_no_cause =
      let long : ltb (length (reel_of code m)) first_trace ≡ false = le-ltb (length (reel_of code m)) first_trace (omega (arith, reel_length_lem)) in
      rw (long, reel_code, reel_samples, reel_interval, headed) behind_fine

  -- LAW. The reel means the meaning.
  pub reel_again : meaning_of (reel_of code m) ≡ m
  unfolding meaning_by card_text_by binary_numbers
  reel_again = meaning_eq cards binary traces
    where
      cards : map blank (bytes_at (reel_of code m) 0 card_bytes) ≡ m.cards
      cards = ap (map blank) (from_bytes m.cards _ card_bytes p.size from_cards) ∙ blank_same m.cards p.cards

      binary : map (field_number (reel_of code m) 0) (other_than 3225 binary_fields) ≡ m.binary
      binary = binary_again n i m p code (reel_of code m) reel_bytes 0 _ from_binary

      traces : (meaning_of (reel_of code m)).traces ≡ m.traces
      traces =
          rw (reel_code, reel_samples, reel_interval, whole)
          (from_walk (reel_of code m) (trace_written code) (Ready code n i) (stride n (sample_bytes code)) (size_trace code n i c) (trace_meaning (reel_of code m) code n i) (λ (t : Trace). t)
          (λ t at rest h e. trace_again code n i c t h (reel_of code m) reel_bytes at rest e) m.traces first_trace [] ready from_traces
          ∙ map-id m.traces)

  -- LAW. None of the reel's words counts: under code 1 each is normal.
  pub reel_count : not_normal_of (reel_of code m) ≡ 0
  unfolding not_normal_among
  reel_count =
      rw (reel_code, reel_samples, whole)
      (ap sum
      (from_walk (reel_of code m) (trace_written code) (Ready code n i) (stride n (sample_bytes code)) (size_trace code n i c) (λ at. not_normal_in (reel_of code m) code n (at + trace_header)) (λ (t : Trace). 0)
      (λ t at rest h e. trace_count code n i c t h (reel_of code m) reel_bytes at rest e) m.traces first_trace [] ready from_traces)
      ∙ sum_zeros m.traces)

  -- LAW. The headers of the reel's traces are those of the meaning's, one behind the other.
  pub reel_headers : walk (λ at. bytes_at (reel_of code m) at header_size) (stride n (sample_bytes code)) (length m.traces) first_trace ≡ map (λ (t : Trace). header_bytes t.header) m.traces
  reel_headers =
      from_walk (reel_of code m) (trace_written code) (Ready code n i) (stride n (sample_bytes code)) (size_trace code n i c) (λ at. bytes_at (reel_of code m) at header_size) (λ (t : Trace). header_bytes t.header)
      (λ t at rest h e. from_bytes (header_bytes t.header) _ header_size (size_header n i t h.proper) (from_header code n i c t h (reel_of code m) reel_bytes at rest e)) m.traces first_trace [] ready from_traces
