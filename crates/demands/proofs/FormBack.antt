-- # The record of a meaning is valid, in the newest form, and holds it again
--
-- Over any kind of sample fields in which records are written. Nothing else is assumed.
use mathlib.Core.Path.{◌≡◌, sym, ap, ◌∙◌, subst}
use mathlib.Core.List.{List, [], ◌++◌, map, map-id, append-nil}
use mathlib.Core.Bool.{false}
use Prim.Native.Nat.{ℕ, ◌+◌, ◌*◌, ◌≤◌, ◌<◌}
use native.Mathlib.Nat.{zero-add}
use native.Mathlib.Omega.{arith}
use borrow.Author.Tests.{le-ltb, le-leb, eq-eqb}
use lib.Dec.{eqb}
use lib.ListN.{length, get_or, length-append}
use Rattle.numbers.specs.Walk.{flat, bytes_at}
use Rattle.numbers.specs.Places.{byte_place}
use Rattle.numbers.specs.BigEndian.{number, bytes_of}
use Rattle.numbers.specs.Cause.{first_of}
use Rattle.numbers.specs.Cause.{Fine}
use Rattle.numbers.specs.Terms.{Bytes}
use Rattle.numbers.proofs.WalkLaws.{flat_size}
use Rattle.numbers.proofs.ByteLaws.{length_bytes, bytes_of_lem}
use Rattle.numbers.proofs.AllLaws.{all_append, all_flat}
use Rattle.numbers.proofs.RowLaws.{then_second}
use Rattle.reel.specs.Layout.{card_bytes, binary_fields, field_number, number16}
use Rattle.reel.specs.Causes.{most_samples, most_traces, most_interval}
use Rattle.reel.specs.Meaning.{other_than, Trace, Meaning}
use Rattle.headers.specs.Header.{header_bytes}
use Rattle.headers.proofs.HeaderBytes.{header_again, smallest_again}
use Rattle.record.specs.Record.{field, binary_bytes, field_samples, samples_fields_in, trace_bytes_in, record_of_in, trace_length_in, record_length_in}
use Rattle.record.specs.Form.{cards_causes, held_interval, held_samples, held_code, number_causes, binary_causes, end_causes, is_earlier_in, trace_form_in, behind_trace_in, trace_place_in, is_trace_in, held_count_in, body_causes_in, form_causes_in}
use Rattle.record.specs.Kind.{Kind}
use Rattle.record.specs.Held.{held_trace_in, held_by_in, IsNewestIn}
use Rattle.record.proofs.FormLaws.{trace_parts, place_next}
use Rattle.fields.specs.Fields.{each, fields_length}
use Rattle.reel_theorems.proofs.Same.{size_field, trace_eq}
use Rattle.reel_theorems.proofs.KindLaws.{Writes}
use Rattle.reel_theorems.proofs.SampleFields.{samples_size}
use Rattle.demands.proofs.Proper.{ProperTrace, Proper}
use Rattle.demands.proofs.From.{From, from_start, from_at, from_parts, from_bytes, from_length, from_number}
use Rattle.demands.proofs.FromEach.{from_last, from_each, from_one, from_none, from_run}
use Rattle.demands.proofs.FieldBack.{bytes_field, tag_is, from_content, from_rest, field_fine, cards_fine}
use Rattle.demands.proofs.Headers.{bytes_header, bytes_cards, size_binary, bytes_binary, binary_again, code_again, samples_again, interval_again, size_header, numbers_again, count_again, spacing_again, meaning_eq}
use Rattle.demands.proofs.SamplesBack as samples

module _ (k : Kind) (w : Writes k) where
  -- ## Traces

  module _ (n i : ℕ) (t : Trace) (h : ProperTrace n i t) where
    -- A trace has the bytes that the request sets.
    pub size_trace : length (trace_bytes_in k t) ≡ trace_length_in k n
    unfolding trace_bytes_in
    size_trace =
        simp (length-append, size_field)
        (omega (arith, size_header n i t h, samples_size k w t.values h.canonical ∙ ap (fields_length k.width field_samples) h.size))

    -- They are bytes.
    pub bytes_trace : Bytes (trace_bytes_in k t)
    unfolding trace_bytes_in
    bytes_trace =
        all_append (λ b. b < 256) (field 3 (header_bytes t.header)) (samples_fields_in k t.values)
        (bytes_field 3 (header_bytes t.header) (omega arith) (bytes_header t.header))
        (samples.samples_bytes k w t.values h.canonical)

    -- A trace that stands in a list of bytes.
    module _ (s : List ℕ) (b : Bytes s) (at : ℕ) (rest : List ℕ) (f : From s at (trace_bytes_in k t ++ rest)) where
      -- Its tag 03 stands first,
      from_header : From s at (field 3 (header_bytes t.header) ++ (samples_fields_in k t.values ++ rest))
      unfolding trace_bytes_in
      from_header = from_parts (field 3 (header_bytes t.header)) (samples_fields_in k t.values) rest f

      -- its 71 fields behind it,
      from_numbers : From s (at + 3) (header_bytes t.header ++ (samples_fields_in k t.values ++ rest))
      from_numbers = from_content s 3 180 _ (size_header n i t h) at _ from_header

      -- and its samples behind them.
      from_samples : From s (at + 183) (samples_fields_in k t.values ++ rest)
      from_samples = from_rest s 3 180 _ (size_header n i t h) at _ from_header

      -- It begins with tag 03.
      pub trace_tag : get_or s at 0 ≡ 3
      trace_tag = tag_is s 3 180 _ (size_header n i t h) at _ from_header

      -- It is in the newest form,
      pub trace_newest : is_earlier_in k s n (at + 183) ≡ false
      trace_newest = samples.never_earlier k w s n t.values h.size h.canonical (at + 183) rest from_samples

      -- and so the next stands behind its bytes.
      pub trace_behind : behind_trace_in k s n at ≡ at + length (trace_bytes_in k t)
      unfolding behind_trace_in
      trace_behind =
          ap (λ (c : ℕ). at + (183 + fields_length k.width c n)) (samples.share_is k w s n t.values h.size h.canonical (at + 183) rest from_samples)
          ∙ ap (λ (x : ℕ). at + x) (sym size_trace)

      -- Neither 12 nor 13 applies to it.
      pub trace_fine : trace_form_in k s n i at ≡ Fine
      trace_fine =
          let a : number16 s (byte_place (at + 3) 115) ≡ n = ap (number16 s) (omega arith) ∙ count_again n i t h s b (at + 3) _ from_numbers in
          let c : number16 s (byte_place (at + 3) 117) ≡ i = ap (number16 s) (omega arith) ∙ spacing_again n i t h s b (at + 3) _ from_numbers in
          let scalars = smallest_again s (at + 3) t.header h.header.scaled (numbers_again n i t h s b (at + 3) _ from_numbers) in
          trace_parts k s n i at
          ∙ then_second _ _ (field_fine s 3 180 _ (size_header n i t h) at _ from_header (omega arith))
          (then_second _ _ scalars
          (rw (eq-eqb (number16 s (byte_place (at + 3) 115)) n a, eq-eqb (number16 s (byte_place (at + 3) 117)) i c)
          (samples.samples_fine k w s n t.values h.size h.canonical (at + 183) rest from_samples)))

      -- It holds the trace.
      pub trace_again : held_trace_in k s n at ≡ t
      unfolding held_trace_in
      trace_again =
          trace_eq (header_again (field_number s (at + 3)) t.header h.header (numbers_again n i t h s b (at + 3) _ from_numbers))
          (samples.samples_again k w s n t.values h.size h.canonical (at + 183) rest from_samples)

  -- ## Records

  module _ (n i : ℕ) (m : Meaning) (p : Proper n i m) where
    size_traces : length (flat (map (trace_bytes_in k) m.traces)) ≡ length m.traces * trace_length_in k n
    size_traces = flat_size (trace_bytes_in k) (ProperTrace n i) (trace_length_in k n) (size_trace n i) m.traces p.traces

    -- LAW. The record's length.
    pub record_length_lem : length (record_of_in k m) ≡ record_length_in k (length m.traces) n
    unfolding record_of_in
    record_length_lem =
        simp (length-append, size_field) (omega (arith, p.size, size_binary n i m p 0, size_traces, length_bytes 4 (length m.traces)))

    -- LAW. The record is a list of bytes.
    pub record_bytes : Bytes (record_of_in k m)
    unfolding record_of_in
    record_bytes =
        let byte : ℕ → Type 0 = λ b. b < 256 in
        let end = field 5 (bytes_of 4 (length m.traces)) in
        let traces = flat (map (trace_bytes_in k) m.traces) in
        all_append byte (field 1 m.cards) (field 2 (binary_bytes 0 m.binary) ++ (traces ++ end)) (bytes_field 1 m.cards (omega arith) (bytes_cards m.cards p.cards))
        (all_append byte (field 2 (binary_bytes 0 m.binary)) (traces ++ end) (bytes_field 2 (binary_bytes 0 m.binary) (omega arith) (bytes_binary n i m p 0))
        (all_append byte traces end (all_flat (λ b. b < 256) (trace_bytes_in k) (ProperTrace n i) (bytes_trace n i) m.traces p.traces) (bytes_field 5 (bytes_of 4 (length m.traces)) (omega arith) (bytes_of_lem 4 (length m.traces)))))

    from_front : From (record_of_in k m) 0 (field 1 m.cards ++ (field 2 (binary_bytes 0 m.binary) ++ (flat (map (trace_bytes_in k) m.traces) ++ field 5 (bytes_of 4 (length m.traces)))))
    unfolding record_of_in
    from_front = from_start (record_of_in k m)

    from_cards : From (record_of_in k m) 3 (m.cards ++ (field 2 (binary_bytes 0 m.binary) ++ (flat (map (trace_bytes_in k) m.traces) ++ field 5 (bytes_of 4 (length m.traces)))))
    from_cards = from_content (record_of_in k m) 1 3200 m.cards p.size 0 _ from_front

    from_second : From (record_of_in k m) 3203 (field 2 (binary_bytes 0 m.binary) ++ (flat (map (trace_bytes_in k) m.traces) ++ field 5 (bytes_of 4 (length m.traces))))
    from_second = from_rest (record_of_in k m) 1 3200 m.cards p.size 0 _ from_front

    from_binary : From (record_of_in k m) 3206 (binary_bytes 0 m.binary ++ (flat (map (trace_bytes_in k) m.traces) ++ field 5 (bytes_of 4 (length m.traces))))
    from_binary = from_content (record_of_in k m) 2 60 (binary_bytes 0 m.binary) (size_binary n i m p 0) 3203 _ from_second

    -- The traces stand behind tag 02, where trace 0 should.
    from_traces : From (record_of_in k m) (trace_place_in k (record_of_in k m) n 0) (flat (map (trace_bytes_in k) m.traces) ++ field 5 (bytes_of 4 (length m.traces)))
    unfolding trace_place_in
    from_traces = from_rest (record_of_in k m) 2 60 (binary_bytes 0 m.binary) (size_binary n i m p 0) 3203 _ from_second

    -- Each stands behind the one before it,
    next : (t : Trace) (j : ℕ) (rest : List ℕ) → ProperTrace n i t → From (record_of_in k m) (trace_place_in k (record_of_in k m) n j) (trace_bytes_in k t ++ rest)
        → trace_place_in k (record_of_in k m) n (j + 1) ≡ trace_place_in k (record_of_in k m) n j + length (trace_bytes_in k t)
    next t j rest h f = place_next k (record_of_in k m) n j ∙ trace_behind n i t h (record_of_in k m) record_bytes (trace_place_in k (record_of_in k m) n j) rest f

    -- and tag 05 with their count behind the last.
    from_end : From (record_of_in k m) (trace_place_in k (record_of_in k m) n (length m.traces)) (field 5 (bytes_of 4 (length m.traces)) ++ [])
    from_end =
        rw append-nil
        (from_at (ap (trace_place_in k (record_of_in k m) n) (zero-add (length m.traces)))
        (from_last (record_of_in k m) (trace_bytes_in k) (ProperTrace n i) (trace_place_in k (record_of_in k m) n) next m.traces 0 _ p.traces from_traces))

    -- LAW. N and the interval in the record are those of the meaning.
    pub record_samples : held_samples (record_of_in k m) ≡ n
    record_samples = samples_again n i m p 0 (record_of_in k m) record_bytes 6 _ from_binary

    pub record_interval : held_interval (record_of_in k m) ≡ i
    record_interval = interval_again n i m p 0 (record_of_in k m) record_bytes 6 _ from_binary

    record_code : held_code (record_of_in k m) ≡ 0
    record_code = code_again n i m p 0 (record_of_in k m) record_bytes 6 _ from_binary (omega arith)

    -- LAW. It has as many traces as the meaning.
    pub record_traces : held_count_in k (record_of_in k m) n ≡ length m.traces
    record_traces =
        from_run (record_of_in k m) (trace_bytes_in k) (ProperTrace n i) (trace_place_in k (record_of_in k m) n) next (is_trace_in k (record_of_in k m) n)
        (λ t j rest h f. eq-eqb _ 3 (trace_tag n i t h (record_of_in k m) record_bytes (trace_place_in k (record_of_in k m) n j) rest f)) most_traces m.traces 0 _ p.traces p.few last from_traces
      where
        five : get_or (record_of_in k m) (trace_place_in k (record_of_in k m) n (length m.traces)) 0 ≡ 5
        five = tag_is (record_of_in k m) 5 4 (bytes_of 4 (length m.traces)) (length_bytes 4 (length m.traces)) _ [] from_end

        last : is_trace_in k (record_of_in k m) n (0 + length m.traces) ≡ false
        last = ap (is_trace_in k (record_of_in k m) n) (zero-add (length m.traces)) ∙ ap (λ (x : ℕ). eqb x 3) five

    -- Neither 12 nor 13 applies to tag 01,
    front_fine : cards_causes (record_of_in k m) ≡ Fine
    unfolding cards_causes
    front_fine =
        then_second _ _ (field_fine (record_of_in k m) 1 3200 m.cards p.size 0 _ from_front (omega arith))
        (cards_fine (record_of_in k m) m.cards 3200 3 _ p.size p.cards from_cards)

    -- nor to tag 02,
    limits_fine : number_causes i n 0 ≡ Fine
    limits_fine = rw (le-leb 1 i p.i_low, le-leb i most_interval p.i_high, le-leb 1 n p.n_low, le-leb n most_samples p.n_high)

    second_fine : binary_causes (record_of_in k m) ≡ Fine
    unfolding binary_causes
    second_fine =
        then_second _ _ (field_fine (record_of_in k m) 2 60 (binary_bytes 0 m.binary) (size_binary n i m p 0) 3203 _ from_second (omega arith))
        (rw (record_interval, record_samples, record_code) limits_fine)

    -- nor to a trace,
    traces_fine : first_of (each (λ j. trace_form_in k (record_of_in k m) n i (trace_place_in k (record_of_in k m) n j)) (length m.traces)) ≡ Fine
    traces_fine =
        from_none (record_of_in k m) (trace_bytes_in k) (ProperTrace n i) (trace_place_in k (record_of_in k m) n) next (λ j. trace_form_in k (record_of_in k m) n i (trace_place_in k (record_of_in k m) n j))
        (λ t j rest h f. trace_fine n i t h (record_of_in k m) record_bytes (trace_place_in k (record_of_in k m) n j) rest f) m.traces 0 _ p.traces from_traces

    -- nor to tag 05.
    end_fine : end_causes (record_of_in k m) (length m.traces) (trace_place_in k (record_of_in k m) n (length m.traces)) ≡ Fine
    end_fine =
        let t = length m.traces in
        let at = trace_place_in k (record_of_in k m) n t in
        let says : number (bytes_at (record_of_in k m) (at + 3) 4) ≡ t =
        from_number 4 t [] (omega (arith, p.few)) (from_content (record_of_in k m) 5 4 (bytes_of 4 t) (length_bytes 4 t) at [] from_end) in
        let seven : length (field 5 (bytes_of 4 t) ++ []) ≡ 7 = length-append (field 5 (bytes_of 4 t)) [] ∙ omega (arith, size_field 5 (bytes_of 4 t), length_bytes 4 t) in
        let last : length (record_of_in k m) ≤ at + 7 = omega (arith, from_length from_end, seven) in
        then_second _ _ (field_fine (record_of_in k m) 5 4 (bytes_of 4 t) (length_bytes 4 t) at [] from_end (omega arith))
        (rw (eq-eqb (number (bytes_at (record_of_in k m) (at + 3) 4)) t says, le-ltb (at + 7) (length (record_of_in k m)) last))

    body_fine : body_causes_in k (record_of_in k m) n i (length m.traces) ≡ Fine
    unfolding body_causes_in
    body_fine = then_second _ _ traces_fine end_fine

    -- LAW. The record is valid: neither 12 nor 13 applies to it.
    pub record_no_cause : form_causes_in k (record_of_in k m) ≡ Fine
    unfolding form_causes_in
    record_no_cause = then_second _ _ front_fine (then_second _ _ second_fine (rw (record_samples, record_interval, record_traces) body_fine))

    -- LAW. It is in the newest form: no trace of it is read in the earlier one.
    pub record_newest : IsNewestIn k (record_of_in k m)
    record_newest t l =
        rw record_samples
        (subst (λ (x : ℕ). is_earlier_in k (record_of_in k m) n (trace_place_in k (record_of_in k m) n x + 183) ≡ false) (zero-add t)
        (from_one (record_of_in k m) (trace_bytes_in k) (ProperTrace n i) (trace_place_in k (record_of_in k m) n) next (λ j. is_earlier_in k (record_of_in k m) n (trace_place_in k (record_of_in k m) n j + 183) ≡ false)
        (λ u j rest h f. trace_newest n i u h (record_of_in k m) record_bytes (trace_place_in k (record_of_in k m) n j) rest f) m.traces 0 _ p.traces from_traces t few))
      where
        few : t < length m.traces
        few = subst (λ (x : ℕ). t < x) (ap (held_count_in k (record_of_in k m)) record_samples ∙ record_traces) l

    -- LAW. The record holds the meaning.
    pub record_again : held_by_in k (record_of_in k m) ≡ m
    unfolding held_by_in
    record_again = meaning_eq cards binary traces
      where
        cards : bytes_at (record_of_in k m) 3 card_bytes ≡ m.cards
        cards = from_bytes m.cards _ card_bytes p.size from_cards

        binary : map (field_number (record_of_in k m) 6) (other_than 3225 binary_fields) ≡ m.binary
        binary = binary_again n i m p 0 (record_of_in k m) record_bytes 6 _ from_binary

        traces : (held_by_in k (record_of_in k m)).traces ≡ m.traces
        traces =
            rw (record_samples, record_traces)
            (from_each (record_of_in k m) (trace_bytes_in k) (ProperTrace n i) (trace_place_in k (record_of_in k m) n) next (λ j. held_trace_in k (record_of_in k m) n (trace_place_in k (record_of_in k m) n j)) (λ (t : Trace). t)
            (λ t j rest h f. trace_again n i t h (record_of_in k m) record_bytes (trace_place_in k (record_of_in k m) n j) rest f) m.traces 0 _ p.traces from_traces
            ∙ map-id m.traces)
