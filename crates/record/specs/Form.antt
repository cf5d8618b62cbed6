-- The form of a record, and the causes 12 and 13 against it: front to back, each field first by 12, then by 13. Any bytes at all may be
-- lent as a record. What stands behind a field that is refused plays no part: the refusal at that field comes first.
use Rattle.std.specs.Prelude.{ℕ, zero, suc, ◌+◌, ◌-◌, ◌*◌, List, [], ◌∷◌, Bool, not, ◌&&◌, length, get_or, leb, ltb, eqb}
use Rattle.numbers.specs.Walk.{pick, walk, bytes_at}
use Rattle.numbers.specs.Places.{byte_place}
use Rattle.numbers.specs.BigEndian.{number}
use Rattle.numbers.specs.Cause.{refuse_if, then, first_of}
use Rattle.numbers.specs.Cause.{Check, Fine, Refused}
use Rattle.record.specs.declared.Numbers.{Numbers}
use Rattle.record.specs.Judged.{Judged}
use Rattle.record.specs.Judged as judged
use Rattle.fields.specs.Fields.{each, run_from, fields_length, in_fields}
use Rattle.reel.specs.Layout.{card_bytes, number16}
use Rattle.reel.specs.Causes.{most_samples, most_traces, most_interval, within}
use Rattle.headers.specs.Header.{header_size, smallest_causes}
use Rattle.record.specs.Kind.{Kind, tag04}
use Rattle.record.specs.Record.{field_samples}

-- ## A field

-- The bytes of a field's tag and length, before its content: one of tag, two of length.
abbrev pub field_head : ℕ
field_head = 3

-- A field of this tag and length stands whole at the place `at`: its tag, its length, a number without sign, and the content.
abbrev pub is_field : List ℕ → ℕ → ℕ → ℕ → Bool
is_field s tag size at =
    leb (at + (field_head + size)) (length s) && (eqb (get_or s at 0) tag && eqb (number16 s (at + 1)) size)

-- 12: a wrong tag, a wrong length, a field cut short or missing, at the place where that field's tag stands or should stand.
abbrev pub field_cause : List ℕ → ℕ → ℕ → ℕ → Check
field_cause s tag size at = refuse_if (not (is_field s tag size at)) 12 at

-- ## Cards

-- 13: a card byte 00.
abbrev pub card_cause : List ℕ → ℕ → Check
card_cause s at = refuse_if (eqb (get_or s at 0) 0) 13 at

-- Tag 01 at the front, with 3,200 card bytes.
unfoldable pub cards_causes : List ℕ → Check
cards_causes s = then (field_cause s 1 card_bytes 0) (first_of (walk (card_cause s) 1 card_bytes field_head))

-- ## Binary fields

-- The bytes of the 27 binary fields, 3201 to 3260.
abbrev pub binary_size : ℕ
binary_size = 60

-- The place of tag 02, behind the field of the cards, 3203.
abbrev pub binary_place : ℕ
binary_place = field_head + card_bytes

-- Byte number 3201 stands behind tag 02 and its length, at the place 3206, so byte number 1 would stand at the place 6.
abbrev pub binary_start : ℕ
binary_start = 6

-- The places of the interval, N and the format code in a record, fields 3217, 3221 and 3225: 3222, 3226 and 3230.
abbrev pub interval_place : ℕ
interval_place = byte_place binary_start 3217

abbrev pub samples_place : ℕ
samples_place = byte_place binary_start 3221

abbrev pub code_place : ℕ
code_place = byte_place binary_start 3225

abbrev pub held_interval : List ℕ → ℕ
held_interval s = number16 s interval_place

abbrev pub held_samples : List ℕ → ℕ
held_samples s = number16 s samples_place

abbrev pub held_code : List ℕ → ℕ
held_code s = number16 s code_place

-- 13: an interval or N outside its limits, a format code other than 0, in this order.
abbrev pub number_causes : ℕ → ℕ → ℕ → Check
number_causes i n code =
    first_of
    (refuse_if (not (within 1 most_interval i)) 13 interval_place
    ∷ refuse_if (not (within 1 most_samples n)) 13 samples_place
    ∷ refuse_if (not (eqb code 0)) 13 code_place
    ∷ [])

-- Tag 02, with the 60 bytes of the binary fields.
unfoldable pub binary_causes : List ℕ → Check
binary_causes s = then (field_cause s 2 binary_size binary_place) (number_causes (held_interval s) (held_samples s) (held_code s))

-- ## Traces

-- The place behind tag 02 and its content, where the traces begin, 3266.
abbrev pub traces_place : ℕ
traces_place = binary_place + (field_head + binary_size)

-- From a trace's tag 03 to its first sample field, 183 bytes.
abbrev pub to_samples : ℕ
to_samples = field_head + header_size

-- A trace's header: tag 03 with its 180 bytes, of which fields 69 and 71 must be the scalars of the smallest powers, and 115 and 117 like
-- the reel's n and i: "in tag 03 the order is 69, 71, 115, 117" (document 02, CR 2). Byte number 1 stands behind the tag and its length.
unfoldable pub header_causes : List ℕ → ℕ → ℕ → ℕ → Check
header_causes s n i at =
    then (field_cause s 3 header_size at)
    (then (smallest_causes s (at + field_head))
    (then (refuse_if (not (eqb (number16 s (byte_place (at + field_head) 115)) n)) 13 (byte_place (at + field_head) 115))
    (refuse_if (not (eqb (number16 s (byte_place (at + field_head) 117)) i)) 13 (byte_place (at + field_head) 117))))

-- ## The end

-- The bytes of tag 05, its length and the count of traces, which has four.
abbrev pub end_size : ℕ
end_size = field_head + 4

-- Behind t traces, tag 05: 12 also for a wrong count, at its tag; and for bytes after it, at the first.
abbrev pub end_causes : List ℕ → ℕ → ℕ → Check
end_causes s t at =
    first_of
    (field_cause s 5 4 at
    ∷ refuse_if (not (eqb (number (bytes_at s (at + field_head) 4)) t)) 12 at
    ∷ refuse_if (ltb (at + end_size) (length s)) 12 (at + end_size)
    ∷ [])

-- ## Samples, traces and the whole record, by the kind of its sample fields

module _ (k : Kind) where
  -- 13: a pair that isn't canonical, at the place of its first byte.
  abbrev pub pair_cause_in : List ℕ → ℕ → Check
  pair_cause_in s at = refuse_if (not (k.canonical (bytes_at s at k.width))) 13 at

  -- A field of `count` samples: 12 for its tag and length, then 13 for its pairs.
  unfoldable pub field_form_in : List ℕ → ℕ → ℕ → Check
  field_form_in s count at =
      then (field_cause s k.tag (count * k.width) at) (first_of (walk (pair_cause_in s) k.width count (at + field_head)))

  -- A trace of n samples, whose first sample field stands at the place `at`, has the earlier single field: n is from 6,001 to the most that
  -- such a field had, and the length behind that tag is that of all n samples. "each trace judged by itself" (document 02, CR 8).
  abbrev pub is_earlier_in : List ℕ → ℕ → ℕ → Bool
  is_earlier_in s n at = (ltb field_samples n && leb n k.earlier) && eqb (number16 s (at + 1)) (n * k.width)

  -- The samples of each of its fields but the last, which has the rest: all n in the earlier form, else 6,000.
  abbrev pub share_in : List ℕ → ℕ → ℕ → ℕ
  share_in s n at = pick (is_earlier_in s n at) n field_samples

  -- Its samples, field by field.
  unfoldable pub samples_causes_in : List ℕ → ℕ → ℕ → Check
  samples_causes_in s n at = first_of (in_fields (field_form_in s) k.width (share_in s n at) n at)

  -- A trace: its header, then its samples.
  unfoldable pub trace_form_in : List ℕ → ℕ → ℕ → ℕ → Check
  trace_form_in s n i at = then (header_causes s n i at) (samples_causes_in s n (at + to_samples))

  -- The bytes of the trace of n samples at a place, by its own form.
  abbrev pub held_stride_in : List ℕ → ℕ → ℕ → ℕ
  held_stride_in s n at = to_samples + fields_length k.width (share_in s n (at + to_samples)) n

  -- The place behind the trace of n samples at a place.
  unfoldable pub behind_trace_in : List ℕ → ℕ → ℕ → ℕ
  behind_trace_in s n at = at + held_stride_in s n at

  -- The place of trace t, counted from 0: behind the trace before it, whatever form that has. Behind the last trace it is the place of
  -- tag 05.
  unfoldable pub trace_place_in : List ℕ → ℕ → ℕ → ℕ
  trace_place_in s n zero = traces_place
  trace_place_in s n (suc t) = behind_trace_in s n (trace_place_in s n t)

  -- Tag 03 stands where trace t should.
  abbrev pub is_trace_in : List ℕ → ℕ → ℕ → Bool
  is_trace_in s n t = eqb (get_or s (trace_place_in s n t) 0) 3

  -- T, the traces that follow each other: 100,000 at most, so that behind them trace 100,001 stands where tag 05 should.
  abbrev pub held_count_in : List ℕ → ℕ → ℕ
  held_count_in s n = run_from (is_trace_in s n) most_traces 0

  -- t traces of n samples with interval i, and what stands behind them.
  unfoldable pub body_causes_in : List ℕ → ℕ → ℕ → ℕ → Check
  body_causes_in s n i t = then (first_of (each (λ j. trace_form_in s n i (trace_place_in s n j)) t)) (end_causes s t (trace_place_in s n t))

  -- 12 and 13.
  unfoldable pub form_causes_in : List ℕ → Check
  form_causes_in s =
      then (cards_causes s)
      (then (binary_causes s)
      (body_causes_in s (held_samples s) (held_interval s) (held_count_in s (held_samples s))))

-- ## Records

-- The place of trace t, and T, of a record of n samples a trace.
abbrev pub trace_place : List ℕ → ℕ → ℕ → ℕ
trace_place s n t = trace_place_in tag04 s n t

abbrev pub held_count : List ℕ → ℕ → ℕ
held_count s n = held_count_in tag04 s n

-- 12 and 13. A record is valid when neither applies to it.
abbrev pub form_causes : List ℕ → Check
form_causes s = form_causes_in tag04 s

-- ## What judging finds

-- A record to which no cause of those applies, with its N and T; or the first cause.
abbrev pub record_found : List ℕ → Check → Judged
record_found s Fine = judged.Fine (held_samples s) (held_count s (held_samples s))
record_found s (Refused number place) = judged.Refused number place

abbrev pub record_judged : List ℕ → Judged
record_judged s = record_found s (form_causes s)

-- N, and the count in the last four bytes, which is T where the record is valid.
abbrev pub numbers_in : List ℕ → Numbers
numbers_in s = record { samples = held_samples s; traces = number (bytes_at s (length s - 4) 4) }
