-- What a record holds: its meaning, from the record's bytes, whatever the form of each trace.
use Rattle.std.specs.Prelude.{ℕ, zero, suc, ◌+◌, ◌<◌, ◌≡◌, false, List, map, ℤ}
use Rattle.numbers.specs.Walk.{pick, bytes_at}
use Rattle.fields.specs.Fields.{each, pair_place}
use Rattle.reel.specs.Layout.{card_bytes, binary_fields, field_number}
use Rattle.reel.specs.Meaning.{other_than, header_of, Trace, Meaning}
use Rattle.record.specs.Kind.{Kind, tag04}
use Rattle.record.specs.Record.{record_of}
use Rattle.record.specs.Form.{field_head, binary_start, to_samples, held_samples, is_earlier_in, share_in, trace_place_in, held_count_in}

module _ (k : Kind) where
  -- The value of the pair at a place.
  abbrev pub held_value_in : List ℕ → ℕ → ℤ
  held_value_in s at = k.value (bytes_at s at k.width)

  -- The values of n samples whose first field stands at the place `at`.
  unfoldable pub held_values_in : List ℕ → ℕ → ℕ → List ℤ
  held_values_in s n at = each (λ j. held_value_in s (pair_place k.width (share_in k s n at) at j)) n

  -- The trace of n samples whose tag 03 stands at the place `at`: its header stands behind that tag.
  unfoldable pub held_trace_in : List ℕ → ℕ → ℕ → Trace
  held_trace_in s n at = record { header = header_of (field_number s (at + field_head)); values = held_values_in s n (at + to_samples) }

  -- What a record holds: the card bytes behind tag 01, the 26 binary numbers behind tag 02, where byte number 1 would stand at the place 6,
  -- and its traces.
  unfoldable pub held_by_in : List ℕ → Meaning
  held_by_in s =
      record {
        cards = bytes_at s field_head card_bytes;
        binary = map (field_number s binary_start) (other_than 3225 binary_fields);
        traces = each (λ t. held_trace_in s (held_samples s) (trace_place_in k s (held_samples s) t)) (held_count_in k s (held_samples s));
      }

  -- No trace has the earlier single field.
  abbrev pub IsNewestIn : List ℕ → Type 0
  IsNewestIn s = (t : ℕ) → t < held_count_in k s (held_samples s) → is_earlier_in k s (held_samples s) (trace_place_in k s (held_samples s) t + to_samples) ≡ false

  -- How many of the first t traces have it.
  unfoldable pub earlier_count_in : List ℕ → ℕ → ℕ → ℕ
  earlier_count_in s n zero = 0
  earlier_count_in s n (suc t) = earlier_count_in s n t + pick (is_earlier_in k s n (trace_place_in k s n t + to_samples)) 1 0

-- Of a record.
abbrev pub held_value : List ℕ → ℕ → ℤ
held_value s at = held_value_in tag04 s at

abbrev pub held_by : List ℕ → Meaning
held_by s = held_by_in tag04 s

abbrev pub IsNewest : List ℕ → Type 0
IsNewest s = IsNewestIn tag04 s

-- How many traces of a record have the earlier single field.
abbrev pub earlier_traces : List ℕ → ℕ
earlier_traces s = earlier_count_in tag04 s (held_samples s) (held_count_in tag04 s (held_samples s))

-- The record of what a record holds, in the newest form: "wherever a written record is said to come back, an earlier one comes back in that
-- form" (document 02, CR 8).
abbrev pub renewed : List ℕ → List ℕ
renewed s = record_of (held_by s)
