-- "Compare two valid records: card bytes first, then header numbers, bare as the record holds them and in its order (69 and 71 too), as
-- signed, then trace by trace, header numbers before samples, samples by exact value; a record whose traces end first is the lesser"
-- (document 02, CR 9). Each record has one list of numbers, its key, and the order of two records is that of their keys.
use Rattle.std.specs.Prelude.{ℕ, ◌+◌, List, ◌++◌, map, ℤ, pos}
use Rattle.numbers.specs.Walk.{flat, bytes_at}
use Rattle.fields.specs.Fields.{each}
use Rattle.reel.specs.Layout.{card_bytes, binary_fields, trace_fields, field_number}
use Rattle.record.specs.Kind.{tag04}
use Rattle.record.specs.Form.{field_head, binary_start, to_samples, held_samples, trace_place, held_count}
use Rattle.record.specs.Held.{held_values_in}
use Rattle.exact.specs.Order.{lex_z}
use Rattle.std.specs.declared.cmp.Ordering.{Ordering}

-- The card bytes, which are characters and have no sign.
unfoldable pub card_key : List ℕ → List ℤ
card_key s = map pos (bytes_at s field_head card_bytes)

-- The 27 numbers of tag 02, as signed; the format code is 0 in every valid record.
unfoldable pub binary_key : List ℕ → List ℤ
binary_key s = map (field_number s binary_start) binary_fields

-- The 71 numbers of a trace header, bare and as signed, where byte number 1 stands at the place `start`.
unfoldable pub header_key : List ℕ → ℕ → List ℤ
header_key s start = map (field_number s start) trace_fields

-- The trace of n samples whose tag 03 stands at the place `at`: its header numbers, then the exact values of its samples, whatever its form.
unfoldable pub trace_key : List ℕ → ℕ → ℕ → List ℤ
trace_key s n at = header_key s (at + field_head) ++ held_values_in tag04 s n (at + to_samples)

-- t traces of n samples.
unfoldable pub traces_key : List ℕ → ℕ → ℕ → List ℤ
traces_key s n t = flat (each (λ j. trace_key s n (trace_place s n j)) t)

-- All traces of a record.
abbrev pub rest_key : List ℕ → List ℤ
rest_key s = traces_key s (held_samples s) (held_count s (held_samples s))

-- The whole record.
unfoldable pub key_of : List ℕ → List ℤ
key_of s = card_key s ++ (binary_key s ++ rest_key s)

-- The order of two records: the first numbers of their keys that differ decide, and a key that ends first is the lesser. Records that agree in
-- their binary numbers have the same N, and so traces of equally many numbers.
abbrev pub order_of : List ℕ → List ℕ → Ordering
order_of a b = lex_z (key_of a) (key_of b)
