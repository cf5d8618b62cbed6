-- The order of what records hold. "Compare two valid records: card bytes first, then header numbers, bare as the record holds them and in its
-- order (69 and 71 too), as signed, then trace by trace, header numbers before samples, samples by exact value; a record whose traces end first
-- is the lesser" (document 02, CR 9). Here it is read of a meaning, with no byte of a record in it.
use Rattle.std.specs.Prelude.{◌≡◌, List, ◌++◌, map, ℕ, length, ℤ, pos}
use Rattle.numbers.specs.Walk.{flat}
use Rattle.reel.specs.Meaning.{Trace, Meaning}
use Rattle.headers.specs.Header.{record_numbers}
use Rattle.record.specs.Record.{with_code}
use Rattle.exact.specs.Order.{lex_z}
use Rattle.std.specs.declared.cmp.Ordering.{Ordering}

-- The numbers of a trace: "header numbers before samples", the 71 as a record holds them, 69 and 71 the scalars of the smallest powers; then
-- the exact values of its samples.
unfoldable pub trace_numbers : Trace → List ℤ
trace_numbers t = record_numbers t.header ++ t.values

-- A trace has 71 header numbers and n values.
abbrev pub IsSized : ℕ → Trace → Type 0
IsSized n t = (length (record_numbers t.header) ≡ 71) × (length t.values ≡ n)

-- The numbers of some traces, "trace by trace".
abbrev pub traces_numbers : List Trace → List ℤ
traces_numbers ts = flat (map trace_numbers ts)

-- All numbers of a meaning: "card bytes first, then header numbers", the 27 of the binary header, with 0 for the format code as a record holds
-- it; then its traces.
unfoldable pub meaning_key : Meaning → List ℤ
meaning_key m = map pos m.cards ++ (with_code 0 m.binary ++ traces_numbers m.traces)

-- The order of two meanings: the first numbers that differ decide, and numbers that end first are the lesser.
abbrev pub meaning_order : Meaning → Meaning → Ordering
meaning_order m₁ m₂ = lex_z (meaning_key m₁) (meaning_key m₂)
