-- The program's line, in ASCII: a word, then each number after one space, then 0A.
use Rattle.std.specs.Prelude.{ℕ, ◌-◌, List, [], ◌∷◌, ◌++◌, length, take, replicate, ltb, Result, Ok, Err}
use Rattle.numbers.specs.Outcome.{Said, taken, refused}
use Rattle.numbers.specs.Walk.{pick}
use Rattle.numbers.specs.Places.{place_no}
use Rattle.numbers.specs.declared.Numbered.{Numbered}
use Rattle.record.specs.declared.Counted.{Counted}
use Rattle.read_reel.specs.Reading.{read_outcome}
use Rattle.line.specs.Decimal.{decimal_of}
use Rattle.line.specs.declared.text.Line.{Line}

-- A number behind one space, 32.
abbrev pub item_of : ℕ → List ℕ
item_of n = 32 ∷ decimal_of n

-- Numbers, each behind one space, and 0A at the end.
abbrev pub items_of : List ℕ → List ℕ
items_of [] = 10 ∷ []
items_of (n ∷ ns) = item_of n ++ items_of ns

-- `taken`
abbrev pub taken_word : List ℕ
taken_word = 116 ∷ 97 ∷ 107 ∷ 101 ∷ 110 ∷ []

-- `refused`
abbrev pub refused_word : List ℕ
refused_word = 114 ∷ 101 ∷ 102 ∷ 117 ∷ 115 ∷ 101 ∷ 100 ∷ []

-- The line of what a call says: `taken` and its values, or `refused`, the number and what stands beside it in the table.
abbrev pub line_of : Said → List ℕ
line_of (taken values) = taken_word ++ items_of values
line_of (refused number beside) = refused_word ++ items_of (number ∷ beside ∷ [])

-- What an answer with a count says that may be refused by any number: taken with T, N, the length and the count; refused with the number
-- that the refusal tells and what stands beside it. Of a refusal by a cause it is what `counted_by` says.
abbrev pub counted_as : {R : Type 0} → (R → Numbered) → Result Counted R → Said
counted_as numbered (Ok a) = taken (a.traces ∷ a.samples ∷ a.length ∷ a.count ∷ [])
counted_as numbered (Err r) = refused (numbered r).number (place_no (numbered r).place)

-- `too long` and 0A: the line of longer input.
abbrev pub too_long : List ℕ
too_long = 116 ∷ 111 ∷ 111 ∷ 32 ∷ 108 ∷ 111 ∷ 110 ∷ 103 ∷ 10 ∷ []

-- A line in an array of 96 bytes, which has room for `taken`, four numbers of 20 digits behind a space each, and 0A: its rest is 00.
pub record Padded : Type 0 where
  pub bytes : List ℕ
  pub length : ℕ

abbrev pub padded : List ℕ → Padded
padded line = record { bytes = line ++ replicate (96 - length line) 0; length = length line }

-- What is printed of a line.
abbrev pub printed : Line → Padded
printed line = record { bytes = line.bytes; length = line.length }

-- The text of a line: what stands before its rest.
abbrev pub text_of : Line → List ℕ
text_of line = take line.length line.bytes

-- The program takes at most 65,536 bytes.
abbrev pub most_input : ℕ
most_input = 65536

-- The line of an input, with an output for the record: the program lends one of 65,536 bytes.
abbrev pub program_line : List ℕ → List ℕ → List ℕ
program_line s out = pick (ltb most_input (length s)) too_long (line_of (read_outcome s out).said)

-- What is left in the output: longer input leaves it as it was.
abbrev pub program_out : List ℕ → List ℕ → List ℕ
program_out s out = pick (ltb most_input (length s)) out (read_outcome s out).bytes
