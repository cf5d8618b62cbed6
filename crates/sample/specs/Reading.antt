-- What reading a word gives.
use Rattle.std.specs.Prelude.{ℕ, not, ◌&&◌, List, ℤ, ◌==◌, Result, Ok, Err}
use Rattle.numbers.specs.Walk.{pick}
use Rattle.formats.specs.Codes.{is_code}
use Rattle.formats.specs.Value.{is_bad, word_number, exact_value}
use Rattle.formats.specs.Words.{is_normal}
use Rattle.value.specs.Pair.{pair_of}
use Rattle.value.specs.declared.Pair.{Pair}
use Rattle.numbers.specs.declared.Cause.{Cause}
use Rattle.numbers.specs.Cause.{cause_no}

-- What reading a word finds: the numbers e and m of its canonical pair, or the number of the refusal.
pub data Sample : Type 0 where
  Taken : ℤ → ℤ → Sample
  Refused : ℕ → Sample

-- What a function that reads a word found, in the table's terms.
abbrev pub sampled : Result Pair Cause → Sample
sampled (Ok p) = Taken p.e p.m
sampled (Err cause) = Refused (cause_no cause)

-- The canonical pair of a value, as its two numbers.
abbrev pub pair_taken : ℤ → Sample
pair_taken v = Taken (pair_of v).e (pair_of v).m

-- The number of the refusal of a word without a value: 9 under code 4; 19, an infinity or a not-a-number, "where 9 stands" (document 02,
-- CR 4).
abbrev pub bad_number : ℕ → ℕ
bad_number code = pick (code == 4) 9 19

-- "Reading one word also gives 1 for an IBM word other than the normal word of its value, else 0" (document 02, CR 3).
abbrev pub not_normal : ℕ → List ℕ → ℕ
not_normal code w = pick (code == 1 && not (is_normal (word_number 1 w))) 1 0

-- A single word is refused by 2, then 9 or 19; otherwise it gives the canonical pair of its exact value.
abbrev pub read_word : ℕ → List ℕ → Sample
read_word code w =
    pick (is_code code)
    (pick (is_bad code (word_number code w)) (Refused (bad_number code)) (pair_taken (exact_value code w)))
    (Refused 2)
