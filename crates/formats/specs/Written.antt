-- What writing a value gives: its word, or the number of the refusal.
use Rattle.std.specs.Prelude.{ℕ, Result, Ok, Err}
use Rattle.numbers.specs.declared.Cause.{Cause}
use Rattle.numbers.specs.Cause.{cause_no}

pub data Written : Type 0 where
  Word : ℕ → Written
  Refused : ℕ → Written

-- What a function that writes a value found, in the table's terms.
abbrev pub written : Result ℕ Cause → Written
written (Ok n) = Word n
written (Err cause) = Refused (cause_no cause)
