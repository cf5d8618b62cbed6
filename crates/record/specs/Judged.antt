-- What judging a record tells: its N and T, where no cause applies, or the first cause.
use Rattle.std.specs.Prelude.{ℕ, Result, Ok, Err}
use Rattle.numbers.specs.Cause.{cause_no}
use Rattle.numbers.specs.declared.Place.{Place}
use Rattle.numbers.specs.declared.Refusal.{Refusal}
use Rattle.record.specs.declared.Numbers.{Numbers}

-- N and T; or the number of the cause and its place
pub data Judged : Type 0 where
  Fine : ℕ → ℕ → Judged
  Refused : ℕ → Place → Judged

-- what a judgement says, in the table's terms
abbrev pub judged : Result Numbers Refusal → Judged
judged (Ok own) = Fine own.samples own.traces
judged (Err r) = Refused (cause_no r.cause) r.place
