-- What judging a reel tells: its own numbers, where no cause applies, or the first cause.
use Rattle.std.specs.Prelude.{ℕ, Result, Ok, Err}
use Rattle.numbers.specs.Cause.{cause_no}
use Rattle.numbers.specs.declared.Place.{Place}
use Rattle.numbers.specs.declared.Refusal.{Refusal}
use Rattle.reel.specs.declared.own_numbers.Numbers.{Numbers}

-- the format code, N, the interval, the bytes of a sample, the bytes from trace to trace, and T; or the number of the cause and its place
pub data Judged : Type 0 where
  Fine : ℕ → ℕ → ℕ → ℕ → ℕ → ℕ → Judged
  Refused : ℕ → Place → Judged

-- what a judgement says, in the table's terms
abbrev pub judged : Result Numbers Refusal → Judged
judged (Ok own) = Fine own.code own.samples own.interval own.width own.stride own.traces
judged (Err r) = Refused (cause_no r.cause) r.place
