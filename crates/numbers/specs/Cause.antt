-- The first cause against an input, by its number, with the place that stands beside it in the table.
use Rattle.std.specs.Prelude.{ℕ, Bool, true, false, List, [], ◌∷◌, Result, Ok, Err}
use Rattle.numbers.specs.declared.Cause.{Cause}
use Rattle.numbers.specs.declared.Cause.TheVariants as cause
use Rattle.numbers.specs.declared.Place.{Place}
use Rattle.numbers.specs.declared.Refusal.{Refusal}
use Rattle.numbers.specs.declared.Numbered.{Numbered}

-- what a check finds: nothing against the input, or the first cause against it by its number, with the place that stands beside it
pub data Check : Type 0 where
  Fine : Check
  Refused : ℕ → Place → Check

-- the number of a cause in the table of refusals
abbrev pub cause_no : Cause → ℕ
cause_no cause.ShortReel = 1
cause_no cause.FormatCode = 2
cause_no cause.SampleCount = 3
cause_no cause.Interval = 4
cause_no cause.BytesLeft = 5
cause_no cause.TooManyTraces = 6
cause_no cause.TraceSamples = 7
cause_no cause.TraceInterval = 8
cause_no cause.GainWord = 9
cause_no cause.ShortOutput = 10
cause_no cause.TargetCode = 11
cause_no cause.RecordForm = 12
cause_no cause.RecordNumber = 13
cause_no cause.Unfit = 14
cause_no cause.NoTrace = 15
cause_no cause.NoField = 16
cause_no cause.Listing = 17
cause_no cause.Scalar = 18
cause_no cause.NotFinite = 19
cause_no cause.Trailer = 20
cause_no cause.BoxLengths = 21
cause_no cause.BoxRule = 22

-- what a check found, in the table's terms
abbrev pub checked : Result (Unit {0}) Refusal → Check
checked (Ok v) = Fine
checked (Err r) = Refused (cause_no r.cause) r.place

-- a refusal by its cause's number
abbrev pub numbered_by : Refusal → Numbered
numbered_by r = record { number = cause_no r.cause; place = r.place }

-- a row of the table: where the test is true, the input is refused by the row's number, with the place beside it
abbrev pub refuse_if : Bool → ℕ → ℕ → Check
refuse_if true number place = Refused number (record { 0 = place })
refuse_if false number place = Fine

-- the first of two checks that refuses
abbrev pub then : Check → Check → Check
then Fine d = d
then (Refused number place) d = Refused number place

-- the first check of a list that refuses
abbrev pub first_of : List Check → Check
first_of [] = Fine
first_of (c ∷ cs) = then c (first_of cs)
