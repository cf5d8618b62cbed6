-- Parts of the causes, for the functions inside this crate.
use Rattle.std.specs.Prelude.{ℕ, List}
use Rattle.numbers.specs.Cause.{refuse_if, then}
use Rattle.numbers.specs.Places.{byte_place}
use Rattle.numbers.specs.Cause.{Check, Fine, Refused}
use Rattle.sample.specs.Reading.{Sample}
use Rattle.sample.specs.Reading as sample
use Rattle.reel.specs.Layout.{elevation_scalar, coordinate_scalar, number16}
use Rattle.reel.specs.Causes.{neither, scalar_cause}

-- The refusal of the word at a place, from what reading it gives.
abbrev pub word_refused : Sample → ℕ → Check
word_refused (sample.Taken e m) at = Fine
word_refused (sample.Refused number) at = Refused number (record { 0 = at })

-- A trace's causes but for those of its words: 7, 8, 18 for field 69, 18 for field 71.
unfoldable pub trace_header_causes : List ℕ → ℕ → ℕ → ℕ → Check
trace_header_causes s n i at =
    then (refuse_if (neither (number16 s (byte_place at 115)) n) 7 (byte_place at 115))
    (then (refuse_if (neither (number16 s (byte_place at 117)) i) 8 (byte_place at 117))
    (then (scalar_cause s at elevation_scalar)
    (scalar_cause s at coordinate_scalar)))
