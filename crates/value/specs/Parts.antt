-- What the functions inside this crate hand to each other: a pair taken apart, and a place of its nearest value.
use Rattle.std.specs.Prelude.{ℕ, ◌-◌, ◌*◌, ◌^◌, ◌≤◌, ◌<◌, ◌≡◌, ◌⊎◌, Bool, true, false, Option, Some, None, Result, Ok, Err, ℤ, pos}
use Rattle.numbers.specs.Walk.{pick}
use Rattle.numbers.specs.SignMagnitude.{sign_magnitude}
use Rattle.numbers.specs.declared.Cause.{Cause}
use Rattle.numbers.specs.Cause.{cause_no}
use Rattle.formats.specs.Codes.{code_no, sample_bytes, format_of}
use Rattle.formats.specs.Format.{unit, limit}
use Rattle.formats.specs.Nearest.{nearest_magnitude, changes_in}
use Rattle.formats.specs.declared.Code.{Code}
use Rattle.formats.specs.declared.Format.{Format}
use Rattle.value.specs.Pair.{value_of, is_canonical}
use Rattle.value.specs.declared.Pair.{Pair}
use Rattle.value.specs.declared.parts.Odd.{Odd}
use Rattle.value.specs.declared.rounding.RoundedPlace.{RoundedPlace}

-- The format of a code.
abbrev pub format : Code → Format
format code = format_of (code_no code)

-- The bits of a sample of a code.
abbrev pub sample_bits : Code → ℕ
sample_bits code = 8 * sample_bytes (code_no code)

-- The value ± odd × 2 ^ power.
abbrev pub worth : Odd → ℤ
worth v = sign_magnitude v.negative (v.odd * 2 ^ v.power)

-- The parts are those of the pair.
abbrev pub PartsOf : Pair → Result (Option Odd) Cause → Type 0
PartsOf p (Err cause) = (is_canonical p ≡ false) × (cause_no cause ≡ 13)
PartsOf p (Ok None) = (is_canonical p ≡ true) × (value_of p ≡ pos 0)
PartsOf p (Ok (Some v)) = (is_canonical p ≡ true) × (value_of p ≡ worth v)

-- A place of the nearest value to ± a: a characteristic and a fraction of the format, the first digit of the fraction not 0 unless the
-- characteristic is; and whether it is another value.
pub record NearPlace (x : Format) (s : Bool) (a : ℕ) (r : RoundedPlace) : Type 0 where
  pub is : r.place.fraction * unit x r.place.characteristic ≡ nearest_magnitude x s a
  pub below : r.place.characteristic < x.characteristics
  pub fits : r.place.fraction < limit x s
  pub normal : (r.place.characteristic ≡ 0) ⊎ (2 ^ (x.fraction - x.digit) ≤ r.place.fraction)
  pub changes : pick r.changed 1 0 ≡ changes_in x (sign_magnitude s a)
