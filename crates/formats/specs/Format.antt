-- A sample format is five numbers, the struct `Format`: r bits to a digit, p bits to a fraction, m characteristics, the base power b, and
-- whether it has one more number below zero. A value of it is V = ± f × 2 ^ (b + r × c), with a fraction f and a characteristic c of the
-- format, over the denominator that all samples share.
use Rattle.std.specs.Prelude.{ℕ, ◌+◌, ◌*◌, ◌/◌, ◌^◌, ◌<◌, ◌≡◌, Bool, ◌&&◌, ltb, Option, Some, None, ℤ, nat_abs}
use Rattle.numbers.specs.Walk.{pick}
use Rattle.numbers.specs.First.{first}
use Rattle.numbers.specs.SignMagnitude.{sign_magnitude, is_negative, is_multiple}
use Rattle.formats.specs.declared.Format.{Format}
use Rattle.formats.specs.declared.Placed.{Placed}

-- What the last place of a fraction is worth beside characteristic c.
abbrev pub unit : Format → ℕ → ℕ
unit x c = 2 ^ (x.base + x.digit * c)

-- Fractions are below this: 2 ^ p, and one more below zero where the format has that, as two's complement has.
abbrev pub limit : Format → Bool → ℕ
limit x s = 2 ^ x.fraction + pick (x.more && s) 1 0

-- A characteristic serves a value: V = ± f × 2 ^ (b + r × c) for a fraction f of the format.
abbrev pub fits_at : Format → ℤ → ℕ → Bool
fits_at x v c = is_multiple (unit x c) v && ltb (nat_abs v / unit x c) (limit x (is_negative v))

-- The least characteristic that serves a value; the number of characteristics where none does.
abbrev pub least_serving : Format → ℤ → ℕ
least_serving x v = first (fits_at x v) x.characteristics 0

-- The one statement of fit: a value is one of the format's.
abbrev pub in_format : Format → ℤ → Bool
in_format x v = ltb (least_serving x v) x.characteristics

-- A characteristic and a fraction beside it.
abbrev pub beside : ℕ → ℕ → Placed
beside c f = record { characteristic = c; fraction = f }

-- A value's place in a format: its fraction beside characteristic c, or nowhere where c is none of the format's.
abbrev pub placed_at : Format → ℤ → ℕ → Option Placed
placed_at x v c = pick (ltb c x.characteristics) (Some (beside c (nat_abs v / unit x c))) None

-- The least characteristic is taken: beside it stands the largest fraction.
abbrev pub placed : Format → ℤ → Option Placed
placed x v = placed_at x v (least_serving x v)

-- The one statement of value: v is ± f × 2 ^ (b + r × c), with a characteristic c and a fraction f of the format.
pub record Value (x : Format) (v : ℤ) : Type 0 where
  pub sign : Bool
  pub c : ℕ
  pub f : ℕ
  pub below : c < x.characteristics
  pub fits : f < limit x sign
  pub is : v ≡ sign_magnitude sign (f * unit x c)
