-- Words read as sign and magnitude: "Where two samples both fit code 1, their order is that of their normal words read as sign and magnitude"
-- (document 02, CR 9).
use Rattle.std.specs.Prelude.{ℕ, ◌-◌, ◌%◌, ◌^◌, leb, ℤ}
use Rattle.numbers.specs.SignMagnitude.{sign_magnitude}

-- A word of w bits, read so: the first bit is the sign, the others are the magnitude.
abbrev pub word_signed : ℕ → ℕ → ℤ
word_signed w n = sign_magnitude (leb (2 ^ (w - 1)) n) (n % 2 ^ (w - 1))
