-- The format codes: which there are, the bytes of a sample under each, and the format of each.
use Rattle.std.specs.Prelude.{ℕ, ◌+◌, ◌-◌, ◌*◌, ◌^◌, ◌≡◌, Bool, true, false, List, [], ◌∷◌, eqb, Option, Some, None}
use Rattle.numbers.specs.Walk.{pick, is_among}
use Rattle.formats.specs.declared.Code.{Code}
use Rattle.formats.specs.declared.Code.TheVariants.{Ibm, Whole32, Whole16, Gain, Ieee, Whole8}
use Rattle.formats.specs.declared.Format.{Format}

-- The codes: 1 to 4 of document 01, and 5 and 8 of document 02 (CR 4).
abbrev pub codes : List ℕ
codes = 1 ∷ 2 ∷ 3 ∷ 4 ∷ 5 ∷ 8 ∷ []

-- A number is a code.
abbrev pub is_code : ℕ → Bool
is_code code = is_among code codes

-- The number of a code.
abbrev pub code_no : Code → ℕ
code_no Ibm = 1
code_no Whole32 = 2
code_no Whole16 = 3
code_no Gain = 4
code_no Ieee = 5
code_no Whole8 = 8

-- The code of a number: the one with that number, or none, where the number is no code.
abbrev pub CodeOf : ℕ → Option Code → Type 0
CodeOf n (Some code) = code_no code ≡ n
CodeOf n None = is_code n ≡ false

-- The bytes of a sample: code 3 has two, code 8 has one, the others have four.
abbrev pub sample_bytes : ℕ → ℕ
sample_bytes code = pick (eqb code 3) 2 (pick (eqb code 8) 1 4)

-- The bytes of a single word, of which a sample has the first.
abbrev pub word_length : ℕ
word_length = 4

-- The power of two of the denominator that all samples share: 16 ^ 70 is 2 ^ 280.
abbrev pub denominator_power : ℕ
denominator_power = 280

-- ## Formats

-- IBM: a fraction of six hexadecimal digits behind the point, and a power of 16 in excess 64.
abbrev pub ibm_format : Format
ibm_format = record { digit = 4; fraction = 24; characteristics = 128; base = denominator_power - (4 * 64 + 24); more = false }

-- A whole number of w bits in two's complement.
abbrev pub whole_format : ℕ → Format
whole_format w = record { digit = 1; fraction = w - 1; characteristics = 1; base = denominator_power; more = true }

-- Gain: a number of 16 bits in two's complement divided by 2 ^ g, with g from 0 to 255; the characteristic is 255 - g.
abbrev pub gain_format : Format
gain_format = record { digit = 1; fraction = 15; characteristics = 256; base = denominator_power - 255; more = true }

-- IEEE 754's bias for an exponent of x bits.
abbrev pub bias : ℕ → ℕ
bias x = 2 ^ (x - 1) - 1

-- IEEE, with an exponent of x bits and a fraction of y: the hidden bit stands before the fraction, and two of the exponents are none of a
-- normal number. The last place of a subnormal number is worth 2 ^ (1 - bias - y).
abbrev pub ieee_format : ℕ → ℕ → Format
ieee_format x y = record { digit = 1; fraction = y + 1; characteristics = 2 ^ x - 2; base = denominator_power + 1 - (bias x + y); more = false }

-- A format without values, for a number that is no code.
abbrev pub no_format : Format
no_format = record { digit = 1; fraction = 0; characteristics = 0; base = 0; more = false }

-- The format of a code.
abbrev pub format_of : ℕ → Format
format_of code =
    pick (eqb code 1) ibm_format
    (pick (eqb code 2) (whole_format 32)
    (pick (eqb code 3) (whole_format 16)
    (pick (eqb code 4) gain_format
    (pick (eqb code 5) (ieee_format 8 23)
    (pick (eqb code 8) (whole_format 8) no_format)))))
