-- The exact value of a word, as documents 01 and 02 set it: V / 16 ^ 70 with V a whole number. A word is the number of its bytes, of which
-- each code has its own count.
use Rattle.std.specs.Prelude.{ℕ, ◌+◌, ◌-◌, ◌*◌, ◌/◌, ◌%◌, ◌^◌, Bool, not, ◌&&◌, List, leb, ltb, eqb, ℤ, pos, ◌*ℤ◌}
use Rattle.numbers.specs.Walk.{pick, bytes_at}
use Rattle.numbers.specs.BigEndian.{number}
use Rattle.numbers.specs.TwosComplement.{signed_of}
use Rattle.numbers.specs.SignMagnitude.{sign_magnitude}
use Rattle.formats.specs.Codes.{denominator_power, bias, sample_bytes}

-- ## Code 1

-- An IBM word: the sign bit S,
abbrev pub sign_bit : ℕ → Bool
sign_bit n = leb (2 ^ 31) n

-- the 7-bit characteristic C
abbrev pub characteristic : ℕ → ℕ
characteristic n = n / 2 ^ 24 % 128

-- and the 24-bit fraction F.
abbrev pub fraction : ℕ → ℕ
fraction n = n % 2 ^ 24

-- Document 01's V = F × 16 ^ C, that is F / 2 ^ 24 × 16 ^ (C - 64), negated when S is 1.
abbrev pub ibm_value : ℕ → ℤ
ibm_value n = sign_magnitude (sign_bit n) (fraction n * 2 ^ (denominator_power - (4 * 64 + 24) + 4 * characteristic n))

-- ## Codes 2, 3, 8 and 4

-- A whole number.
abbrev pub whole_value : ℤ → ℤ
whole_value n = n *ℤ pos (2 ^ denominator_power)

-- Document 01's V = d × 2 ^ (280 - g), that is d / 2 ^ g.
abbrev pub gain_value : ℕ → ℤ → ℤ
gain_value g d = d *ℤ pos (2 ^ (denominator_power - g))

-- A gain word: 00, then the gain g, then d.
abbrev pub gain_of : ℕ → ℕ
gain_of n = n / 2 ^ 16 % 256

abbrev pub gain_number : ℕ → ℕ
gain_number n = n % 2 ^ 16

-- ## Code 5

-- An IEEE 754 word with an exponent of x bits and a fraction of y, 8 and 23 for single precision: the sign,
abbrev pub ieee_sign : ℕ → ℕ → ℕ → Bool
ieee_sign x y n = leb (2 ^ (x + y)) n

-- the biased exponent E
abbrev pub ieee_exponent : ℕ → ℕ → ℕ → ℕ
ieee_exponent x y n = n / 2 ^ y % 2 ^ x

-- and the fraction T.
abbrev pub ieee_fraction : ℕ → ℕ → ℕ
ieee_fraction y n = n % 2 ^ y

-- An exponent of all ones is that of an infinity or a not-a-number.
abbrev pub is_finite : ℕ → ℕ → ℕ → Bool
is_finite x y n = ltb (ieee_exponent x y n) (2 ^ x - 1)

-- E above 0: 2 ^ (E - bias) × (1 + T / 2 ^ y). E = 0, zero or subnormal: 2 ^ (1 - bias) × (T / 2 ^ y). First the significand as a whole
-- number,
abbrev pub significand : ℕ → ℕ → ℕ → ℕ
significand x y n = pick (eqb (ieee_exponent x y n) 0) (ieee_fraction y n) (2 ^ y + ieee_fraction y n)

-- then the power of two that its last place is worth,
abbrev pub ieee_power : ℕ → ℕ → ℕ → ℕ
ieee_power x y n = denominator_power + pick (eqb (ieee_exponent x y n) 0) 1 (ieee_exponent x y n) - (bias x + y)

-- and both, negated when the sign is 1. So both zeros are zero.
abbrev pub ieee_value : ℕ → ℕ → ℕ → ℤ
ieee_value x y n = sign_magnitude (ieee_sign x y n) (significand x y n * 2 ^ ieee_power x y n)

-- ## All codes

-- The value of a word under each code. Codes 2, 3 and 8 are two's complement of 32, 16 and 8 bits, and so is d of code 4, of 16 bits. Code 5
-- stands last: for a number that is no code the rule is one for words of four bytes.
abbrev pub value_in : ℕ → ℕ → ℤ
value_in code n =
    pick (eqb code 1) (ibm_value n)
    (pick (eqb code 2) (whole_value (signed_of 32 n))
    (pick (eqb code 3) (whole_value (signed_of 16 n))
    (pick (eqb code 4) (gain_value (gain_of n) (signed_of 16 (gain_number n)))
    (pick (eqb code 8) (whole_value (signed_of 8 n))
    (ieee_value 8 23 n)))))

-- Words without a value: under code 4 the first byte isn't 00, under code 5 it is an infinity or a not-a-number.
abbrev pub is_bad : ℕ → ℕ → Bool
is_bad code n = pick (eqb code 4) (not (ltb n (2 ^ 24))) (eqb code 5 && not (is_finite 8 23 n))

-- The words of a code that have a value.
abbrev pub is_word : ℕ → ℕ → Bool
is_word code n = ltb n (256 ^ sample_bytes code) && not (is_bad code n)

-- The number of a word in a list of bytes: of the first bytes, as many as a sample of the code has. The rest is ignored.
abbrev pub word_number : ℕ → List ℕ → ℕ
word_number code w = number (bytes_at w 0 (sample_bytes code))

-- The exact value V of a word in a list of bytes, under a code.
abbrev pub exact_value : ℕ → List ℕ → ℤ
exact_value code w = value_in code (word_number code w)
