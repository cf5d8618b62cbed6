-- The word of a value under each code, as the number of its bytes.
use Rattle.std.specs.Prelude.{ℕ, ◌+◌, ◌-◌, ◌*◌, ◌/◌, ◌^◌, ◌≡◌, Bool, not, ◌||◌, ltb, eqb, Option, Some, None, ℤ, nat_abs}
use Rattle.numbers.specs.Walk.{pick}
use Rattle.numbers.specs.First.{first}
use Rattle.numbers.specs.TwosComplement.{bits_of}
use Rattle.numbers.specs.SignMagnitude.{sign_magnitude, is_negative}
use Rattle.formats.specs.Format.{unit, fits_at, placed}
use Rattle.formats.specs.Codes.{ibm_format, whole_format, gain_format, ieee_format}
use Rattle.formats.specs.Value.{characteristic, fraction, ibm_value}
use Rattle.formats.specs.declared.Format.{Format}
use Rattle.formats.specs.declared.Placed.{Placed}
use Rattle.formats.specs.Written.{Written, Word, Refused}

-- ## IBM and IEEE

-- A word of w bits: the sign, then the characteristic above the y lowest bits. A fraction of more than y bits, as IEEE's with its hidden
-- bit, adds 1 to the characteristic, and so makes the exponent of a normal number.
abbrev pub float_bits : ℕ → ℕ → Bool → ℕ → ℕ → ℕ
float_bits w y s c f = pick s (2 ^ (w - 1)) 0 + (c * 2 ^ y + f)

-- The word of a sign and a place, or 14 where the value is in no place of the format.
abbrev pub float_of : ℕ → ℕ → Bool → Option Placed → Written
float_of w y s (Some p) = Word (float_bits w y s p.characteristic p.fraction)
float_of w y s None = Refused 14

-- The word of a value, with the least characteristic that serves. Zero is written without a sign: 00000000.
abbrev pub float_word : Format → ℕ → ℕ → ℤ → Written
float_word x w y v = float_of w y (is_negative v) (placed x v)

-- The first of the six hexadecimal digits of an IBM word's F.
abbrev pub first_digit : ℕ → ℕ
first_digit n = fraction n / 16 ^ 5

-- An IBM word is normal, document 01's own term: for zero it is 00000000; otherwise the first hexadecimal digit of F isn't 0, unless C is 0.
-- So 80000000 and 7F000000 are not normal: they are zero too.
unfoldable pub is_normal : ℕ → Bool
is_normal n =
    pick (eqb (nat_abs (ibm_value n)) 0) (eqb n 0) (not (eqb (first_digit n) 0) || eqb (characteristic n) 0)

-- Code 1: the normal word of a value, which is that of the least characteristic.
abbrev pub ibm_word : ℤ → Written
ibm_word v = float_word ibm_format 32 24 v

-- ## Two's complement

-- The word of a sign and a place, or 14.
abbrev pub whole_of : ℕ → Bool → Option Placed → Written
whole_of w s (Some p) = Word (bits_of w (sign_magnitude s p.fraction))
whole_of w s None = Refused 14

-- Codes 2, 3 and 8: the number itself, if whole and of w bits.
abbrev pub whole_word : ℕ → ℤ → Written
whole_word w v = whole_of w (is_negative v) (placed (whole_format w) v)

-- ## Gain

-- A gain g serves a value: d / 2 ^ g for a d of 16 bits.
abbrev pub gain_fits : ℤ → ℕ → Bool
gain_fits v g = fits_at gain_format v (255 - g)

-- The word of a value with gain g, or 14 where g is 256: then none of the 256 gains serves.
abbrev pub gain_at : ℤ → ℕ → Written
gain_at v g =
    pick (ltb g 256)
    (Word (g * 2 ^ 16 + bits_of 16 (sign_magnitude (is_negative v) (nat_abs v / unit gain_format (255 - g)))))
    (Refused 14)

-- Code 4: the word of the smallest g from 0 to 255 for which some d has the value.
abbrev pub gain_word : ℤ → Written
gain_word v = gain_at v (first (gain_fits v) 256 0)

-- ## All codes

-- The word of a value under each code.
abbrev pub word_of : ℕ → ℤ → Written
word_of code v =
    pick (eqb code 1) (ibm_word v)
    (pick (eqb code 2) (whole_word 32 v)
    (pick (eqb code 3) (whole_word 16 v)
    (pick (eqb code 4) (gain_word v)
    (pick (eqb code 5) (float_word (ieee_format 8 23) 32 23 v)
    (whole_word 8 v)))))

-- The bits of a word, 0 where there is none.
abbrev pub word_bits : Written → ℕ
word_bits (Word n) = n
word_bits (Refused number) = 0

-- There is a word.
abbrev pub Writes : Written → Type 0
Writes r = (n : ℕ) × (r ≡ Word n)
