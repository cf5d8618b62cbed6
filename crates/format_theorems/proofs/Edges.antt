-- # Words of codes 5 and 8 at the edges
--
-- Each line is computed by the definitions.
use mathlib.Core.Path.{◌≡◌, refl}
use mathlib.Core.Bool.{true, false}
use Prim.Native.Nat.{◌+◌, ◌-◌, ◌*◌, ◌^◌}
use lib.IntN.{pos, neg_ℤ}
use Rattle.numbers.specs.First.{first}
use Rattle.formats.specs.Codes.{denominator_power}
use Rattle.formats.specs.Value.{whole_value, value_in, is_word}
use Rattle.formats.specs.Words.{word_of}
use Rattle.formats.specs.Written.{Word, Refused}

-- THEOREM. Under code 5, 3F800000 is 1, C1200000 is -10, and both 00000000 and 80000000 are zero.
pub ieee_numbers : (value_in 5 0x3F80_0000 ≡ whole_value (pos 1)) × (value_in 5 0xC120_0000 ≡ whole_value (neg_ℤ (pos 10))) × (value_in 5 0 ≡ pos 0) × (value_in 5 0x8000_0000 ≡ pos 0)
ieee_numbers = (refl, refl, refl, refl)

-- THEOREM. The least subnormal number, 00000001, is 2 ^ -149, the largest, 007FFFFF, is (2 ^ 23 - 1) × 2 ^ -149; the least normal number,
-- 00800000, is 2 ^ -126, the largest, 7F7FFFFF, is (2 ^ 24 - 1) × 2 ^ 104.
pub ieee_ends : (value_in 5 1 ≡ pos (2 ^ (denominator_power - 149))) × (value_in 5 0x007F_FFFF ≡ pos ((2 ^ 23 - 1) * 2 ^ (denominator_power - 149)))
    × (value_in 5 0x0080_0000 ≡ pos (2 ^ (denominator_power - 126))) × (value_in 5 0x7F7F_FFFF ≡ pos ((2 ^ 24 - 1) * 2 ^ (denominator_power + 104)))
ieee_ends = (refl, refl, refl, refl)

-- THEOREM. The infinities 7F800000 and FF800000, and 7FC00000, 7F800001 and FFFFFFFF, which are not numbers, are no words of code 5; 7F7FFFFF is one.
pub ieee_others : (is_word 5 0x7F80_0000 ≡ false) × (is_word 5 0xFF80_0000 ≡ false) × (is_word 5 0x7FC0_0000 ≡ false) × (is_word 5 0x7F80_0001 ≡ false) × (is_word 5 0xFFFF_FFFF ≡ false)
    × (is_word 5 0x7F7F_FFFF ≡ true)
ieee_others = (refl, refl, refl, refl, refl, refl)

-- THEOREM. Zero is written 00000000; 2 ^ -149 is written 00000001, and half of it isn't; 16,777,215 is 4B7FFFFF, 16,777,217 isn't written, and
-- neither is 2 ^ 128.
pub ieee_written : (word_of 5 (pos 0) ≡ Word 0) × (word_of 5 (pos (2 ^ (denominator_power - 149))) ≡ Word 1) × (word_of 5 (pos (2 ^ (denominator_power - 150))) ≡ Refused 14)
    × (word_of 5 (whole_value (pos 16_777_215)) ≡ Word 0x4B7F_FFFF) × (word_of 5 (whole_value (pos 16_777_217)) ≡ Refused 14) × (word_of 5 (pos (2 ^ (denominator_power + 128))) ≡ Refused 14)
unfolding first
ieee_written = (refl, refl, refl, refl, refl, refl)

-- THEOREM. Under code 8, -128 is written 80 and 127 is 7F; 128, -129 and a half are not written.
pub byte_written : (word_of 8 (whole_value (neg_ℤ (pos 128))) ≡ Word 0x80) × (word_of 8 (whole_value (pos 127)) ≡ Word 0x7F) × (word_of 8 (whole_value (pos 128)) ≡ Refused 14)
    × (word_of 8 (whole_value (neg_ℤ (pos 129))) ≡ Refused 14) × (word_of 8 (pos (2 ^ (denominator_power - 1))) ≡ Refused 14)
unfolding first
byte_written = (refl, refl, refl, refl, refl)
