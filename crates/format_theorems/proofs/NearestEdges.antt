-- # Nearest values at the edges
--
-- Each line is computed by the definitions.
use mathlib.Core.Path.{◌≡◌, refl}
use mathlib.Core.Bool.{true, false}
use Prim.Native.Nat.{◌+◌, ◌-◌, ◌*◌, ◌^◌}
use lib.IntN.{pos, neg_ℤ}
use Rattle.numbers.specs.First.{first}
use Rattle.formats.specs.Codes.{denominator_power, format_of}
use Rattle.formats.specs.Value.{whole_value}
use Rattle.formats.specs.Words.{word_of}
use Rattle.formats.specs.Nearest.{range_end, nearest_value, changes}
use Rattle.formats.specs.Written.{Word}
use Rattle.format_theorems.specs.Nearness.{halves}

-- ## The ends of the range

-- THEOREM. The ends of codes 2, 3 and 8: of w bits, 2 ^ (w - 1) - 1, and 2 ^ (w - 1) below zero.
-- Rules out ends of the same magnitude on both sides.
pub whole_ends : (range_end (format_of 2) false ≡ (2 ^ 31 - 1) * 2 ^ denominator_power) × (range_end (format_of 2) true ≡ 2 ^ 31 * 2 ^ denominator_power)
    × (range_end (format_of 3) false ≡ (2 ^ 15 - 1) * 2 ^ denominator_power) × (range_end (format_of 3) true ≡ 2 ^ 15 * 2 ^ denominator_power)
    × (range_end (format_of 8) false ≡ (2 ^ 7 - 1) * 2 ^ denominator_power) × (range_end (format_of 8) true ≡ 2 ^ 7 * 2 ^ denominator_power)
whole_ends = (refl, refl, refl, refl, refl, refl)

-- THEOREM. Code 4's ends are those of d at gain 0. Code 1's is FFFFFF beside C = 127, which is (2 ^ 24 - 1) × 2 ^ 228, and code 5's the largest
-- finite number, (2 ^ 24 - 1) × 2 ^ 104, on both sides.
-- Rules out an infinity for the end of code 5.
pub float_ends : (range_end (format_of 4) false ≡ (2 ^ 15 - 1) * 2 ^ denominator_power) × (range_end (format_of 4) true ≡ 2 ^ 15 * 2 ^ denominator_power)
    × (range_end (format_of 1) false ≡ (2 ^ 24 - 1) * 2 ^ (denominator_power + 228)) × (range_end (format_of 1) true ≡ (2 ^ 24 - 1) * 2 ^ (denominator_power + 228))
    × (range_end (format_of 5) false ≡ (2 ^ 24 - 1) * 2 ^ (denominator_power + 104)) × (range_end (format_of 5) true ≡ (2 ^ 24 - 1) * 2 ^ (denominator_power + 104))
float_ends = (refl, refl, refl, refl, refl, refl)

-- ## Whole numbers

-- THEOREM. Code 3: 0.5 and -0.5 become 0, 1.5 becomes 1, -1.5 becomes -1 and 2.5 becomes 2; 0.75 becomes 1, and so does the least value above
-- a half.
-- Rules out ties to even, up or away from zero.
pub half_numbers : (nearest_value 3 (halves 1) ≡ pos 0) × (nearest_value 3 (neg_ℤ (halves 1)) ≡ pos 0) × (nearest_value 3 (halves 3) ≡ whole_value (pos 1))
    × (nearest_value 3 (neg_ℤ (halves 3)) ≡ whole_value (neg_ℤ (pos 1))) × (nearest_value 3 (halves 5) ≡ whole_value (pos 2))
    × (nearest_value 3 (pos (3 * 2 ^ (denominator_power - 2))) ≡ whole_value (pos 1)) × (nearest_value 3 (pos (2 ^ (denominator_power - 1) + 1)) ≡ whole_value (pos 1))
unfolding first
half_numbers = (refl, refl, refl, refl, refl, refl, refl)

-- THEOREM. Code 3: 32,767.5 and 32,768 become 32,767, -32,768.5 and -40,000 become -32,768.
-- Rules out 8000 for 32,768, and 7FFF for a number below zero.
pub short_numbers : (nearest_value 3 (halves 65_535) ≡ whole_value (pos 32_767)) × (nearest_value 3 (whole_value (pos 32_768)) ≡ whole_value (pos 32_767))
    × (nearest_value 3 (neg_ℤ (halves 65_537)) ≡ whole_value (neg_ℤ (pos 32_768))) × (nearest_value 3 (whole_value (neg_ℤ (pos 40_000))) ≡ whole_value (neg_ℤ (pos 32_768)))
unfolding first
short_numbers = (refl, refl, refl, refl)

-- THEOREM. Code 2: 2 ^ 31 becomes 2 ^ 31 - 1, -2 ^ 31 stays, and -2 ^ 31 - 1 becomes -2 ^ 31. Code 8: 127.5 becomes 127, -128.5 becomes -128.
-- Rules out a range that is the same on both sides.
pub long_numbers : (nearest_value 2 (whole_value (pos (2 ^ 31))) ≡ whole_value (pos (2 ^ 31 - 1))) × (nearest_value 2 (whole_value (neg_ℤ (pos (2 ^ 31)))) ≡ whole_value (neg_ℤ (pos (2 ^ 31))))
    × (nearest_value 2 (whole_value (neg_ℤ (pos (2 ^ 31 + 1)))) ≡ whole_value (neg_ℤ (pos (2 ^ 31))))
    × (nearest_value 8 (halves 255) ≡ whole_value (pos 127)) × (nearest_value 8 (neg_ℤ (halves 257)) ≡ whole_value (neg_ℤ (pos 128)))
unfolding first
long_numbers = (refl, refl, refl, refl, refl)

-- ## Numbers with a characteristic

-- THEOREM. Code 1, from 16 ^ 6 to 16 ^ 7 by steps of 16: 33,554,424 lies halfway and becomes 33,554,416, written 471FFFFF; 33,554,425 and
-- 33,554,430 become 33,554,432.
-- Rules out dropping the digits behind the sixth.
pub ibm_nearest : (nearest_value 1 (whole_value (pos 33_554_424)) ≡ whole_value (pos 33_554_416)) × (word_of 1 (nearest_value 1 (whole_value (pos 33_554_424))) ≡ Word 0x471F_FFFF)
    × (nearest_value 1 (whole_value (pos 33_554_425)) ≡ whole_value (pos 33_554_432)) × (nearest_value 1 (whole_value (pos 33_554_430)) ≡ whole_value (pos 33_554_432))
unfolding first
ibm_nearest = (refl, refl, refl, refl)

-- THEOREM. Code 1 carries: 16,777,215.5 becomes 16,777,215, written 46FFFFFF, and 16,777,215.75 becomes 16,777,216, written 47100000. 2 ^ 252 is
-- beyond the range and is written 7FFFFFFF.
-- Rules out a fraction of seven digits, and 46000000 or 46FFFFFF for the second.
pub ibm_carry : (word_of 1 (nearest_value 1 (halves 33_554_431)) ≡ Word 0x46FF_FFFF) × (nearest_value 1 (pos (67_108_863 * 2 ^ (denominator_power - 2))) ≡ whole_value (pos 16_777_216))
    × (word_of 1 (nearest_value 1 (pos (67_108_863 * 2 ^ (denominator_power - 2)))) ≡ Word 0x4710_0000) × (word_of 1 (nearest_value 1 (pos (2 ^ (denominator_power + 252)))) ≡ Word 0x7FFF_FFFF)
unfolding first
ibm_carry = (refl, refl, refl, refl)

-- THEOREM. Code 1 at the end, and from C = 0 to C = 1: (2 ^ 26 - 1) × 2 ^ 226, which is (2 ^ 24 - 1 / 4) × 2 ^ 228, is written 7FFFFFFF;
-- (2 ^ 24 + 8) / 16 ^ 70 lies halfway and is written 01100000, (2 ^ 24 + 9) / 16 ^ 70 is written 01100001.
-- Rules out a carry beyond C = 127, and a seventh digit beside C = 0.
pub ibm_edges : (word_of 1 (nearest_value 1 (pos ((2 ^ 26 - 1) * 2 ^ (denominator_power + 226)))) ≡ Word 0x7FFF_FFFF)
    × (word_of 1 (nearest_value 1 (pos (2 ^ 24 + 8))) ≡ Word 0x0110_0000) × (word_of 1 (nearest_value 1 (pos (2 ^ 24 + 9))) ≡ Word 0x0110_0001)
unfolding first
ibm_edges = (refl, refl, refl)

-- THEOREM. Code 5: 2 ^ -150 lies halfway and becomes 0, and so does -2 ^ -150, written 00000000; 3 × 2 ^ -150 becomes 2 ^ -149. The least normal
-- number is reached from below: (2 ^ 23 - 1 / 4) × 2 ^ -149 is written 00800000.
-- Rules out 80000000, minus zero, for a value below zero.
pub ieee_small : (nearest_value 5 (pos (2 ^ (denominator_power - 150))) ≡ pos 0) × (word_of 5 (nearest_value 5 (neg_ℤ (pos (2 ^ (denominator_power - 150))))) ≡ Word 0)
    × (nearest_value 5 (pos (3 * 2 ^ (denominator_power - 150))) ≡ pos (2 ^ (denominator_power - 149))) × (word_of 5 (nearest_value 5 (pos ((2 ^ 25 - 1) * 2 ^ (denominator_power - 151)))) ≡ Word 0x0080_0000)
unfolding first
ieee_small = (refl, refl, refl, refl)

-- THEOREM. Code 5: 16,777,217 becomes 16,777,216, and 16,777,219 becomes 16,777,218; 2 ^ 128 becomes the largest finite number, 7F7FFFFF, and so
-- does (2 ^ 26 - 1) × 2 ^ 102, which is (2 ^ 24 - 1 / 4) × 2 ^ 104; -2 ^ 128 becomes FF7FFFFF.
-- Rules out IEEE's ties to even, which make 16,777,219 into 16,777,220, and its infinities.
pub ieee_large : (nearest_value 5 (whole_value (pos 16_777_217)) ≡ whole_value (pos 16_777_216)) × (nearest_value 5 (whole_value (pos 16_777_219)) ≡ whole_value (pos 16_777_218))
    × (word_of 5 (nearest_value 5 (pos (2 ^ (denominator_power + 128)))) ≡ Word 0x7F7F_FFFF) × (word_of 5 (nearest_value 5 (neg_ℤ (pos (2 ^ (denominator_power + 128))))) ≡ Word 0xFF7F_FFFF)
    × (word_of 5 (nearest_value 5 (pos ((2 ^ 26 - 1) * 2 ^ (denominator_power + 102)))) ≡ Word 0x7F7F_FFFF)
unfolding first
ieee_large = (refl, refl, refl, refl, refl)

-- THEOREM. Code 4: 16,383.75 lies halfway and becomes 16,383.5, written 00017FFF; 16,383.875 becomes 16,384, written 00004000; -16,384.25 becomes
-- -16,384, written 0000C000; 2 ^ -256 lies halfway and becomes 0.
-- Rules out a larger gain than the smallest that serves, as 00018000 has.
pub gain_nearest : (word_of 4 (nearest_value 4 (pos (65_535 * 2 ^ (denominator_power - 2)))) ≡ Word 0x0001_7FFF) × (word_of 4 (nearest_value 4 (pos (131_071 * 2 ^ (denominator_power - 3)))) ≡ Word 0x4000)
    × (word_of 4 (nearest_value 4 (neg_ℤ (pos (65_537 * 2 ^ (denominator_power - 2))))) ≡ Word 0xC000) × (nearest_value 4 (pos (2 ^ (denominator_power - 256))) ≡ pos 0)
unfolding first
gain_nearest = (refl, refl, refl, refl)

-- THEOREM. Code 4 at the ends: 32,767.75 and 32,768 are written 00007FFF; -32,768 is written 00008000 and doesn't change, and -32,768.5 is
-- written 00008000. -2 ^ -256 lies halfway and is written 00000000.
-- Rules out 00008000 for a value above zero, 00008001, which is -32,767, for -32,768, and a zero with a gain.
pub gain_edges : (word_of 4 (nearest_value 4 (pos (131_071 * 2 ^ (denominator_power - 2)))) ≡ Word 0x7FFF) × (word_of 4 (nearest_value 4 (whole_value (pos 32_768))) ≡ Word 0x7FFF)
    × (word_of 4 (nearest_value 4 (whole_value (neg_ℤ (pos 32_768)))) ≡ Word 0x8000) × (changes 4 (whole_value (neg_ℤ (pos 32_768))) ≡ 0)
    × (word_of 4 (nearest_value 4 (neg_ℤ (halves 65_537))) ≡ Word 0x8000) × (word_of 4 (nearest_value 4 (neg_ℤ (pos (2 ^ (denominator_power - 256))))) ≡ Word 0)
unfolding first
gain_edges = (refl, refl, refl, refl, refl, refl)

-- THEOREM. Under code 3 a half and 32,768 each count as changed, and -5 doesn't.
-- Rules out a count of samples that stay.
pub changed_edges : (changes 3 (halves 1) ≡ 1) × (changes 3 (whole_value (pos 32_768)) ≡ 1) × (changes 3 (whole_value (neg_ℤ (pos 5))) ≡ 0)
unfolding first
changed_edges = (refl, refl, refl)
