-- # The starred lines of document 01's "Samples at the edges"
--
-- Each line is computed by the rules themselves.
use mathlib.Core.Path.{◌≡◌, refl}
use mathlib.Core.Bool.{true}
use mathlib.Core.List.{[], ◌∷◌}
use lib.IntN.{pos, negsuc}
use lib.Dec.{lit<, lit≤}
use Rattle.numbers.specs.Walk.{bytes_at}
use Rattle.numbers.specs.First.{first}
use Rattle.value.specs.Pair.{twos_in, twos, odd_part, is_canonical}
use Rattle.formats.specs.Words.{is_normal}
use Rattle.value.specs.Writing.{write_pair}
use Rattle.formats.specs.Written.{Word, Refused}
use Rattle.sample.specs.Reading.{not_normal}
use Rattle.sample_theorems.specs.Starred.{Starred, IeeeAndByte, beyond}

-- THEOREM. The starred lines, as a group.
pub starred : Starred
unfolding bytes_at twos_in twos odd_part first is_normal
starred =
    record {
      one = (refl, refl);
      minus = (refl, refl);
      nothing = (refl, refl);
      ends = (refl, refl);
      largest = refl;
      halved = (refl, refl);
      bits_24 = (refl, refl);
      digits_6 = (refl, refl, refl, lit≤ tt, lit< tt);
      bits_16 = (refl, refl);
    }

-- THEOREM. The line without a star: e -255, m 1 fits code 4; e -256 doesn't.
pub least_gain : (write_pair 4 (record { e = negsuc 254; m = pos 1 }) ≡ Word 0x00FF_0001) × (write_pair 4 (record { e = negsuc 255; m = pos 1 }) ≡ Refused 14)
unfolding first
least_gain = (refl, refl)

-- THEOREM. The edges of codes 5 and 8.
pub ieee_and_byte : IeeeAndByte
unfolding bytes_at twos_in twos odd_part first
ieee_and_byte =
    record {
      least = (refl, refl);
      subnormal = (refl, refl);
      largest = (refl, refl);
      others = (refl, refl);
      zeros = (refl, refl);
      beyond_ends = (refl, refl);
      bytes = (refl, refl, refl);
      no_codes = (refl, refl, refl);
      first_byte = (refl, refl, refl);
    }

-- A canonical pair, though no word of any code has its value (no line of document 01).
pub beyond_14 : (is_canonical beyond ≡ true) × (write_pair 1 beyond ≡ Refused 14) × (write_pair 2 beyond ≡ Refused 14) × (write_pair 3 beyond ≡ Refused 14) × (write_pair 4 beyond ≡ Refused 14) × (write_pair 5 beyond ≡ Refused 14) × (write_pair 8 beyond ≡ Refused 14)
unfolding first is_normal
beyond_14 = (refl, refl, refl, refl, refl, refl, refl)

-- THEOREM. Of the words of zero 00000000 is normal, 80000000, 7F000000 and FF000000 are not; 41100000 is, 42010000, of the same value, isn't;
-- where C is 0, 00000001 and 80000001 are.
pub normal_edges : (not_normal 1 (0 ∷ 0 ∷ 0 ∷ 0 ∷ []) ≡ 0) × (not_normal 1 (0x80 ∷ 0 ∷ 0 ∷ 0 ∷ []) ≡ 1) × (not_normal 1 (0x7F ∷ 0 ∷ 0 ∷ 0 ∷ []) ≡ 1)
    × (not_normal 1 (0xFF ∷ 0 ∷ 0 ∷ 0 ∷ []) ≡ 1) × (not_normal 1 (0x41 ∷ 0x10 ∷ 0 ∷ 0 ∷ []) ≡ 0) × (not_normal 1 (0x42 ∷ 0x01 ∷ 0 ∷ 0 ∷ []) ≡ 1)
    × (not_normal 1 (0 ∷ 0 ∷ 0 ∷ 1 ∷ []) ≡ 0) × (not_normal 1 (0x80 ∷ 0 ∷ 0 ∷ 1 ∷ []) ≡ 0)
unfolding bytes_at is_normal
normal_edges = (refl, refl, refl, refl, refl, refl, refl, refl)
