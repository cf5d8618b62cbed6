-- The canonical sample, document 01's own term: a pair of exponent e and mantissa m, with value m × 2 ^ e; and its six bytes.
use Rattle.std.specs.Prelude.{ℕ, zero, suc, ◌+◌, ◌-◌, ◌/◌, ◌%◌, ◌^◌, Bool, ◌&&◌, ◌||◌, List, ◌++◌, leb, eqb, ℤ, pos, negsuc, neg_ℤ, nat_abs, ◌+ℤ◌, ◌*ℤ◌}
use Rattle.std.proofs.Math.IntN.{sub_ℕ}
use Rattle.std.specs.Int.Signed.{le_z}
use Rattle.numbers.specs.Walk.{bytes_at}
use Rattle.numbers.specs.BigEndian.{number, bytes_of}
use Rattle.numbers.specs.TwosComplement.{signed_of, bits_of}
use Rattle.formats.specs.Codes.{denominator_power}
use Rattle.value.specs.declared.Pair.{Pair}

-- The largest e. The least is -280, as 2 ^ -280 is the step of all values.
abbrev pub highest_exponent : ℕ
highest_exponent = 251

-- The bits of a mantissa in two's complement.
abbrev pub mantissa_bits : ℕ
mantissa_bits = 32

-- How often 2 divides a number other than 0, by its binary digits: the first argument is a count of steps that is enough, then come the
-- lowest digit and the digits above it.
unfoldable pub twos_in : ℕ → ℕ → ℕ → ℕ
twos_in zero d h = zero
twos_in (suc k) zero h = suc (twos_in k (h % 2) (h / 2))
twos_in (suc k) (suc d) h = zero

-- How often 2 divides a number other than 0.
unfoldable pub twos : ℕ → ℕ
twos n = twos_in n (n % 2) (n / 2)

-- What is left of it when they are counted out.
unfoldable pub odd_part : ℕ → ℕ
odd_part n = n / 2 ^ twos n

-- The canonical pair of the value V / 2 ^ 280, where it has one: for zero e = 0 and m = 0, otherwise m is odd.
abbrev pub pair_of : ℤ → Pair
pair_of (pos zero) = record { e = pos 0; m = pos 0 }
pair_of (pos (suc n)) = record { e = sub_ℕ (twos (suc n)) denominator_power; m = pos (odd_part (suc n)) }
pair_of (negsuc n) = record { e = sub_ℕ (twos (suc n)) denominator_power; m = neg_ℤ (pos (odd_part (suc n))) }

-- The V of a pair whose e is -280 or more: m × 2 ^ (e + 280).
abbrev pub value_of : Pair → ℤ
value_of p = p.m *ℤ pos (2 ^ nat_abs (p.e +ℤ pos denominator_power))

-- e runs from -280 to 251.
abbrev pub is_exponent : ℤ → Bool
is_exponent e = le_z (neg_ℤ (pos denominator_power)) e && le_z e (pos highest_exponent)

-- |m| is at most 2 ^ 31 - 1, and m is odd.
abbrev pub is_mantissa : ℤ → Bool
is_mantissa m = leb (nat_abs m) (2 ^ (mantissa_bits - 1) - 1) && eqb (nat_abs m % 2) 1

-- A canonical pair: zero, or an odd mantissa, each number within its limits.
abbrev pub is_canonical : Pair → Bool
is_canonical p = (eqb (nat_abs p.e) 0 && eqb (nat_abs p.m) 0) || (is_exponent p.e && is_mantissa p.m)

-- The bytes of a pair: e in two, m in four.
abbrev pub pair_length : ℕ
pair_length = 2 + mantissa_bits / 8

-- A pair in its bytes, both numbers in two's complement.
abbrev pub pair_bytes : ℤ → ℤ → List ℕ
pair_bytes e m = bytes_of 2 (bits_of 16 e) ++ bytes_of (mantissa_bits / 8) (bits_of mantissa_bits m)

-- A value in the six bytes of its canonical pair.
abbrev pub value_bytes : ℤ → List ℕ
value_bytes v = pair_bytes (pair_of v).e (pair_of v).m

-- The pair of the bits of e and m, both in two's complement.
abbrev pub pair_of_bits : ℕ → ℕ → Pair
pair_of_bits e m = record { e = signed_of 16 e; m = signed_of mantissa_bits m }

-- The pair of six bytes.
abbrev pub pair_in : List ℕ → Pair
pair_in b = pair_of_bits (number (bytes_at b 0 2)) (number (bytes_at b 2 (mantissa_bits / 8)))
