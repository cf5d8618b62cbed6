-- Sign and magnitude, the whole numbers of p's, and the numbers of w bits among them.
use Rattle.std.specs.Prelude.{ℕ, ◌-◌, ◌%◌, ◌^◌, Bool, true, false, ◌&&◌, ℤ, pos, negsuc, neg_ℤ, ◌==◌, int_div, int_le, int_lt, unsigned_abs}

-- Sign and magnitude: a, negated where the sign is set.
abbrev pub sign_magnitude : Bool → ℕ → ℤ
sign_magnitude false a = pos a
sign_magnitude true a = neg_ℤ (pos a)

-- A value is below 0.
abbrev pub is_negative : ℤ → Bool
is_negative (pos n) = false
is_negative (negsuc n) = true

-- A value is a whole number of p's.
abbrev pub is_multiple : ℕ → ℤ → Bool
is_multiple p v = unsigned_abs v % p == 0

-- A value divided by p, which is exact where it is a multiple of p.
abbrev pub number_of : ℕ → ℤ → ℤ
number_of p v = int_div v (pos p)

-- A number of w bits in two's complement.
abbrev pub in_bits : ℕ → ℤ → Bool
in_bits w n = int_le (neg_ℤ (pos (2 ^ (w - 1)))) n && int_lt n (pos (2 ^ (w - 1)))

-- A value is n × p for a number n of w bits.
abbrev pub holds : ℕ → ℕ → ℤ → Bool
holds w p v = is_multiple p v && in_bits w (number_of p v)
