-- Elevations and coordinates with their scalars, as document 02 sets them (CR 2): "positive multiplies, negative divides, 0 is taken as 1".
-- A group is document 02's term for the fields of a trace header that one scalar acts on: of one trace, each trace by itself.
use Rattle.std.specs.Prelude.{ℕ, ◌+◌, ◌-◌, ◌^◌, Bool, true, false, ◌&&◌, List, [], ◌∷◌, map, ltb, eqb, ℤ, pos, negsuc, neg_ℤ, nat_abs, ◌*ℤ◌}
use Rattle.numbers.specs.Walk.{pick, is_among}
use Rattle.numbers.specs.First.{first}
use Rattle.numbers.specs.SignMagnitude.{number_of, holds}
use Rattle.scalars.specs.declared.Scale.{Scale}

-- ## Scalars and powers

-- "Allowed are 0, 1, -1, and plus or minus 10, 100, 1,000 and 10,000."
abbrev pub is_allowed : ℤ → Bool
is_allowed z = is_among (nat_abs z) (0 ∷ 1 ∷ 10 ∷ 100 ∷ 1000 ∷ 10000 ∷ [])

-- The powers of ten from -4 to 4 are counted from 0 to 8 here: the power q stands for 10 to the power q - 4.
abbrev pub powers : ℕ
powers = 9

-- So 4 stands for the power 0, at which a number counts as it is.
abbrev pub power_zero : ℕ
power_zero = 4

-- The zeros of 10, 100, 1,000 and 10,000; 1 and 0 have none, and every other number is taken like them.
abbrev pub zeros_in : ℕ → ℕ
zeros_in n = pick (eqb n 10) 1 (pick (eqb n 100) 2 (pick (eqb n 1000) 3 (pick (eqb n 10000) 4 0)))

-- The power of a scalar: a positive one multiplies, a negative one divides, 0 is taken as 1. So is a scalar that isn't allowed; a reel or a
-- record that has one is refused.
unfoldable pub power_of : ℤ → ℕ
power_of (pos n) = power_zero + zeros_in n
power_of (negsuc n) = power_zero - zeros_in (1 + n)

-- The scalar of a power from 0 to 8: "-10000 to 10000, power 0 as 1".
unfoldable pub scalar_of : ℕ → ℤ
scalar_of q = pick (ltb q power_zero) (neg_ℤ (pos (10 ^ (power_zero - q)))) (pos (10 ^ (q - power_zero)))

-- ## Scaled values

-- Numbers times a power of ten. A scaled value is held as a whole number V: it is V / 10,000, so the number n at the power q, which is
-- n × 10 ^ (q - 4), has V = n × 10 ^ q.
abbrev pub scaled_by : ℕ → List ℤ → List ℤ
scaled_by q ns = map (λ n. n *ℤ pos (10 ^ q)) ns

-- The scaled values of the numbers of a group under a scalar, as whole numbers over 10,000.
abbrev pub scaled_values : ℤ → List ℤ → List ℤ
scaled_values scalar ns = scaled_by (power_of scalar) ns

-- ## The smallest power

-- A power serves a group of scaled values, as it is called here, when at it "all its numbers are whole and fit 32 signed bits".
abbrev pub serves : List ℤ → ℕ → Bool
serves [] q = true
serves (v ∷ vs) q = holds 32 (10 ^ q) v && serves vs q

-- "the smallest power of ten from -4 to 4 at which all its numbers are whole and fit 32 signed bits"; 9 where none of the nine serves.
unfoldable pub smallest : List ℤ → ℕ
smallest vs = first (serves vs) powers 0

-- The numbers of a group of scaled values at a power, exact where the power serves.
abbrev pub numbers_at : ℕ → List ℤ → List ℤ
numbers_at q vs = map (number_of (10 ^ q)) vs

-- ## What a record holds of a group of scaled values: its numbers at the smallest power, and the scalar of that power.

unfoldable pub group_numbers : List ℤ → List ℤ
group_numbers vs = numbers_at (smallest vs) vs

unfoldable pub group_scalar : List ℤ → ℤ
group_scalar vs = scalar_of (smallest vs)

-- What takes the numbers of a group under a scalar to the smallest power: as many zeros behind each as the smallest power lies below that of
-- the scalar, and the scalar of the smallest.
unfoldable pub scale_of : List ℤ → ℤ → Scale
scale_of ns scalar =
    record {
      factor = pos (10 ^ (power_of scalar - smallest (scaled_values scalar ns)));
      scalar = group_scalar (scaled_values scalar ns);
    }

-- Two numbers are the same.
abbrev pub same_number : ℤ → ℤ → Bool
same_number (pos m) (pos n) = eqb m n
same_number (negsuc m) (negsuc n) = eqb m n
same_number (pos m) (negsuc n) = false
same_number (negsuc m) (pos n) = false

-- A record's scalar is that of the smallest power of the group that stands under it. In the two bytes of a field, 0, -1 and a scalar that
-- isn't allowed never are.
unfoldable pub is_smallest : List ℤ → ℤ → Bool
is_smallest ns scalar = same_number scalar (group_scalar (scaled_values scalar ns))
