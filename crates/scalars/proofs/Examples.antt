-- Worked examples, by computing the definitions. Assumes nothing.
use mathlib.Core.Path.{◌≡◌, refl}
use mathlib.Core.Bool.{true, false}
use mathlib.Core.List.{List, [], ◌∷◌}
use Prim.Native.Nat.{◌-◌, ◌^◌}
use lib.IntN.{ℤ, pos, neg_ℤ}
use lib.ListN.{replicate}
use Rattle.numbers.specs.TwosComplement.{bits_of}
use Rattle.numbers.specs.First.{first}
use Rattle.scalars.specs.Scalar.{power_of, scalar_of, scaled_values, smallest, group_numbers, group_scalar, is_smallest}

-- What a record holds of the numbers ns under a scalar.
record Holds (scalar : ℤ) (ns : List ℤ) (held : ℤ) (ms : List ℤ) : Type 0 where
  scalar_is : group_scalar (scaled_values scalar ns) ≡ held
  numbers_are : group_numbers (scaled_values scalar ns) ≡ ms

-- 1,000 under -10 and 10,000 under -100 are both 100.0000.
tenths : Holds (neg_ℤ (pos 10)) (pos 1000 ∷ []) (neg_ℤ (pos 10000)) (pos 1000000 ∷ [])
unfolding power_of scalar_of smallest first group_numbers group_scalar
tenths = record { scalar_is = refl; numbers_are = refl }

hundredths : Holds (neg_ℤ (pos 100)) (pos 10000 ∷ []) (neg_ℤ (pos 10000)) (pos 1000000 ∷ [])
unfolding power_of scalar_of smallest first group_numbers group_scalar
hundredths = record { scalar_is = refl; numbers_are = refl }

-- The largest and the least number of 32 signed bits stay as they are, whatever stands beside them: here under 1 and under 10,000.
largest_stays : Holds (pos 1) (pos (2 ^ 31 - 1) ∷ pos 5 ∷ []) (pos 1) (pos (2 ^ 31 - 1) ∷ pos 5 ∷ [])
unfolding power_of scalar_of smallest first group_numbers group_scalar
largest_stays = record { scalar_is = refl; numbers_are = refl }

least_stays : Holds (pos 10000) (pos 5 ∷ neg_ℤ (pos (2 ^ 31)) ∷ []) (pos 10000) (pos 5 ∷ neg_ℤ (pos (2 ^ 31)) ∷ [])
unfolding power_of scalar_of smallest first group_numbers group_scalar
least_stays = record { scalar_is = refl; numbers_are = refl }

-- 214,748,364 takes one zero, 214,748,365 none;
one_zero_more : Holds (pos 10) (pos 214748364 ∷ []) (pos 1) (pos 2147483640 ∷ [])
unfolding power_of scalar_of smallest first group_numbers group_scalar
one_zero_more = record { scalar_is = refl; numbers_are = refl }

no_zero_more : Holds (pos 10) (pos 214748365 ∷ []) (pos 10) (pos 214748365 ∷ [])
unfolding power_of scalar_of smallest first group_numbers group_scalar
no_zero_more = record { scalar_is = refl; numbers_are = refl }

-- below zero the same; and -2,147,483,640 under 1 is the other spelling of -214,748,364 under 10.
other_spelling : Holds (pos 1) (neg_ℤ (pos 2147483640) ∷ []) (pos 1) (neg_ℤ (pos 2147483640) ∷ [])
unfolding power_of scalar_of smallest first group_numbers group_scalar
other_spelling = record { scalar_is = refl; numbers_are = refl }

one_zero : Holds (pos 10) (neg_ℤ (pos 214748364) ∷ []) (pos 1) (neg_ℤ (pos 2147483640) ∷ [])
unfolding power_of scalar_of smallest first group_numbers group_scalar
one_zero = record { scalar_is = refl; numbers_are = refl }

no_zero_lem : Holds (pos 10) (neg_ℤ (pos 214748365) ∷ []) (pos 10) (neg_ℤ (pos 214748365) ∷ [])
unfolding power_of scalar_of smallest first group_numbers group_scalar
no_zero_lem = record { scalar_is = refl; numbers_are = refl }

-- Of mixed magnitudes the largest decides: beside 300,000,000, 7 takes no zero; beside 30,000,000 it takes one.
mixed : Holds (pos 10) (pos 7 ∷ neg_ℤ (pos 300000000) ∷ pos 0 ∷ []) (pos 10) (pos 7 ∷ neg_ℤ (pos 300000000) ∷ pos 0 ∷ [])
unfolding power_of scalar_of smallest first group_numbers group_scalar
mixed = record { scalar_is = refl; numbers_are = refl }

mixed_one_zero : Holds (pos 10) (pos 7 ∷ neg_ℤ (pos 30000000) ∷ pos 0 ∷ []) (pos 1) (pos 70 ∷ neg_ℤ (pos 300000000) ∷ pos 0 ∷ [])
unfolding power_of scalar_of smallest first group_numbers group_scalar
mixed_one_zero = record { scalar_is = refl; numbers_are = refl }

-- 5 under 10,000.
five : Holds (pos 10000) (pos 5 ∷ []) (neg_ℤ (pos 10000)) (pos 500000000 ∷ [])
unfolding power_of scalar_of smallest first group_numbers group_scalar
five = record { scalar_is = refl; numbers_are = refl }

-- A header all 0: the bytes D8 F0 in field 69, and so in 71.
zeros : Holds (pos 0) (replicate 7 (pos 0)) (neg_ℤ (pos 10000)) (replicate 7 (pos 0))
unfolding power_of scalar_of smallest first group_numbers group_scalar
zeros = record { scalar_is = refl; numbers_are = refl }

zeros_bits : bits_of 16 (group_scalar (scaled_values (pos 0) (replicate 7 (pos 0)))) ≡ 0xd8f0
unfolding power_of scalar_of smallest first group_scalar
zeros_bits = refl

-- In a record: 0, -1 and 7 are the scalar of no power; 1 is that of 2 ^ 31 - 1, and not that of 5.
earlier : is_smallest (pos (2 ^ 31 - 1) ∷ []) (pos 0) ≡ false
unfolding power_of scalar_of smallest first group_scalar is_smallest
earlier = refl

minus_one : is_smallest (pos (2 ^ 31 - 1) ∷ []) (neg_ℤ (pos 1)) ≡ false
unfolding power_of scalar_of smallest first group_scalar is_smallest
minus_one = refl

seven : is_smallest (pos (2 ^ 31 - 1) ∷ []) (pos 7) ≡ false
unfolding power_of scalar_of smallest first group_scalar is_smallest
seven = refl

plain : is_smallest (pos (2 ^ 31 - 1) ∷ []) (pos 1) ≡ true
unfolding power_of scalar_of smallest first group_scalar is_smallest
plain = refl

not_smallest : is_smallest (pos 5 ∷ []) (pos 1) ≡ false
unfolding power_of scalar_of smallest first group_scalar is_smallest
not_smallest = refl
