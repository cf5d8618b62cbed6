-- The exponent of a canonical pair, which is e + 280 for its value, and the pairs with an odd mantissa. Assumes nothing.
use mathlib.Core.Path.{◌≡◌, refl}
use mathlib.Core.Bool.{true, ◌&&◌}
use Prim.Native.Nat.{ℕ, suc, ◌+◌, ◌-◌, ◌%◌, ◌^◌, ◌≤◌}
use native.Mathlib.Omega.{arith}
use borrow.Author.Tests.{leb-true, le-leb}
use lib.Dec.{leb, eqb}
use lib.IntN.{ℤ, pos, negsuc, nat_abs, ◌+ℤ◌}
use Rattle.numbers.proofs.SignLaws.{sub_above}
use Rattle.numbers.proofs.BoolLaws.{and_true, or_true}
use Rattle.formats.specs.Codes.{denominator_power}
use Rattle.value.specs.Pair.{highest_exponent, mantissa_bits, is_exponent, is_canonical}
use Rattle.value.specs.declared.Pair.{Pair}

-- the largest e + 280
abbrev pub highest : ℕ
highest = denominator_power + highest_exponent

-- e + 280, for an e within its limits
pub record Shifted (e : ℤ) (k : ℕ) : Type 0 where
  pub is : e +ℤ pos denominator_power ≡ pos k
  pub low : k ≤ highest

pub shifted : (e : ℤ) → is_exponent e ≡ true → (k : ℕ) × Shifted e k
shifted (pos n) h = let l = leb-true n highest_exponent h in (n + denominator_power, record { is = refl; low = omega arith })
shifted (negsuc n) h =
    let l = leb-true n (denominator_power - 1) (and_true (leb n (denominator_power - 1)) true h).0 in
    (denominator_power - suc n, record { is = sub_above denominator_power (suc n) (omega arith); low = omega arith })

-- a pair with an odd mantissa and an exponent within its limits is canonical
pub odd_yes : (p : Pair) → nat_abs p.m % 2 ≡ 1 → nat_abs p.m ≤ 2 ^ (mantissa_bits - 1) - 1 → is_exponent p.e ≡ true → is_canonical p ≡ true
odd_yes p o b l =
    rw (l, o, le-leb (nat_abs p.m) (2 ^ (mantissa_bits - 1) - 1) b) (or_true (eqb (nat_abs p.e) 0 && eqb (nat_abs p.m) 0))
