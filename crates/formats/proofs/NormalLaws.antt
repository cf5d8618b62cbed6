-- What it is for an IBM word to be normal, by its fraction and its characteristic. Assumes nothing.
use mathlib.Core.Path.{◌≡◌, sym, ap, ◌∙◌}
use mathlib.Core.Logic.{⊎_elim}
use mathlib.Core.Bool.{Bool, not, ◌||◌}
use Prim.Native.Nat.{ℕ, ◌+◌, ◌*◌, ◌^◌, ◌≤◌, ◌<◌}
use native.Mathlib.Nat.{zero-mul, mul-one, mul-le-mul_left}
use native.Mathlib.Omega.{arith}
use borrow.Author.Tests.{eq-eqb, ne_eqb}
use lib.Dec.{eqb}
use lib.Pow.{pow_pos}
use lib.IntN.{nat_abs}
use Rattle.numbers.specs.Walk.{pick}
use Rattle.numbers.proofs.SignLaws.{below_or}
use Rattle.numbers.proofs.Magnitudes.{abs_signed}
use Rattle.formats.specs.Format.{unit}
use Rattle.formats.specs.Codes.{ibm_format}
use Rattle.formats.specs.Value.{sign_bit, characteristic, fraction, ibm_value}
use Rattle.formats.specs.Words.{first_digit, is_normal}

-- the magnitude of a word's value
pub abs_value : (n : ℕ) → nat_abs (ibm_value n) ≡ fraction n * unit ibm_format (characteristic n)
abs_value n = abs_signed (sign_bit n) (fraction n * unit ibm_format (characteristic n))

-- a product that is 0 has no fraction
no_fraction : (k f : ℕ) → f * 2 ^ k ≡ 0 → f ≡ 0
no_fraction k f e = let l : f ≤ f * 2 ^ k = rw mul-one at (mul-le-mul_left f (pow_pos k)) in omega arith

-- the first hexadecimal digit of F isn't 0 where F is 2 ^ 20 or more
pub large : (n : ℕ) → 2 ^ 20 ≤ fraction n → first_digit n ≡ 0 → ⊥
large n l d = omega arith

-- a word's value is zero where its fraction is, and only there
pub zero_fraction : (n : ℕ) → eqb (nat_abs (ibm_value n)) 0 ≡ eqb (fraction n) 0
zero_fraction n =
    ap (λ (x : ℕ). eqb x 0) (abs_value n)
    ∙ ⊎_elim (λ (l : fraction n < 1). none (omega (arith, l))) (λ (l : 1 ≤ fraction n). some (λ e. omega (arith, l, e))) (below_or (fraction n) 1)
  where
    u : ℕ
    u = unit ibm_format (characteristic n)

    none : fraction n ≡ 0 → eqb (fraction n * u) 0 ≡ eqb (fraction n) 0
    none e = eq-eqb (fraction n * u) 0 (ap (λ (x : ℕ). x * u) e ∙ zero-mul u) ∙ sym (eq-eqb (fraction n) 0 e)

    some : (fraction n ≡ 0 → ⊥) → eqb (fraction n * u) 0 ≡ eqb (fraction n) 0
    some h = ne_eqb (fraction n * u) 0 (λ e. h (no_fraction (ibm_format.base + ibm_format.digit * characteristic n) (fraction n) e)) ∙ sym (ne_eqb (fraction n) 0 h)

-- LAW. To be normal is a matter of the fraction and the characteristic.
pub normal_tests : (n : ℕ) → is_normal n ≡ pick (eqb (fraction n) 0) (eqb n 0) (not (eqb (first_digit n) 0) || eqb (characteristic n) 0)
unfolding is_normal
normal_tests n = ap (λ (b : Bool). pick b (eqb n 0) (not (eqb (first_digit n) 0) || eqb (characteristic n) 0)) (zero_fraction n)
