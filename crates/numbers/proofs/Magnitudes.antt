-- Sign and magnitude: the number of each, its quotient and its range in two's complement. Assumes nothing.
use Rattle.std.proofs.Common.{◌≡◌, ℕ, zero, suc, ◌+◌, ◌-◌, ◌*◌, ◌/◌, ◌^◌, ◌<◌, ◌≤◌, Bool, true, false, ◌&&◌, ltb, leb, ℤ, pos, negsuc, ◌*ℤ◌, neg_ℤ, nat_abs, refl, ⊎_elim, add-zero, zero-mul, arith, SFits, le-ltb, lt-ltb, le-leb}
use native.Mathlib.Nat.{zero-div}
use borrow.Author.Tests.{lt-leb}
use lib.Pow.{suc_ones}
use lib.Signed.{le_z, lt_z}
use mir.Syntax.{Width}
use mir.Val.{hbits}
use Rattle.numbers.specs.Walk.{pick}
use Rattle.numbers.specs.TwosComplement.{signed_of, bits_of}
use Rattle.numbers.proofs.SignLaws.{below_or, sub_below}
use Rattle.numbers.specs.SignMagnitude.{sign_magnitude, is_negative, number_of, in_bits}

pub neg_signed : (s : Bool) (a : ℕ) → 0 < a → is_negative (sign_magnitude s a) ≡ s
neg_signed false a p = refl
neg_signed true zero p = absurd (none p)
  where
    none : 0 < 0 → ⊥
    none p = omega arith
neg_signed true (suc a) p = refl

pub abs_signed : (s : Bool) (a : ℕ) → nat_abs (sign_magnitude s a) ≡ a
abs_signed false a = refl
abs_signed true zero = refl
abs_signed true (suc a) = refl

pub signed_back : (v : ℤ) → sign_magnitude (is_negative v) (nat_abs v) ≡ v
signed_back (pos n) = refl
signed_back (negsuc n) = refl

-- zero has no sign
pub signed_zero : (s : Bool) → sign_magnitude s 0 ≡ pos 0
signed_zero false = refl
signed_zero true = refl

-- a signed magnitude times a natural, and divided by one
pub signed_mul : (s : Bool) (a b : ℕ) → sign_magnitude s a *ℤ pos b ≡ sign_magnitude s (a * b)
signed_mul false a b = refl
signed_mul true zero b = rw (zero-mul b)
signed_mul true (suc a) b = refl

pub signed_quot : (s : Bool) (a p : ℕ) → number_of p (sign_magnitude s a) ≡ sign_magnitude s (a / p)
signed_quot false a p = refl
signed_quot true zero p = rw zero-div
signed_quot true (suc a) p = refl

-- a signed magnitude fits a signed width
pub sfits_signed : (w : Width) (s : Bool) (a : ℕ) → a < 2 ^ hbits w → SFits w (sign_magnitude s a)
sfits_signed w false a h = record { sfits = h }
sfits_signed w true zero h = record { sfits = h }
sfits_signed w true (suc a) h = record { sfits = omega arith }

-- the magnitudes of w bits: below 2 ^ (w - 1), and 2 ^ (w - 1) itself where the sign is set
in_range : (s : Bool) (h q : ℕ) → (le_z (neg_ℤ (pos (suc h))) (sign_magnitude s q) && lt_z (sign_magnitude s q) (pos (suc h))) ≡ ltb q (suc h + pick s 1 0)
in_range false h q = rw add-zero
in_range true h zero = rw (lt-ltb 0 (suc h) (omega arith), lt-ltb 0 (suc h + 1) (omega arith))
in_range true h (suc n) =
    ⊎_elim (λ (p : h < n). rw (lt-leb n h p, le-ltb (suc n) (suc h + 1) (omega arith)))
    (λ (p : n ≤ h). rw (le-leb n h p, lt-ltb (suc n) (suc h + 1) (omega arith))) (below_or h n)

pub in_bits_lem : (w : ℕ) (s : Bool) (q : ℕ) → in_bits w (sign_magnitude s q) ≡ ltb q (2 ^ (w - 1) + pick s 1 0)
in_bits_lem w s q = rw (← (suc_ones (w - 1))) (in_range s (2 ^ (w - 1) - 1) q)

-- the sign and the magnitude of a two's complement number
pub signed_word : (w n : ℕ) → n < 2 ^ w → signed_of w n ≡ sign_magnitude (leb (2 ^ (w - 1)) n) (nat_abs (signed_of w n))
signed_word w n h =
    ⊎_elim (λ (p : n < 2 ^ (w - 1)). rw (lt-ltb n (2 ^ (w - 1)) p, lt-leb (2 ^ (w - 1)) n p))
    (λ (p : 2 ^ (w - 1) ≤ n). rw (le-ltb n (2 ^ (w - 1)) p, le-leb (2 ^ (w - 1)) n p, sub_below n (2 ^ w) h)) (below_or n (2 ^ (w - 1)))

pub abs_high : (w n : ℕ) → n < 2 ^ w → 2 ^ (w - 1) ≤ n → nat_abs (signed_of w n) ≡ 2 ^ w - n
abs_high w n h p = rw (le-ltb n (2 ^ (w - 1)) p, sub_below n (2 ^ w) h) (omega arith)

pub abs_low : (w n : ℕ) → n < 2 ^ (w - 1) → nat_abs (signed_of w n) ≡ n
abs_low w n p = rw (lt-ltb n (2 ^ (w - 1)) p)

-- the bits of a signed magnitude
pub bits_signed_neg : (w q : ℕ) → 0 < q → bits_of w (sign_magnitude true q) ≡ 2 ^ w - q
bits_signed_neg w zero h = absurd (none h)
  where
    none : 0 < 0 → ⊥
    none p = omega arith
bits_signed_neg w (suc q) h = refl
