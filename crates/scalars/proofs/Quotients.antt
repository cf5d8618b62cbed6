-- Products with a power of ten, by sign and magnitude, and their quotients. Assumes nothing.
use mathlib.Core.Path.{◌≡◌, sym, ap, ◌∙◌}
use mathlib.Core.Bool.{Bool}
use Prim.Native.Nat.{ℕ, ◌+◌, ◌-◌, ◌*◌, ◌^◌, ◌<◌}
use native.Mathlib.Nat.{mul-div_cancel, mul-mod_left}
use lib.Dec.{ltb}
use lib.IntN.{ℤ, pos, nat_abs, ◌*ℤ◌}
use Rattle.numbers.specs.Walk.{pick}
use Rattle.numbers.specs.SignMagnitude.{sign_magnitude, is_negative, number_of, holds}
use Rattle.numbers.proofs.Magnitudes.{abs_signed, signed_back, signed_mul, signed_quot, in_bits_lem}

-- a number times p, by its sign and magnitude
pub signed_times : (p : ℕ) (n : ℤ) → n *ℤ pos p ≡ sign_magnitude (is_negative n) (nat_abs n * p)
signed_times p n = ap (λ (z : ℤ). z *ℤ pos p) (sym (signed_back n)) ∙ signed_mul (is_negative n) (nat_abs n) p

-- the quotient of x × p is x
pub quot_signed : (s : Bool) (x p : ℕ) → 0 < p → number_of p (sign_magnitude s (x * p)) ≡ sign_magnitude s x
quot_signed s x p h = signed_quot s (x * p) p ∙ ap (sign_magnitude s) (mul-div_cancel x h)

-- and whether x × p is held depends on x alone
pub holds_signed : (s : Bool) (w x p : ℕ) → 0 < p → holds w p (sign_magnitude s (x * p)) ≡ ltb x (2 ^ (w - 1) + pick s 1 0)
holds_signed s w x p h = rw (quot_signed s x p h, abs_signed s (x * p), mul-mod_left x p) (in_bits_lem w s x)
