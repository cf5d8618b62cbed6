-- The steps by which a value is placed: the length of its magnitude in bits, and the fraction by one shift. Assumes nothing.
use mathlib.Core.Path.{◌≡◌, sym, ◌∙◌, subst}
use mathlib.Core.Bool.{Bool, true, false, ◌&&◌}
use Prim.Native.Nat.{ℕ, zero, suc, ◌+◌, ◌-◌, ◌*◌, ◌%◌, ◌^◌, ◌≤◌, ◌<◌}
use native.Mathlib.Nat.{mul-le-mul_right, one-mul, zero-mul, pow-suc}
use native.Mathlib.Omega.{arith}
use lib.Count.{count_leading_zeros, leading_top}
use lib.Pow.{pow_mono}
use mir.Val.{bool_byte}
use Rattle.numbers.specs.Walk.{pick}
use Rattle.numbers.specs.SignMagnitude.{sign_magnitude, is_negative}
use Rattle.numbers.proofs.Magnitudes.{abs_signed, neg_signed}
use Rattle.formats.specs.Steps.{Length}
use Rattle.formats.specs.Format.{unit}
use Rattle.formats.specs.declared.Format.{Format}
use Rattle.formats.proofs.Powers.{exponents}
use Rattle.formats.proofs.FitLaws.{place, fraction_at}
use Rattle.formats.proofs.PlacedLaws.{Place}
use Rattle.value.specs.Pair.{mantissa_bits}
use Rattle.value.proofs.Twos.{odd_shl}

-- ## Steps

-- a power of two is not odd but for 1
power_even : (o t : ℕ) → 0 < o → 2 ^ t ≤ 2 * o + 1 → 2 ^ t ≤ 2 * o
power_even o zero some h = omega arith
power_even o (suc t) some h = omega (arith, pow-suc 2 t)

-- the length of a magnitude within its limit, and of one that counts as one bit shorter where it is a power of two
pub length_full : (o : ℕ) → 0 < o → o < 2 ^ (mantissa_bits - 1) → Length 0 o (mantissa_bits - 1 - count_leading_zeros mantissa_bits (2 * o + 1))
length_full o some fits =
    let t = leading_top mantissa_bits (2 * o + 1) (omega arith) (omega arith) in
    let e : mantissa_bits - 1 - count_leading_zeros mantissa_bits (2 * o + 1) ≡ t.0 = omega (arith, t.1) in
    rw e (record { holds = omega (arith, t.3, pow-suc 2 t.0); least = omega (arith, power_even o t.0 some t.2) })

pub length_less : (o : ℕ) → 0 < o → o < 2 ^ (mantissa_bits - 1) → Length 1 o (mantissa_bits - 1 - count_leading_zeros mantissa_bits (2 * o - 1))
length_less o some fits =
    let t = leading_top mantissa_bits (2 * o - 1) (omega arith) (omega arith) in
    let e : mantissa_bits - 1 - count_leading_zeros mantissa_bits (2 * o - 1) ≡ t.0 = omega (arith, t.1) in
    rw e (record { holds = omega (arith, t.3, pow-suc 2 t.0); least = omega (arith, t.2) })

pub length_by : (o : ℕ) (less : Bool) → 0 < o → o < 2 ^ (mantissa_bits - 1)
    → Length (pick less 1 0) o (mantissa_bits - 1 - count_leading_zeros mantissa_bits (2 * o + 1 - 2 * bool_byte less))
length_by o true some fits =
    let e : 2 * o + 1 - 2 * 1 ≡ 2 * o - 1 = omega arith in
    rw e (length_less o some fits)
length_by o false some fits =
    let e : 2 * o + 1 - 2 * 0 ≡ 2 * o + 1 = omega arith in
    rw e (length_full o some fits)

-- a shift that loses nothing is one by fewer bits than there are
pub shift_fits : (o s : ℕ) → 0 < o → o * 2 ^ s < 2 ^ mantissa_bits → s < mantissa_bits
shift_fits o s p h = exponents s mantissa_bits (omega (arith, h, mul-le-mul_right (2 ^ s) p, one-mul (2 ^ s)))

-- a fraction of fewer than 32 bits, one more below zero among them
pub fraction_fits : (f p : ℕ) (b : Bool) → p < 32 → f < 2 ^ p + pick b 1 0 → f < 2 ^ 32
fraction_fits f p true h l = let z : 2 ^ p ≤ 2 ^ 31 = pow_mono {j = 31} (omega arith) in omega arith
fraction_fits f p false h l = let z : 2 ^ p ≤ 2 ^ 31 = pow_mono {j = 31} (omega arith) in omega arith

-- the shift that gives the fraction beside a characteristic that serves ± o × 2 ^ k, u being the power of its last place
pub shift_placed : (x : Format) (s : Bool) (o k : ℕ) → o % 2 ≡ 1 → (n : ℕ) → Length (pick (x.more && s) 1 0) o n → (c u : ℕ) → x.fraction < 32 → u ≡ place x c → u ≤ k → n + k ≤ x.fraction + place x c
    → (k - u < 32) × (o * 2 ^ (k - u) < 2 ^ 32)
shift_placed x s o k odd n length c u few e l h =
    let f : o * 2 ^ (k - u) < 2 ^ 32 =
    subst (λ (y : ℕ). o * 2 ^ (k - y) < 2 ^ 32) (sym e) (fraction_fits _ x.fraction (x.more && s) few (fraction_at x s o k odd n length c (subst (λ (y : ℕ). y ≤ k) e l) h)) in
    (shift_fits o (k - u) (omega (arith, odd)) f, f)

-- the fraction of a value other than zero isn't 0, and the value has the sign it was given
pub fraction_some : (x : Format) (s : Bool) (o k c f : ℕ) → o % 2 ≡ 1 → Place x (sign_magnitude s (o * 2 ^ k)) c f → 0 < f
fraction_some x s o k c zero e p = absurd (none (odd_shl o k e))
  where
    nothing : o * 2 ^ k ≡ 0
    nothing = sym (abs_signed s (o * 2 ^ k)) ∙ p.is ∙ zero-mul (unit x c)

    none : 0 < o * 2 ^ k → ⊥
    none h = omega (arith, nothing)
fraction_some x s o k c (suc f) e p = omega arith

pub odd_sign : (s : Bool) (o k : ℕ) → o % 2 ≡ 1 → is_negative (sign_magnitude s (o * 2 ^ k)) ≡ s
odd_sign s o k e = neg_signed s (o * 2 ^ k) (odd_shl o k e)

-- a magnitude other than 0 is not below its sign's bit
pub signed_some : (s : Bool) {q : ℕ} → 0 < q → pick s 1 0 ≤ q
signed_some true h = omega arith
signed_some false h = omega arith
