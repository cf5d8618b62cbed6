-- Two's complement at every width: bits and signed numbers determine each other, and -1 - z has z's bits turned over. Assumes nothing.
use Rattle.std.proofs.Common.{◌≡◌, ℕ, zero, suc, ◌+◌, ◌-◌, ◌^◌, ◌<◌, ◌≤◌, true, false, T, ◌⊎◌, ℤ, pos, negsuc, ◌-ℤ◌, nat_abs, sym, refl, ap, ◌∙◌, subst, inl, inr, ⊎_elim, pow-suc, zero-add, arith, w8, w16, w32, w64, Fits, SFits, to_z, of_z, le-ltb, lt-ltb}
use native.Mathlib.Decide.{dec_lt}
use lib.IntN.{sub_ℕ}
use lib.Signed.{lt_z, non_neg, mag}
use mir.Syntax.{Width, w128}
use mir.Val.{bits, hbits}
use mir.ValLaws.{pow-bits}
use mir.Facts.{to_z_pos}
use Rattle.numbers.specs.TwosComplement.{signed_of, bits_of}

-- one of two numbers is below the other, or not
pub below_or : (a b : ℕ) → (a < b) ⊎ (b ≤ a)
below_or a b = go (dec_lt a b)
  where
    go : Dec (a < b) → (a < b) ⊎ (b ≤ a)
    go (yes p) = inl p
    go (no f) = inr (omega arith)

-- a difference of two naturals, below 0 and from 0 on
pub sub_below : (a b : ℕ) → a < b → sub_ℕ a b ≡ negsuc (b - suc a)
sub_below a b h = rw (lt-ltb a b h)

pub sub_above : (a b : ℕ) → b ≤ a → sub_ℕ a b ≡ pos (a - b)
sub_above a b h = rw (le-ltb a b h)

-- a number without a magnitude is 0
pub abs_zero : (z : ℤ) → nat_abs z ≡ 0 → z ≡ pos 0
abs_zero (pos n) e = ap pos e
abs_zero (negsuc n) e = absurd (let n : suc n ≡ 0 = e in omega arith)

-- the definitions are those by which the machine's signed integers work
pub bits_is : (w : Width) (z : ℤ) → of_z w z ≡ bits_of (bits w) z
bits_is w (pos n) = refl
bits_is w (negsuc n) = refl

half_bits : (w : Width) → bits w - 1 ≡ hbits w
half_bits w8 = refl
half_bits w16 = refl
half_bits w32 = refl
half_bits w64 = refl
half_bits w128 = refl

pub signed_is : (w : Width) (n : ℕ) → n < 2 ^ bits w → to_z w n ≡ signed_of (bits w) n
signed_is w n h =
    rw (half_bits w)
    (⊎_elim (λ (p : n < 2 ^ hbits w). rw (lt-ltb n (2 ^ hbits w) p))
    (λ (p : 2 ^ hbits w ≤ n). rw (le-ltb n (2 ^ hbits w) p, sub_below n (2 ^ bits w) h)) (below_or n (2 ^ hbits w)))

-- -1 - z
abbrev pub flip : ℤ → ℤ
flip (pos n) = negsuc n
flip (negsuc n) = pos n

pub minus_one : (z : ℤ) → negsuc 0 -ℤ z ≡ flip z
minus_one (pos zero) = refl
minus_one (pos (suc n)) = ap (λ (x : ℕ). negsuc (suc x)) (zero-add n)
minus_one (negsuc n) = sub_above (suc n) 1 (omega arith) ∙ ap pos (omega arith)

pub sfits_flip : (w : Width) (z : ℤ) → SFits w z → SFits w (flip z)
sfits_flip w (pos n) f = record { sfits = f.sfits }
sfits_flip w (negsuc n) f = record { sfits = f.sfits }

-- a cast of -1 - z, where z is negative, and of z, where it is not
pub record Cast (w : Width) (z : ℤ) : Type 0 where
  pub asks : T (non_neg z) × Fits w (nat_abs z)
  pub small : nat_abs z < 2 ^ hbits w

pub cast_flip : (w : Width) (z : ℤ) → SFits w z → lt_z z (pos 0) ≡ true → Cast w (flip z)
cast_flip w (pos n) f e = absurd (subst T (sym e ∙ le-ltb n 0 (omega arith)) tt)
cast_flip w (negsuc n) f e = record { asks = (tt, record { fits = omega (arith, f, pow-bits w) }); small = f.sfits }

pub cast_pos : (w : Width) (z : ℤ) → SFits w z → lt_z z (pos 0) ≡ false → Cast w z
cast_pos w (pos n) f e = record { asks = (tt, record { fits = omega (arith, f, pow-bits w) }); small = f.sfits }
cast_pos w (negsuc n) f e = absurd (subst T e tt)

-- the bits of a negative number are those of -1 - z turned over, and of any other the number itself
pub bits_neg : (w : Width) (z : ℤ) → lt_z z (pos 0) ≡ true → (2 ^ bits w - 1) - nat_abs (flip z) ≡ bits_of (bits w) z
bits_neg w (pos n) e = absurd (subst T (sym e ∙ le-ltb n 0 (omega arith)) tt)
bits_neg w (negsuc n) e = omega arith

pub bits_pos : (w : Width) (z : ℤ) → lt_z z (pos 0) ≡ false → nat_abs z ≡ bits_of (bits w) z
bits_pos w (pos n) e = refl
bits_pos w (negsuc n) e = absurd (subst T e tt)

to_z_above : (w : Width) (n : ℕ) → 2 ^ hbits w ≤ n → to_z w n ≡ negsuc (2 ^ bits w - suc n)
to_z_above w n h = rw (le-ltb n (2 ^ hbits w) h)

-- -1 - (the bits turned over) is the signed number of the bits
pub signed_flip : (w : Width) (n k : ℕ) → 2 ^ hbits w ≤ n → k < 2 ^ hbits w → k ≡ 2 ^ bits w - suc n → negsuc 0 -ℤ to_z w k ≡ to_z w n
signed_flip w n k h l e = rw (to_z_pos w l, minus_one (pos k), to_z_above w n h, e)

-- a power of two is two halves
pub double : (w : ℕ) → 0 < w → 2 ^ w ≡ 2 ^ (w - 1) + 2 ^ (w - 1)
double w h = let e : w ≡ suc (w - 1) = omega arith in ap (λ (x : ℕ). 2 ^ x) e ∙ omega (arith, pow-suc 2 (w - 1))

-- bits and signed numbers of w bits determine each other
pub bits_signed : (w n : ℕ) → 0 < w → n < 2 ^ w → bits_of w (signed_of w n) ≡ n
bits_signed w n h b =
    ⊎_elim (λ (p : n < 2 ^ (w - 1)). rw (lt-ltb n (2 ^ (w - 1)) p))
    (λ (p : 2 ^ (w - 1) ≤ n). rw (le-ltb n (2 ^ (w - 1)) p, sub_below n (2 ^ w) b) (omega arith)) (below_or n (2 ^ (w - 1)))

pub signed_bits : (w : ℕ) (z : ℤ) → 0 < w → mag z < 2 ^ (w - 1) → signed_of w (bits_of w z) ≡ z
signed_bits w (pos n) h b = rw (lt-ltb n (2 ^ (w - 1)) b)
signed_bits w (negsuc n) h b =
    rw (le-ltb (2 ^ w - suc n) (2 ^ (w - 1)) (omega (arith, double w h)), sub_below (2 ^ w - suc n) (2 ^ w) (omega (arith, double w h))) (ap negsuc (omega (arith, double w h)))

pub bits_lt : (w : ℕ) (z : ℤ) → 0 < w → mag z < 2 ^ (w - 1) → bits_of w z < 2 ^ w
bits_lt w (pos n) h b = omega (arith, double w h)
bits_lt w (negsuc n) h b = omega (arith, double w h)

pub mag_signed : (w n : ℕ) → 0 < w → n < 2 ^ w → mag (signed_of w n) < 2 ^ (w - 1)
mag_signed w n h b =
    ⊎_elim (λ (p : n < 2 ^ (w - 1)). rw (lt-ltb n (2 ^ (w - 1)) p) p)
    (λ (p : 2 ^ (w - 1) ≤ n). rw (le-ltb n (2 ^ (w - 1)) p, sub_below n (2 ^ w) b) (omega (arith, double w h))) (below_or n (2 ^ (w - 1)))
