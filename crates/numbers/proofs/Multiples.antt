-- Quotients: values that are a whole number of p's, and those that are a number of w bits times p. Assumes nothing.
use Rattle.std.proofs.Common.{◌≡◌, ℕ, suc, ◌+◌, ◌-◌, ◌*◌, ◌/◌, ◌%◌, ◌^◌, ◌<◌, true, ◌&&◌, leb, ℤ, pos, negsuc, ◌*ℤ◌, nat_abs, sym, ap, ◌∙◌, add-zero, div-add-mod', mul-div_cancel, arith, ltb-true, lt-ltb, eqb-true, le-leb, leb-true}
use native.Mathlib.Nat.{mul-mod_left}
use lib.Pow.{suc_ones}
use lib.Signed.{mag, le_z, lt_z}
use Rattle.numbers.specs.TwosComplement.{signed_of, bits_of}
use Rattle.numbers.proofs.BoolLaws.{and_true}
use Rattle.numbers.proofs.SignLaws.{signed_bits, bits_signed, bits_lt, mag_signed}
use Rattle.numbers.specs.SignMagnitude.{sign_magnitude, is_negative, is_multiple, number_of, in_bits, holds}
use Rattle.numbers.proofs.Magnitudes.{abs_signed, signed_back, signed_mul, signed_quot}

-- a multiple of p is its quotient times p
pub quot_mul : (p : ℕ) (v : ℤ) → is_multiple p v ≡ true → number_of p v *ℤ pos p ≡ v
quot_mul p v e =
    let a = nat_abs v in
    let s = is_negative v in
    let whole : a / p * p ≡ a = sym (add-zero _) ∙ ap (λ (x : ℕ). a / p * p + x) (sym (eqb-true (a % p) 0 e)) ∙ div-add-mod' a p in
    ap (λ (z : ℤ). number_of p z *ℤ pos p) (sym (signed_back v)) ∙ ap (λ (z : ℤ). z *ℤ pos p) (signed_quot s a p) ∙ signed_mul s (a / p) p ∙ ap (sign_magnitude s) whole ∙ signed_back v

-- and a product's quotient is the number
pub mul_quot : (p : ℕ) (n : ℤ) → 0 < p → number_of p (n *ℤ pos p) ≡ n
mul_quot p n h =
    let a = nat_abs n in
    let s = is_negative n in
    ap (λ (z : ℤ). number_of p (z *ℤ pos p)) (sym (signed_back n)) ∙ ap (number_of p) (signed_mul s a p) ∙ signed_quot s (a * p) p ∙ ap (sign_magnitude s) (mul-div_cancel a h) ∙ signed_back n

pub mul_multiple : (p : ℕ) (n : ℤ) → is_multiple p (n *ℤ pos p) ≡ true
mul_multiple p n =
    let a = nat_abs n in
    let s = is_negative n in
    let abs : nat_abs (n *ℤ pos p) ≡ a * p = ap (λ (z : ℤ). nat_abs (z *ℤ pos p)) (sym (signed_back n)) ∙ ap nat_abs (signed_mul s a p) ∙ abs_signed s (a * p) in
    rw (abs, mul-mod_left a p)

-- a number of w bits, by its range and by its magnitude
range_mag : (h : ℕ) (n : ℤ) → (le_z (negsuc h) n && lt_z n (pos (suc h))) ≡ true → mag n < suc h
range_mag h (pos n) e = ltb-true n (suc h) e
range_mag h (negsuc n) e = let l = leb-true n h (and_true (leb n h) true e).0 in omega arith

mag_range : (h : ℕ) (n : ℤ) → mag n < suc h → (le_z (negsuc h) n && lt_z n (pos (suc h))) ≡ true
mag_range h (pos n) l = lt-ltb n (suc h) l
mag_range h (negsuc n) l = rw (le-leb n h (omega arith))

pub in_mag : (w : ℕ) (n : ℤ) → in_bits w n ≡ true → mag n < 2 ^ (w - 1)
in_mag w n e = rw (← (suc_ones (w - 1))) (range_mag (2 ^ (w - 1) - 1) n (rw (← (suc_ones (w - 1))) at e))

pub mag_in : (w : ℕ) (n : ℤ) → mag n < 2 ^ (w - 1) → in_bits w n ≡ true
mag_in w n l = rw (← (suc_ones (w - 1))) (mag_range (2 ^ (w - 1) - 1) n (rw (← (suc_ones (w - 1))) at l))

-- the bits of a held value stand for its number, which times p is the value
pub held_sound : (w p : ℕ) (v : ℤ) → 0 < w → holds w p v ≡ true → signed_of w (bits_of w (number_of p v)) *ℤ pos p ≡ v
held_sound w p v h e =
    let t = and_true _ _ e in
    ap (λ (z : ℤ). z *ℤ pos p) (signed_bits w (number_of p v) h (in_mag w (number_of p v) t.1)) ∙ quot_mul p v t.0

-- and every number of w bits times p is held
pub held_complete : (w p n : ℕ) → 0 < w → 0 < p → n < 2 ^ w → holds w p (signed_of w n *ℤ pos p) ≡ true
held_complete w p n h l b =
    rw (mul_multiple p (signed_of w n), mul_quot p (signed_of w n) l) (mag_in w (signed_of w n) (mag_signed w n h b))

-- the bits of a held value's number
pub held_lt : (w p : ℕ) (v : ℤ) → 0 < w → holds w p v ≡ true → bits_of w (number_of p v) < 2 ^ w
held_lt w p v h e = bits_lt w (number_of p v) h (in_mag w (number_of p v) (and_true (is_multiple p v) _ e).1)

-- no two numbers of w bits are the same number of p's
pub held_only : (w p x y : ℕ) → 0 < w → 0 < p → x < 2 ^ w → y < 2 ^ w → signed_of w x *ℤ pos p ≡ signed_of w y *ℤ pos p → x ≡ y
held_only w p x y h l a b e =
    let same : signed_of w x ≡ signed_of w y = sym (mul_quot p (signed_of w x) l) ∙ ap (number_of p) e ∙ mul_quot p (signed_of w y) l in
    sym (bits_signed w x h a) ∙ ap (bits_of w) same ∙ bits_signed w y h b
