-- # One statement of fit
--
-- For each of the six codes, a value is in the code's format just when some word of the code has it.
use mathlib.Core.Path.{◌≡◌, refl, sym, ap, ◌∙◌, subst}
use mathlib.Core.Bool.{Bool, true, false, not}
use Prim.Native.Nat.{ℕ, zero, suc, ◌+◌, ◌-◌, ◌*◌, ◌^◌, ◌<◌}
use native.Mathlib.Omega.{arith}
use borrow.Author.Tests.{lt-ltb, le-leb, lt-leb, ltb-true, not-true, not-false}
use lib.Dec.{ltb}
use lib.Pow.{pow_pos}
use lib.IntN.{ℤ, pos, negsuc, nat_abs}
use lib.Signed.{mag}
use Rattle.numbers.specs.Iff.{Iff}
use Rattle.numbers.specs.Walk.{pick}
use Rattle.numbers.specs.TwosComplement.{signed_of, bits_of}
use Rattle.numbers.specs.SignMagnitude.{sign_magnitude, is_negative}
use Rattle.numbers.specs.Terms.{Among}
use Rattle.numbers.proofs.BoolLaws.{and_true, among_is, is_among_lem}
use Rattle.numbers.proofs.SignLaws.{signed_bits, bits_lt, mag_signed}
use Rattle.numbers.proofs.Magnitudes.{signed_back, signed_mul}
use Rattle.formats.specs.Format.{Value, unit, limit, in_format}
use Rattle.formats.specs.Codes.{denominator_power, codes, sample_bytes, is_code, ibm_format, whole_format, gain_format, ieee_format, format_of}
use Rattle.formats.specs.declared.Format.{Format}
use mathlib.Core.List.{[], ◌∷◌}
use Rattle.formats.specs.Value.{sign_bit, characteristic, fraction, ibm_value, whole_value, gain_value, gain_of, gain_number, is_finite, value_in, is_bad, is_word}
use Rattle.formats.specs.Words.{float_bits, gain_fits}
use Rattle.formats.proofs.PlacedLaws.{serves_value, in_format_value, value_in_format}
use Rattle.formats.proofs.CodeLaws.{Code, ibm, whole32, whole16, gain, ieee, whole8, code_is}
use Rattle.formats.proofs.WordLaws.{float_some}
use Rattle.format_theorems.specs.Statements.{HasNumber}
use Rattle.format_theorems.proofs.IeeeWords.{single_value, single_sound}

-- a word of a code: of its width, and not bad
pub good_word : (code n : ℕ) → n < 256 ^ sample_bytes code → is_bad code n ≡ false → is_word code n ≡ true
good_word code n h b = rw (lt-ltb n (256 ^ sample_bytes code) h, b)

word_is : (code n : ℕ) → is_word code n ≡ true → (n < 256 ^ sample_bytes code) × (is_bad code n ≡ false)
word_is code n e = let t = and_true (ltb n (256 ^ sample_bytes code)) (not (is_bad code n)) e in (ltb-true n (256 ^ sample_bytes code) t.0, not-true (is_bad code n) t.1)

-- ## Code 1

-- a word and its three parts
pub record IbmFields (s : Bool) (c f n : ℕ) : Type 0 where
  pub fit : n < 2 ^ 32
  pub sign : sign_bit n ≡ s
  pub middle : characteristic n ≡ c
  pub low : fraction n ≡ f

pub ibm_fields : (s : Bool) (c f : ℕ) → c < 128 → f < 2 ^ 24 → IbmFields s c f (float_bits 32 24 s c f)
ibm_fields true c f h l = record { fit = omega arith; sign = le-leb (2 ^ 31) (2 ^ 31 + (c * 2 ^ 24 + f)) (omega arith); middle = omega arith; low = omega arith }
ibm_fields false c f h l = record { fit = omega arith; sign = lt-leb (2 ^ 31) (0 + (c * 2 ^ 24 + f)) (omega arith); middle = omega arith; low = omega arith }

-- the value of its parts
pub ibm_value_lem : (s : Bool) (c f : ℕ) → c < 128 → f < 2 ^ 24 → ibm_value (float_bits 32 24 s c f) ≡ sign_magnitude s (f * unit ibm_format c)
ibm_value_lem s c f h l = let p = ibm_fields s c f h l in rw (p.sign, p.middle, p.low)

-- a value of the format has a word, and a word has one of its values
ibm_has : (v : ℤ) → Value ibm_format v → HasNumber 1 v
ibm_has v t =
    let small : t.f < 2 ^ 24 = omega (arith, t.fits) in
    let n = float_bits 32 24 t.sign t.c t.f in
    record {
      word = n;
      good = good_word 1 n (ibm_fields t.sign t.c t.f t.below small).fit refl;
      value = ibm_value_lem t.sign t.c t.f t.below small ∙ sym t.is;
    }

pub ibm_in : (n : ℕ) → Value ibm_format (ibm_value n)
ibm_in n = record { sign = sign_bit n; c = characteristic n; f = fraction n; below = omega arith; fits = omega arith; is = refl }

-- ## Two's complement

-- the magnitudes of w bits, and the bits of a sign and a magnitude
few_abs : (w : ℕ) (z : ℤ) → mag z < 2 ^ (w - 1) → nat_abs z < 2 ^ (w - 1) + pick (is_negative z) 1 0
few_abs w (pos n) h = omega arith
few_abs w (negsuc n) h = omega arith

few_mag : (w : ℕ) (s : Bool) (f : ℕ) → f < 2 ^ (w - 1) + pick s 1 0 → mag (sign_magnitude s f) < 2 ^ (w - 1)
few_mag w false f h = omega arith
few_mag w true zero h = pow_pos (w - 1)
few_mag w true (suc f) h = omega arith

pub record BitsOf (w : ℕ) (z : ℤ) : Type 0 where
  pub fit : bits_of w z < 2 ^ w
  pub back : signed_of w (bits_of w z) ≡ z

pub bits_of_lem : (w : ℕ) (s : Bool) (f : ℕ) → 0 < w → f < 2 ^ (w - 1) + pick s 1 0 → BitsOf w (sign_magnitude s f)
bits_of_lem w s f p h = let m = few_mag w s f h in record { fit = bits_lt w (sign_magnitude s f) p m; back = signed_bits w (sign_magnitude s f) p m }

-- ## Codes 2, 3 and 8

-- a whole number has one characteristic
whole_power : (c : ℕ) → c < 1 → denominator_power ≡ denominator_power + 1 * c
whole_power c h = omega arith

pub whole_value_lem : (s : Bool) (f c : ℕ) → c < 1 → whole_value (sign_magnitude s f) ≡ sign_magnitude s (f * 2 ^ (denominator_power + 1 * c))
whole_value_lem s f c h = signed_mul s f (2 ^ denominator_power) ∙ ap (λ (k : ℕ). sign_magnitude s (f * 2 ^ k)) (whole_power c h)

-- a word has a value of the format, and such a value has a word
whole_in_lem : (w n : ℕ) → 0 < w → n < 2 ^ w → Value (whole_format w) (whole_value (signed_of w n))
whole_in_lem w n p h =
    let z = signed_of w n in
    record {
      sign = is_negative z;
      c = 0;
      f = nat_abs z;
      below = omega arith;
      fits = few_abs w z (mag_signed w n p h);
      is = ap whole_value (sym (signed_back z)) ∙ whole_value_lem (is_negative z) (nat_abs z) 0 (omega arith);
    }

whole_has : (w : ℕ) (v : ℤ) → 0 < w → Value (whole_format w) v → (n : ℕ) × (n < 2 ^ w) × (whole_value (signed_of w n) ≡ v)
whole_has w v p t =
    let b = bits_of_lem w t.sign t.f p t.fits in
    (bits_of w (sign_magnitude t.sign t.f), b.fit, ap whole_value b.back ∙ whole_value_lem t.sign t.f t.c t.below ∙ sym t.is)

-- ## Code 4

-- the characteristic of a gain
gain_power : (g : ℕ) → g < 256 → denominator_power - g ≡ gain_format.base + 1 * (255 - g)
gain_power g h = omega arith

pub gain_value_lem : (g : ℕ) (s : Bool) (f : ℕ) → g < 256 → gain_value g (sign_magnitude s f) ≡ sign_magnitude s (f * unit gain_format (255 - g))
gain_value_lem g s f h = signed_mul s f (2 ^ (denominator_power - g)) ∙ ap (λ (k : ℕ). sign_magnitude s (f * 2 ^ k)) (gain_power g h)

-- a gain and a number of 16 bits
module _ (g d : ℕ) (h : g < 256) (l : d < 2 ^ 16) where
  abbrev z : ℤ
  z = signed_of 16 d

  -- its value is one of the format's, and the gain serves it
  few : nat_abs z < limit gain_format (is_negative z)
  few = few_abs 16 z (mag_signed 16 d (omega arith) l)

  is : gain_value g z ≡ sign_magnitude (is_negative z) (nat_abs z * unit gain_format (255 - g))
  is = ap (gain_value g) (sym (signed_back z)) ∙ gain_value_lem g (is_negative z) (nat_abs z) h

  gain_in : Value gain_format (gain_value g z)
  gain_in = record { sign = is_negative z; c = 255 - g; f = nat_abs z; below = omega arith; fits = few; is = is }

  pub gain_serves : gain_fits (gain_value g z) g ≡ true
  gain_serves = rw is (serves_value gain_format (is_negative z) (nat_abs z) (255 - g) few)

-- a word of a gain and a number of 16 bits
pub record GainFields (g d n : ℕ) : Type 0 where
  pub fit : n < 2 ^ 24
  pub gain : gain_of n ≡ g
  pub low : gain_number n ≡ d

pub gain_fields : (g d : ℕ) → g < 256 → d < 2 ^ 16 → GainFields g d (g * 2 ^ 16 + d)
gain_fields g d h l = record { fit = omega arith; gain = omega arith; low = omega arith }

pub gain_word_value : (g d : ℕ) → g < 256 → d < 2 ^ 16 → value_in 4 (g * 2 ^ 16 + d) ≡ gain_value g (signed_of 16 d)
gain_word_value g d h l = let p = gain_fields g d h l in rw (p.gain, p.low)

-- it is a word of code 4
pub gain_good : (n : ℕ) → n < 2 ^ 24 → is_word 4 n ≡ true
gain_good n h = good_word 4 n (omega arith) (rw (lt-ltb n (2 ^ 24) h))

-- and a value of the format has one
gain_has : (v : ℤ) → Value gain_format v → HasNumber 4 v
gain_has v t =
    let g = 255 - t.c in
    let b = bits_of_lem 16 t.sign t.f (omega arith) t.fits in
    let d = bits_of 16 (sign_magnitude t.sign t.f) in
    let h : g < 256 = omega arith in
    let back : 255 - g ≡ t.c = omega (arith, t.below) in
    record {
      word = g * 2 ^ 16 + d;
      good = gain_good (g * 2 ^ 16 + d) (gain_fields g d h b.fit).fit;
      value = gain_word_value g d h b.fit ∙ ap (gain_value g) b.back ∙ gain_value_lem g t.sign t.f h ∙ ap (λ (c : ℕ). sign_magnitude t.sign (t.f * unit gain_format c)) back ∙ sym t.is;
    }

-- ## Code 5

-- a finite word is one of code 5, and a value of the format has one
pub ieee_good : (n : ℕ) → n < 2 ^ 32 → is_finite 8 23 n ≡ true → is_word 5 n ≡ true
ieee_good n h f = good_word 5 n h (rw f)

ieee_has : (v : ℤ) → in_format (ieee_format 8 23) v ≡ true → HasNumber 5 v
ieee_has v e =
    let t = float_some (ieee_format 8 23) 32 23 v e in
    let s = single_sound v t.0 t.1 in
    record { word = t.0; good = ieee_good t.0 s.fit s.finite; value = s.value }

-- ## All codes

-- a value of a code's format has a word
has_word : (code : ℕ) (v : ℤ) → is_code code ≡ true → in_format (format_of code) v ≡ true → HasNumber code v
has_word code v k = go code (code_is code k)
  where
    whole : (w code : ℕ) → 0 < w → in_format (whole_format w) v ≡ true → ((n : ℕ) → n < 2 ^ w → is_word code n ≡ true) → ((n : ℕ) → value_in code n ≡ whole_value (signed_of w n)) → HasNumber code v
    whole w code p e good is = let t = whole_has w v p (in_format_value (whole_format w) v e) in record { word = t.0; good = good t.0 t.1; value = is t.0 ∙ t.2 }

    go : (code : ℕ) → Code code → in_format (format_of code) v ≡ true → HasNumber code v
    go code ibm e = ibm_has v (in_format_value ibm_format v e)
    go code whole32 e = whole 32 2 (omega arith) e (λ n h. good_word 2 n h refl) (λ n. refl)
    go code whole16 e = whole 16 3 (omega arith) e (λ n h. good_word 3 n h refl) (λ n. refl)
    go code gain e = gain_has v (in_format_value gain_format v e)
    go code ieee e = ieee_has v e
    go code whole8 e = whole 8 8 (omega arith) e (λ n h. good_word 8 n h refl) (λ n. refl)

-- THEOREM. The value of a word of a code is one of the code's format.
pub word_in : (code n : ℕ) → is_code code ≡ true → is_word code n ≡ true → Value (format_of code) (value_in code n)
word_in code n k = go code (code_is code k)
  where
    go : (code : ℕ) → Code code → is_word code n ≡ true → Value (format_of code) (value_in code n)
    go code ibm e = ibm_in n
    go code whole32 e = whole_in_lem 32 n (omega arith) (word_is 2 n e).0
    go code whole16 e = whole_in_lem 16 n (omega arith) (word_is 3 n e).0
    go code gain e = gain_in (gain_of n) (gain_number n) (omega arith) (omega arith)
    go code ieee e = single_value n (not-false (is_finite 8 23 n) (word_is 5 n e).1)
    go code whole8 e = whole_in_lem 8 n (omega arith) (word_is 8 n e).0

-- THEOREM. A value is one of a format exactly when it is ± f × 2 ^ (b + r × c) for a characteristic and a fraction of the format.
pub in_format_lem : (x : Format) (v : ℤ) → Iff (in_format x v ≡ true) (Value x v)
in_format_lem x v = (in_format_value x v, value_in_format x v)

-- THEOREM. The codes are these six, and no others.
pub codes_are : (code : ℕ) → Iff (is_code code ≡ true) (Among code (1 ∷ 2 ∷ 3 ∷ 4 ∷ 5 ∷ 8 ∷ []))
codes_are code = (among_is code codes, is_among_lem code codes)

-- THEOREM. A value is in the format of a code exactly when some word of the code has it.
pub one_fit : (code : ℕ) (v : ℤ) → is_code code ≡ true → Iff (in_format (format_of code) v ≡ true) (HasNumber code v)
one_fit code v k = (has_word code v k, λ t. value_in_format (format_of code) v (subst (Value (format_of code)) t.value (word_in code t.word k t.good)))
