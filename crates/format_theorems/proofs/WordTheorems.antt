-- # What writing gives, under all six codes
--
-- A value of the code's format is written, any other is not; the word that is written is one of the code's and has the value. Under codes 2,
-- 3 and 8 no other has, and under code 4 none of a smaller gain; for codes 1 and 5 see `NormalWords` and `IeeeWords`.
use mathlib.Core.Path.{◌≡◌, refl, sym, ap, ◌∙◌, subst}
use mathlib.Core.Bool.{Bool, true, false}
use Prim.Native.Nat.{ℕ, ◌+◌, ◌-◌, ◌*◌, ◌/◌, ◌^◌, ◌≤◌, ◌<◌}
use native.Mathlib.Omega.{arith}
use borrow.Author.Tests.{lt-ltb, ltb-true}
use lib.Dec.{ltb}
use lib.Pow.{pow_pos}
use lib.IntN.{ℤ, nat_abs}
use Rattle.numbers.specs.Iff.{Iff}
use Rattle.numbers.specs.Walk.{pick}
use Rattle.numbers.specs.First.{first}
use Rattle.numbers.specs.TwosComplement.{signed_of, bits_of}
use Rattle.numbers.specs.SignMagnitude.{sign_magnitude, is_negative}
use Rattle.numbers.proofs.FirstLaws.{found, first_le}
use Rattle.numbers.proofs.Magnitudes.{signed_back}
use Rattle.numbers.proofs.Multiples.{held_only}
use Rattle.formats.specs.Format.{unit, fits_at, least_serving, in_format, placed}
use Rattle.formats.specs.Codes.{denominator_power, is_code, ibm_format, whole_format, gain_format, ieee_format, format_of}
use Rattle.formats.specs.Value.{whole_value, gain_value, gain_of, value_in, is_word}
use Rattle.formats.specs.Words.{whole_of, whole_word, gain_fits, gain_word, word_of, Writes}
use Rattle.formats.specs.declared.Placed.{Placed}
use Rattle.std.specs.Prelude.{Option, Some, None}
use Rattle.formats.specs.Written.{Word, Refused}
use Rattle.formats.proofs.PlacedLaws.{no_zero_one, Place, served, value_in_format, placed_is, placed_some}
use Rattle.formats.proofs.WordLaws.{float_some}
use Rattle.formats.proofs.CodeLaws.{Code, ibm, whole32, whole16, gain, ieee, whole8, code_is}
use Rattle.format_theorems.proofs.IeeeWords.{single_sound}
use Rattle.format_theorems.proofs.OneFit.{good_word, bits_of_lem, whole_value_lem, gain_value_lem, gain_serves, gain_fields, gain_word_value, gain_good, ieee_good, word_in, one_fit}
use Rattle.format_theorems.proofs.NormalWords.{normal_written}

-- ## Codes 2, 3 and 8

-- what is written comes of a place
whole_is : (w : ℕ) (v : ℤ) (n : ℕ) → whole_word w v ≡ Word n → (c f : ℕ) × Place (whole_format w) v c f × (n ≡ bits_of w (sign_magnitude (is_negative v) f))
whole_is w v n h = go (placed (whole_format w) v) refl h
  where
    go : (r : Option Placed) → placed (whole_format w) v ≡ r → whole_of w (is_negative v) r ≡ Word n → (c f : ℕ) × Place (whole_format w) v c f × (n ≡ bits_of w (sign_magnitude (is_negative v) f))
    go (Some p) e q =
        let i : n ≡ bits_of w (sign_magnitude (is_negative v) p.fraction) = cc in
        (p.characteristic, p.fraction, placed_is (whole_format w) v p.characteristic p.fraction e, i)
    go None e q = let z : ◌≡◌ {A = ℕ} 0 1 = cc in absurd (no_zero_one z)

-- it has the value
whole_says : (w : ℕ) (v : ℤ) (n : ℕ) → 0 < w → whole_word w v ≡ Word n → (n < 2 ^ w) × (whole_value (signed_of w n) ≡ v)
whole_says w v n h e =
    let t = whole_is w v n e in
    let s = is_negative v in
    let p = t.2 in
    let b = bits_of_lem w s t.1 h p.fits in
    (rw t.3 b.fit, ap (λ (k : ℕ). whole_value (signed_of w k)) t.3 ∙ ap whole_value b.back ∙ whole_value_lem s t.1 t.0 p.below ∙ ap (sign_magnitude s) (sym p.is) ∙ signed_back v)

-- and a value of the format is written
whole_some : (w : ℕ) (v : ℤ) → in_format (whole_format w) v ≡ true → Writes (whole_word w v)
whole_some w v e = (bits_of w (sign_magnitude (is_negative v) (nat_abs v / unit (whole_format w) (least_serving (whole_format w) v))), ap (whole_of w (is_negative v)) (placed_some (whole_format w) v e))

-- THEOREM. The word of a whole number is the only one of its value.
pub whole_only : (w : ℕ) (v : ℤ) (n k : ℕ) → 0 < w → whole_word w v ≡ Word n → k < 2 ^ w → whole_value (signed_of w k) ≡ v → k ≡ n
whole_only w v n k h e l q = let t = whole_says w v n h e in held_only w (2 ^ denominator_power) k n h (pow_pos denominator_power) l t.0 (q ∙ sym t.1)

-- ## Code 4

-- what is written is the word of the first gain that serves
module _ (v : ℤ) where
  abbrev least : ℕ
  least = first (gain_fits v) 256 0

  abbrev bits : ℕ
  bits = bits_of 16 (sign_magnitude (is_negative v) (nat_abs v / unit gain_format (255 - least)))

  gain_is : (n : ℕ) → gain_word v ≡ Word n → (least < 256) × (n ≡ least * 2 ^ 16 + bits)
  gain_is n e = go (ltb least 256) refl e
    where
      go : (b : Bool) → ltb least 256 ≡ b → pick b (Word (least * 2 ^ 16 + bits)) (Refused 14) ≡ Word n → (least < 256) × (n ≡ least * 2 ^ 16 + bits)
      go true h q = let i : n ≡ least * 2 ^ 16 + bits = cc in (ltb-true least 256 h, i)
      go false h q = let z : ◌≡◌ {A = ℕ} 0 1 = cc in absurd (no_zero_one z)

  -- it has the value
  pub gain_says : (n : ℕ) → gain_word v ≡ Word n → (n < 2 ^ 24) × (gain_of n ≡ least) × (value_in 4 n ≡ v)
  gain_says n e =
      let t = gain_is n e in
      let s = is_negative v in
      let f = nat_abs v / unit gain_format (255 - least) in
      let u = served gain_format v (255 - least) ((found (gain_fits v) 256 0).passes (omega (arith, t.0))) in
      let b = bits_of_lem 16 s f (omega arith) u.1 in
      let k = gain_fields least bits t.0 b.fit in (
        rw t.1 k.fit,
        ap gain_of t.1 ∙ k.gain,
        ap (value_in 4) t.1 ∙ gain_word_value least bits t.0 b.fit ∙ ap (gain_value least) b.back ∙ gain_value_lem least s f t.0 ∙ ap (sign_magnitude s) (sym u.0) ∙ signed_back v,
      )

  -- a gain that serves is not passed over
  pub gain_found : (k : ℕ) → gain_fits v k ≡ true → least ≤ k
  gain_found k e = first_le (gain_fits v) 256 0 k (omega arith) e

  -- so a value of the format is written
  gain_some : in_format gain_format v ≡ true → Writes (gain_word v)
  gain_some h =
      let c = least_serving gain_format v in
      let b : c < 256 = ltb-true c 256 h in
      let s : fits_at gain_format v c ≡ true = (found (fits_at gain_format v) 256 0).passes (omega arith) in
      let e : c ≡ 255 - (255 - c) = omega arith in
      let l : least ≤ 255 - c = gain_found (255 - c) (subst (λ (z : ℕ). fits_at gain_format v z ≡ true) e s) in
      (least * 2 ^ 16 + bits, rw (lt-ltb least 256 (omega arith)))

-- THEOREM. Code 4: no word of the value has a smaller gain than the word that is written.
pub gain_least : (v : ℤ) (n : ℕ) → gain_word v ≡ Word n → (g d : ℕ) → g < 256 → d < 2 ^ 16 → gain_value g (signed_of 16 d) ≡ v → gain_of n ≤ g
gain_least v n e g d h l q = rw (gain_says v n e).1 (gain_found v g (subst (λ (z : ℤ). gain_fits z g ≡ true) q (gain_serves g d h l)))

-- ## All codes

-- THEOREM. The word that is written is one of the code's, and has the value.
pub word_sound : (code : ℕ) (v : ℤ) (n : ℕ) → is_code code ≡ true → word_of code v ≡ Word n → (is_word code n ≡ true) × (value_in code n ≡ v)
word_sound code v n h = go code (code_is code h)
  where
    go : (code : ℕ) → Code code → word_of code v ≡ Word n → (is_word code n ≡ true) × (value_in code n ≡ v)
    go code ibm e = let t = normal_written v n e in (good_word 1 n t.fit refl, t.value)
    go code whole32 e = let t = whole_says 32 v n (omega arith) e in (good_word 2 n t.0 refl, t.1)
    go code whole16 e = let t = whole_says 16 v n (omega arith) e in (good_word 3 n t.0 refl, t.1)
    go code gain e = let t = gain_says v n e in (gain_good n t.0, t.2)
    go code ieee e = let t = single_sound v n e in (ieee_good n t.fit t.finite, t.value)
    go code whole8 e = let t = whole_says 8 v n (omega arith) e in (good_word 8 n t.0 refl, t.1)

-- THEOREM. A value of the code's format is written.
pub word_complete : (code : ℕ) (v : ℤ) → is_code code ≡ true → in_format (format_of code) v ≡ true → Writes (word_of code v)
word_complete code v h = go code (code_is code h)
  where
    go : (code : ℕ) → Code code → in_format (format_of code) v ≡ true → Writes (word_of code v)
    go code ibm e = float_some ibm_format 32 24 v e
    go code whole32 e = whole_some 32 v e
    go code whole16 e = whole_some 16 v e
    go code gain e = gain_some v e
    go code ieee e = float_some (ieee_format 8 23) 32 23 v e
    go code whole8 e = whole_some 8 v e

-- THEOREM. A value that is written is one of the code's format.
pub word_in_format : (code : ℕ) (v : ℤ) (n : ℕ) → is_code code ≡ true → word_of code v ≡ Word n → in_format (format_of code) v ≡ true
word_in_format code v n h e = let t = word_sound code v n h e in (one_fit code v h).1 (record { word = n; good = t.0; value = t.1 })

-- THEOREM. So a value is in the code's format exactly when it is written.
pub word_fits : (code : ℕ) (v : ℤ) → is_code code ≡ true → Iff (in_format (format_of code) v ≡ true) (Writes (word_of code v))
word_fits code v h = (word_complete code v h, λ t. word_in_format code v t.0 h t.1)

-- THEOREM. The value of each word of a code is written under the code.
pub worded_writes : (code n : ℕ) → is_code code ≡ true → is_word code n ≡ true → Writes (word_of code (value_in code n))
worded_writes code n h g = word_complete code (value_in code n) h (value_in_format (format_of code) (value_in code n) (word_in code n h g))
