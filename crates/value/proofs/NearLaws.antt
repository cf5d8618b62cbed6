-- A place of the nearest value: how it is found, and the word that it gives under each kind of format. Assumes nothing.
use mathlib.Core.Path.{◌≡◌, refl, sym, ap, ap₂, ◌∙◌, subst}
use mathlib.Core.Logic.{◌⊎◌, inl, inr, ⊎_elim}
use mathlib.Core.Bool.{Bool, true, false, not, ◌&&◌}
use Prim.Native.Nat.{ℕ, zero, suc, ◌+◌, ◌-◌, ◌*◌, ◌/◌, ◌%◌, ◌^◌, ◌≤◌, ◌<◌, min}
use native.Mathlib.Nat.{zero-mul, mul-pos, mul-div_cancel, mul-le-mul_right}
use native.Mathlib.Omega.{arith}
use borrow.Author.Tests.{lt-ltb, ne_eqb}
use lib.Dec.{eqb}
use lib.IntN.{ℤ, nat_abs}
use lib.Pow.{pow_pos}
use Rattle.numbers.specs.Walk.{pick}
use Rattle.numbers.specs.TwosComplement.{bits_of}
use Rattle.numbers.specs.SignMagnitude.{sign_magnitude, is_negative}
use Rattle.numbers.proofs.SignLaws.{below_or}
use Rattle.numbers.proofs.Magnitudes.{neg_signed, abs_signed, signed_zero}
use Rattle.numbers.proofs.FirstLaws.{first_at}
use Rattle.formats.specs.Codes.{denominator_power, whole_format}
use Rattle.formats.specs.Format.{unit, limit, fits_at, beside, placed_at, placed}
use Rattle.formats.specs.Steps.{Float, Length, Lowest}
use Rattle.formats.specs.Words.{float_bits, float_of, float_word, whole_of, whole_word, word_bits}
use Rattle.formats.specs.Nearest.{nearest_multiple, nearest_magnitude, nearest_in, changes_in}
use Rattle.formats.specs.declared.Format.{Format}
use Rattle.formats.specs.declared.Placed.{Placed}
use Rattle.formats.specs.Written.{Written, Word}
use Rattle.std.specs.Prelude.{Option, Some}
use Rattle.formats.proofs.FitLaws.{place, fraction_at}
use Rattle.formats.proofs.PlacedLaws.{serves_value, placed_normal, placed_only, placed_is}
use Rattle.formats.proofs.Powers.{parted}
use Rattle.formats.proofs.NearestLaws.{ShortDigits, step, step_fits, under_limit}
use Rattle.formats.proofs.FitLaws as fits
use Rattle.formats.proofs.NearestSteps.{nearest_signed, magnitude_end, changes_end, magnitude_own, changes_exact, changes_rounded, rounded_few, rounded_large, magnitude_inner, magnitude_last}
use Rattle.value.specs.Parts.{NearPlace}
use Rattle.value.specs.Writing.{rounded_by, rounded}
use Rattle.value.specs.declared.Rounded.{Rounded}
use Rattle.value.specs.declared.rounding.RoundedPlace.{RoundedPlace}

-- ## How it is found

module _ (x : Format) (ok : ShortDigits x) (s : Bool) (o k : ℕ) (odd : o % 2 ≡ 1) (n : ℕ) (length : Length (pick (x.more && s) 1 0) o n) (c : ℕ) (low : Lowest (n + k) (x.fraction + x.base) x.digit c) where
  some_limit : 0 < limit x s
  some_limit = omega (arith, pow_pos x.fraction)

  -- the largest fraction of a sign is not below the first number of a characteristic
  most_large : 2 ^ (x.fraction - x.digit) ≤ limit x s - 1
  most_large = omega (arith, step_fits x ok)

  -- the end
  pub near_end : x.characteristics - 1 < c → (f : ℕ) → f ≡ limit x s - 1 → NearPlace x s (o * 2 ^ k) (record { place = beside (x.characteristics - 1) f; changed = true })
  near_end h f e =
      record {
        is = ap (λ (y : ℕ). y * unit x (x.characteristics - 1)) e ∙ sym (magnitude_end x ok s o k odd n length c low h);
        below = omega (arith, ok.some);
        fits = omega (arith, e, some_limit);
        normal = inr (omega (arith, e, most_large));
        changes = sym (changes_end x ok s o k odd n length c low h);
      }

  -- the value itself
  pub near_exact : c < x.characteristics → place x c ≤ k → (f : ℕ) → f ≡ o * 2 ^ (k - place x c) → NearPlace x s (o * 2 ^ k) (record { place = beside c f; changed = false })
  near_exact h l f e =
      record {
        is = ap (λ (y : ℕ). y * unit x c) e ∙ sym (parted o k (place x c) l) ∙ sym (magnitude_own x ok s o k odd n length c low h l);
        below = h;
        fits = subst (λ (y : ℕ). y < limit x s) (sym e) (fraction_at x s o k odd n length c l (omega (arith, low.enough)));
        normal = subst (λ (y : ℕ). (c ≡ 0) ⊎ (2 ^ (x.fraction - x.digit) ≤ y)) (sym e) (placed_normal x (sign_magnitude s (o * 2 ^ k)) c (o * 2 ^ (k - place x c)) ok.small (placed_is x (sign_magnitude s (o * 2 ^ k)) c (o * 2 ^ (k - place x c)) (fits.placed_at_lem x s o k odd n length c low h l)));
        changes = sym (changes_exact x ok s o k odd n length c low h l);
      }

  -- f last places of c are the nearest multiple
  module _ (h : k < place x c) (f : ℕ) (is : f * unit x c ≡ nearest_multiple (unit x c) (o * 2 ^ k)) where
    changed : 1 ≡ changes_in x (sign_magnitude s (o * 2 ^ k))
    changed = sym (changes_rounded x ok s o k odd n length c low h)

    large : (c ≡ 0) ⊎ (2 ^ (x.fraction - x.digit) ≤ f)
    large = rounded_large x ok s o k odd n length c low h f is

    -- beside the last characteristic, no more than the largest fraction
    pub near_last : c ≡ x.characteristics - 1 → (g : ℕ) → g ≡ min f (limit x s - 1) → NearPlace x s (o * 2 ^ k) (record { place = beside c g; changed = true })
    near_last m g e =
        record {
          is = ap (λ (y : ℕ). y * unit x c) e ∙ sym (magnitude_last x ok s o k odd n length c low h f is m);
          below = omega (arith, ok.some);
          fits = omega (arith, e, some_limit);
          normal = ⊎_elim (λ (z : c ≡ 0). inl z) (λ (z : 2 ^ (x.fraction - x.digit) ≤ f). inr (omega (arith, e, most_large))) large;
          changes = changed;
        }

    -- beside another, the first number of the next, or this fraction
    module _ (m : c < x.characteristics - 1) where
      is_near : f * unit x c ≡ nearest_magnitude x s (o * 2 ^ k)
      is_near = sym (magnitude_inner x ok s o k odd n length c low h f is m)

      pub near_next : f ≡ 2 ^ x.fraction → (g : ℕ) → g ≡ 2 ^ (x.fraction - x.digit) → NearPlace x s (o * 2 ^ k) (record { place = beside (c + 1) g; changed = true })
      near_next e g d =
          let up : c + 1 ≡ suc c = omega arith in
          record {
            is = ap₂ (λ (y i : ℕ). y * unit x i) d up ∙ sym (step x ok c) ∙ ap (λ (y : ℕ). y * unit x c) (sym e) ∙ is_near;
            below = omega arith;
            fits = subst (λ (y : ℕ). y < limit x s) (sym d) (under_limit x ok s _ (step_fits x ok));
            normal = inr (omega (arith, d));
            changes = changed;
          }

      pub near_inner : (f ≡ 2 ^ x.fraction → ⊥) → NearPlace x s (o * 2 ^ k) (record { place = beside c f; changed = true })
      near_inner e =
          record {
            is = is_near;
            below = omega arith;
            fits = under_limit x ok s f (below (rounded_few x ok s o k odd n length c low h f is) e);
            normal = large;
            changes = changed;
          }
        where
          below : f ≤ 2 ^ x.fraction → (f ≡ 2 ^ x.fraction → ⊥) → f < 2 ^ x.fraction
          below l e = ⊎_elim (λ (z : f < 2 ^ x.fraction). z) (λ (z : 2 ^ x.fraction ≤ f). absurd (e (omega arith))) (below_or f (2 ^ x.fraction))

-- ## Its word

-- what is handed over of a word and a change
pub as_rounded : (word : ℤ → Written) (x : Format) (v : ℤ) (r : Rounded) → r.bits ≡ word_bits (word (nearest_in x v)) → pick r.changed 1 0 ≡ changes_in x v → rounded r ≡ rounded_by word x v
as_rounded word x v r e d = ap₂ (λ (i j : ℕ). record { bits = i; changed = j }) e d

module _ (x : Format) (s : Bool) (a : ℕ) (some : 0 < a) (r : RoundedPlace) (near : NearPlace x s a r) where
  -- the nearest value by its place
  pub near_value : nearest_in x (sign_magnitude s a) ≡ sign_magnitude s (r.place.fraction * unit x r.place.characteristic)
  near_value = nearest_signed x s a some ∙ ap (sign_magnitude s) (sym near.is)

  -- its sign
  near_sign : is_negative (sign_magnitude s (r.place.fraction * unit x r.place.characteristic)) ≡ (s && not (eqb r.place.fraction 0))
  near_sign = go r.place.fraction
    where
      go : (f : ℕ) → is_negative (sign_magnitude s (f * unit x r.place.characteristic)) ≡ (s && not (eqb f 0))
      go zero = rw (zero-mul (unit x r.place.characteristic), signed_zero s) (none s)
        where
          none : (s : Bool) → false ≡ (s && false)
          none true = refl
          none false = refl
      go (suc f) = neg_signed s (suc f * unit x r.place.characteristic) (mul-pos (let z : 0 < suc f = omega arith in z) (pow_pos (x.base + x.digit * r.place.characteristic))) ∙ rw (ne_eqb (suc f) 0 (λ e. no e)) (all s)
        where
          no : suc f ≡ 0 → ⊥
          no e = omega arith

          all : (s : Bool) → s ≡ (s && true)
          all true = refl
          all false = refl

  size : nat_abs (sign_magnitude s (r.place.fraction * unit x r.place.characteristic)) ≡ r.place.fraction * unit x r.place.characteristic
  size = abs_signed s (r.place.fraction * unit x r.place.characteristic)

  few : x.more ≡ false → r.place.fraction < 2 ^ x.fraction
  few even = go x.more even near.fits
    where
      go : (m : Bool) → m ≡ false → r.place.fraction < 2 ^ x.fraction + pick (m && s) 1 0 → r.place.fraction < 2 ^ x.fraction
      go false e l = omega arith
      go true e l = let z : ◌≡◌ {A = ℕ} 0 1 = cc in omega arith

  -- characteristic and fraction leave the sign bit free
  pub near_room : (w y : ℕ) → Float x w y → r.place.characteristic * 2 ^ y + r.place.fraction < 2 ^ (w - 1)
  near_room w y t =
      let a : r.place.characteristic * 2 ^ y ≤ (x.characteristics - 1) * 2 ^ y = mul-le-mul_right (2 ^ y) (let z : r.place.characteristic ≤ x.characteristics - 1 = omega (arith, near.below) in z) in
      omega (arith, a, t.room, few t.even)

  -- LAW. In a format of sign and magnitude it is the place of exact writing.
  pub near_float : (w y : ℕ) → x.more ≡ false → x.digit ≤ x.fraction
      → float_word x w y (nearest_in x (sign_magnitude s a)) ≡ Word (float_bits w y (s && not (eqb r.place.fraction 0)) r.place.characteristic r.place.fraction)
  near_float w y even small =
      ap (float_word x w y) near_value
      ∙ ap₂ (float_of w y) near_sign (placed_only x (sign_magnitude s (r.place.fraction * unit x r.place.characteristic)) r.place.characteristic r.place.fraction even small near.below (few even) size near.normal)

  -- LAW. With one characteristic as well.
  pub near_first : r.place.characteristic ≡ 0 → placed x (sign_magnitude s (r.place.fraction * unit x r.place.characteristic)) ≡ Some (beside 0 r.place.fraction)
  near_first e =
      ap (placed_at x v) (first_at (fits_at x v) x.characteristics 0 0 (omega arith) (omega (arith, near.below)) here (λ i z l. absurd (none i l)))
      ∙ rw (lt-ltb 0 x.characteristics (omega (arith, near.below))) (ap (λ (f : ℕ). Some (beside 0 f)) (ap (λ (y : ℕ). y / unit x 0) size ∙ ap (λ (c : ℕ). r.place.fraction * unit x c / unit x 0) e ∙ mul-div_cancel r.place.fraction (pow_pos (x.base + x.digit * 0))))
    where
      v : ℤ
      v = sign_magnitude s (r.place.fraction * unit x r.place.characteristic)

      none : (i : ℕ) → i < 0 → ⊥
      none i l = omega arith

      here : fits_at x v 0 ≡ true
      here = subst (λ (c : ℕ). fits_at x (sign_magnitude s (r.place.fraction * unit x r.place.characteristic)) c ≡ true) e (serves_value x s r.place.fraction r.place.characteristic near.fits)

-- the word of a whole number of w bits
pub near_whole : (w : ℕ) (s : Bool) (a : ℕ) → 0 < a → (r : RoundedPlace) → NearPlace (whole_format w) s a r
    → word_bits (whole_word w (nearest_in (whole_format w) (sign_magnitude s a))) ≡ bits_of w (sign_magnitude s r.place.fraction)
near_whole w s a some r near =
    ap (λ (v : ℤ). word_bits (whole_word w v)) (near_value (whole_format w) s a some r near)
    ∙ ap (λ (p : Option Placed). word_bits (whole_of w (is_negative v) p)) (near_first (whole_format w) s a some r near (omega (arith, near.below)))
    ∙ ap (bits_of w) (back r.place.fraction)
  where
    v : ℤ
    v = sign_magnitude s (r.place.fraction * unit (whole_format w) r.place.characteristic)

    -- a number other than 0 has the sign of its value
    back : (f : ℕ) → sign_magnitude (is_negative (sign_magnitude s (f * unit (whole_format w) r.place.characteristic))) f ≡ sign_magnitude s f
    back zero = signed_zero (is_negative (sign_magnitude s (0 * unit (whole_format w) r.place.characteristic))) ∙ sym (signed_zero s)
    back (suc f) = ap (λ (b : Bool). sign_magnitude b (suc f)) (neg_signed s (suc f * unit (whole_format w) r.place.characteristic) (mul-pos (let z : 0 < suc f = omega arith in z) (pow_pos (denominator_power + 1 * r.place.characteristic))))

-- a magnitude of 0 has no sign
other : (f : ℕ) → eqb (suc f) 0 ≡ false
other f = ne_eqb (suc f) 0 (λ e. no e)
  where
    no : suc f ≡ 0 → ⊥
    no e = omega arith

pub signed_by : (s : Bool) (f : ℕ) → sign_magnitude (s && not (eqb f 0)) f ≡ sign_magnitude s f
signed_by true zero = refl
signed_by true (suc f) = rw (other f)
signed_by false f = refl

pub signed_low : (s : Bool) (f : ℕ) → pick (s && not (eqb f 0)) 1 0 ≤ f
signed_low true zero = omega arith
signed_low true (suc f) = rw (other f) (omega arith)
signed_low false f = omega arith

pub signed_high : (s : Bool) (f n : ℕ) → 0 < n → f < n + pick s 1 0 → f < n + pick (s && not (eqb f 0)) 1 0
signed_high true zero n p h = omega arith
signed_high true (suc f) n p h = rw (other f) h
signed_high false f n p h = h
