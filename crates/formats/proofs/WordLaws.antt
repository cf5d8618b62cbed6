-- The words of a value that is placed. Assumes nothing.
use mathlib.Core.Path.{◌≡◌, refl, ap}
use mathlib.Core.Bool.{Bool, true, false, ◌&&◌}
use Prim.Native.Nat.{ℕ, ◌+◌, ◌-◌, ◌*◌, ◌/◌, ◌^◌, ◌≤◌, ◌<◌}
use native.Mathlib.Nat.{mul-le-mul_right}
use native.Mathlib.Omega.{arith}
use lib.Pow.{pow_mono}
use lib.IntN.{ℤ, nat_abs}
use Rattle.numbers.specs.Walk.{pick}
use Rattle.numbers.specs.SignMagnitude.{is_negative}
use Rattle.formats.specs.Format.{unit, limit, in_format, least_serving, placed}
use Rattle.std.specs.Prelude.{Option, Some, None}
use Rattle.formats.specs.Steps.{Sound, Float}
use Rattle.numbers.specs.First.{first}
use lib.Dec.{eqb, ltb}
use Rattle.formats.specs.Codes.{ibm_format, whole_format, ieee_format}
use Rattle.formats.specs.Words.{float_bits, float_of, float_word, whole_of, whole_word, gain_fits, gain_at, word_of}
use Rattle.formats.specs.declared.Format.{Format}
use Rattle.formats.specs.declared.Placed.{Placed}
use Rattle.formats.specs.Written.{Written, Word, Refused}
use Rattle.formats.proofs.PlacedLaws.{Place, placed_is, placed_some}

-- characteristic and fraction leave the sign bit free
pub room_for : (x : Format) (w y : ℕ) (v : ℤ) (c f : ℕ) → Float x w y → Place x v c f → c * 2 ^ y + f < 2 ^ (w - 1)
room_for x w y v c f t p =
    let a : c * 2 ^ y ≤ (x.characteristics - 1) * 2 ^ y = mul-le-mul_right (2 ^ y) (let z : c ≤ x.characteristics - 1 = omega (arith, p.below) in z) in
    let l : limit x (is_negative v) ≡ 2 ^ x.fraction + 0 = ap (λ (b : Bool). 2 ^ x.fraction + pick (b && is_negative v) 1 0) t.even in
    omega (arith, t.room, p.fits)

-- the magnitude of a whole number of w bits
pub whole_sound : (w : ℕ) → 0 < w → w ≤ 32 → Sound (whole_format w)
whole_sound w p h = record { steps = omega arith; few = omega arith; some = omega arith; near = omega arith }

pub whole_few : (w : ℕ) (v : ℤ) (c f : ℕ) → Place (whole_format w) v c f → f ≤ 2 ^ w
whole_few w v c f p = go (is_negative v) p.fits
  where
    up : (w : ℕ) → 2 ^ (w - 1) ≤ 2 ^ w
    up w = pow_mono (let z : w - 1 ≤ w = omega arith in z)

    go : (s : Bool) → f < 2 ^ (w - 1) + pick (true && s) 1 0 → f ≤ 2 ^ w
    go true h = omega (arith, up w)
    go false h = omega (arith, up w)

-- a refusal is no word
pub no_word : {number n : ℕ} → Refused number ≡ Word n → ⊥
no_word e = let z : ◌≡◌ {A = ℕ} 0 1 = cc in omega arith

-- a word that is written comes of a place, and a value of the format has one
pub float_is : (x : Format) (w y : ℕ) (v : ℤ) (n : ℕ) → float_word x w y v ≡ Word n → (c f : ℕ) × Place x v c f × (n ≡ float_bits w y (is_negative v) c f)
float_is x w y v n h = go (placed x v) refl h
  where
    go : (r : Option Placed) → placed x v ≡ r → float_of w y (is_negative v) r ≡ Word n → (c f : ℕ) × Place x v c f × (n ≡ float_bits w y (is_negative v) c f)
    go (Some p) e q =
        let i : n ≡ float_bits w y (is_negative v) p.characteristic p.fraction = cc in
        (p.characteristic, p.fraction, placed_is x v p.characteristic p.fraction e, i)
    go None e q = absurd (no_word q)

pub float_some : (x : Format) (w y : ℕ) (v : ℤ) → in_format x v ≡ true → (n : ℕ) × (float_word x w y v ≡ Word n)
float_some x w y v h = (float_bits w y (is_negative v) (least_serving x v) (nat_abs v / unit x (least_serving x v)), ap (float_of w y (is_negative v)) (placed_some x v h))

-- ## A word, or 14

-- where there is no word, the number is 14
abbrev pub Only14 : Written → Type 0
Only14 (Word n) = Unit {0}
Only14 (Refused number) = number ≡ 14

-- under every code
pub only_14 : (code : ℕ) (v : ℤ) → Only14 (word_of code v)
only_14 code v =
    either (eqb code 1) _ _ (float ibm_format 24)
    (either (eqb code 2) _ _ (whole 32)
    (either (eqb code 3) _ _ (whole 16)
    (either (eqb code 4) _ _ (gain (first (gain_fits v) 256 0))
    (either (eqb code 5) _ _ (float (ieee_format 8 23) 23) (whole 8)))))
  where
    either : (b : Bool) (x y : Written) → Only14 x → Only14 y → Only14 (pick b x y)
    either true x y p q = p
    either false x y p q = q

    float : (x : Format) (y : ℕ) → Only14 (float_word x 32 y v)
    float x y = go (placed x v)
      where
        go : (r : Option Placed) → Only14 (float_of 32 y (is_negative v) r)
        go (Some p) = tt
        go None = refl

    whole : (w : ℕ) → Only14 (whole_word w v)
    whole w = go (placed (whole_format w) v)
      where
        go : (r : Option Placed) → Only14 (whole_of w (is_negative v) r)
        go (Some p) = tt
        go None = refl

    gain : (g : ℕ) → Only14 (gain_at v g)
    gain g = go (ltb g 256) _
      where
        go : (b : Bool) (n : ℕ) → Only14 (pick b (Word n) (Refused 14))
        go true n = tt
        go false n = refl
