-- Values are in the order of their words read as sign and magnitude, in any format of sign and magnitude whose words have the characteristic
-- above the fraction. Assumes nothing.
use mathlib.Core.Path.{◌≡◌, refl, sym, ap, ap₂, ◌∙◌, subst}
use mathlib.Core.Logic.{◌⊎◌, ⊎_elim}
use mathlib.Core.Bool.{Bool, true, false, ◌&&◌}
use Prim.Native.Nat.{ℕ, zero, suc, ◌+◌, ◌-◌, ◌*◌, ◌%◌, ◌^◌, ◌≤◌, ◌<◌}
use native.Mathlib.Nat.{le_trans, le_of_eq, lt_of_lt_of_le, mul-le-mul_left, mul-le-mul_right, mul-lt-mul_of_pos_right, mul-suc, suc-mul, zero-mul, mod-eq_of_lt, add-mod_left}
use native.Mathlib.Omega.{arith}
use borrow.Author.Tests.{le-leb, lt-leb}
use lib.Dec.{T, leb}
use lib.Pow.{pow-add, pow_pos, pow_mono}
use lib.IntN.{ℤ, pos, negsuc, nat_abs}
use Rattle.numbers.specs.Walk.{pick}
use Rattle.numbers.specs.SignMagnitude.{sign_magnitude, is_negative}
use Rattle.numbers.proofs.SignLaws.{below_or}
use Rattle.numbers.proofs.Magnitudes.{signed_back}
use Rattle.formats.specs.Format.{unit, limit}
use Rattle.formats.specs.Steps.{Float}
use Rattle.formats.specs.Words.{float_word}
use Rattle.formats.specs.declared.Format.{Format}
use Rattle.formats.specs.Written.{Word}
use Rattle.formats.proofs.PlacedLaws.{placed_normal}
use Rattle.formats.proofs.WordLaws.{float_is, room_for}
use Rattle.exact.specs.Order.{order_n, order_z}
use Rattle.exact.proofs.OrderLaws.{is_less, is_more_lem, order_times, order_by, both_negative, negative_first, negative_last}
use Rattle.order_theorems.specs.SignedWord.{word_signed}

-- ## Signs

negative_some : (v : ℤ) → is_negative v ≡ true → 0 < nat_abs v
negative_some (pos n) e = absurd (subst T (sym e) tt)
negative_some (negsuc n) e = omega arith

-- magnitudes in the same order, with the same signs
signs : (s t : Bool) (a b x y : ℕ) → (s ≡ true → (0 < a) × (0 < x)) → (t ≡ true → (0 < b) × (0 < y)) → order_n a b ≡ order_n x y → order_n b a ≡ order_n y x
    → order_z (sign_magnitude s a) (sign_magnitude t b) ≡ order_z (sign_magnitude s x) (sign_magnitude t y)
signs false false a b x y p q e f = e
signs true true a b x y p q e f =
    let i = p refl in
    let j = q refl in
    sym (both_negative a b i.0 j.0) ∙ f ∙ both_negative x y i.1 j.1
signs true false a b x y p q e f = let i = p refl in sym (negative_first a b i.0) ∙ negative_first x y i.1
signs false true a b x y p q e f = let j = q refl in sym (negative_last a b j.0) ∙ negative_last x y j.1

-- the sign and the magnitude of a word's bits
bits_parts : (s : Bool) (x n m : ℕ) → x < m → n ≡ pick s m 0 + x → (leb m n ≡ s) × (n % m ≡ x)
bits_parts true x n m h e = (le-leb m n (omega arith), ap (λ (k : ℕ). k % m) e ∙ add-mod_left m x ∙ mod-eq_of_lt h)
bits_parts false x n m h e =
    let z : n ≡ x = omega arith in
    (lt-leb m n (omega arith), ap (λ (k : ℕ). k % m) z ∙ mod-eq_of_lt h)

module _ (x : Format) (w y : ℕ) (float : Float x w y) (wide : x.digit ≤ x.fraction) (above : 2 ^ x.fraction ≤ 2 ^ y + 2 ^ (x.fraction - x.digit)) where
  -- ## Places

  -- the characteristic and the fraction of a word that is written
  record Normal (c f : ℕ) : Type 0 where
    small : f < 2 ^ x.fraction
    high : (c ≡ 0) ⊎ (2 ^ (x.fraction - x.digit) ≤ f)

  -- a place with a larger characteristic is the larger value
  unit_step : (c : ℕ) → 2 ^ x.fraction * unit x c ≡ 2 ^ (x.fraction - x.digit) * unit x (suc c)
  unit_step c =
      let r = x.digit in
      let p = x.fraction in
      let a : p + (x.base + r * c) ≡ p - r + (x.base + r * suc c) = omega (arith, mul-suc r c) in
      sym (pow-add 2 p (x.base + r * c)) ∙ ap (λ (k : ℕ). 2 ^ k) a ∙ pow-add 2 (p - r) (x.base + r * suc c)

  larger : (c d f g : ℕ) → f < 2 ^ x.fraction → 2 ^ (x.fraction - x.digit) ≤ g → c < d → f * unit x c < g * unit x d
  larger c d f g small big h =
      let a : f * unit x c < 2 ^ x.fraction * unit x c = mul-lt-mul_of_pos_right small (pow_pos (x.base + x.digit * c)) in
      let i : x.base + x.digit * suc c ≤ x.base + x.digit * d = omega (arith, mul-le-mul_left x.digit h) in
      let b : 2 ^ (x.fraction - x.digit) * unit x (suc c) ≤ 2 ^ (x.fraction - x.digit) * unit x d = mul-le-mul_left (2 ^ (x.fraction - x.digit)) (pow_mono i) in
      let e : 2 ^ (x.fraction - x.digit) * unit x d ≤ g * unit x d = mul-le-mul_right (unit x d) big in
      lt_of_lt_of_le a (le_trans (le_of_eq (unit_step c)) (le_trans b e))

  -- and has the larger word: a fraction reaches over the y lowest bits only as far as each fraction of the next characteristic does
  larger_word : (c d f g : ℕ) → f < 2 ^ x.fraction → 2 ^ (x.fraction - x.digit) ≤ g → c < d → c * 2 ^ y + f < d * 2 ^ y + g
  larger_word c d f g small big h =
      let a : suc c * 2 ^ y ≤ d * 2 ^ y = mul-le-mul_right (2 ^ y) h in
      omega (arith, a, suc-mul c (2 ^ y), above)

  big : (c d f : ℕ) → c < d → Normal d f → 2 ^ (x.fraction - x.digit) ≤ f
  big c d f h n = ⊎_elim (λ (z : d ≡ 0). absurd (none z)) (λ z. z) n.high
    where
      none : d ≡ 0 → ⊥
      none z = omega arith

  -- LAW. Magnitudes are in the order of their words.
  places_order : (c d f g : ℕ) → Normal c f → Normal d g → order_n (f * unit x c) (g * unit x d) ≡ order_n (c * 2 ^ y + f) (d * 2 ^ y + g)
  places_order c d f g n m =
      ⊎_elim
      (λ (h : c < d). sym (is_less _ _ (larger c d f g n.small (big c d g h m) h)) ∙ is_less _ _ (larger_word c d f g n.small (big c d g h m) h))
      (λ (h : d ≤ c).
      ⊎_elim (λ (k : d < c). sym (is_more_lem _ _ (larger d c g f m.small (big d c f k n) k)) ∙ is_more_lem _ _ (larger_word d c g f m.small (big d c f k n) k))
      (λ (k : c ≤ d).
      let e : c ≡ d = omega arith in
      subst (λ (z : ℕ). order_n (f * unit x c) (g * unit x z) ≡ order_n (c * 2 ^ y + f) (z * 2 ^ y + g)) e
      (sym (order_times f g (unit x c) (pow_pos (x.base + x.digit * c))) ∙ order_by f g (c * 2 ^ y + f) (c * 2 ^ y + g) (λ l. omega arith) (λ l. omega arith) (λ l. omega arith))) (below_or d c)) (below_or c d)

  -- ## Words

  -- the sign and the magnitude of a value's word
  record Parts (v : ℤ) (n : ℕ) : Type 0 where
    c : ℕ
    f : ℕ
    normal : Normal c f
    value : nat_abs v ≡ f * unit x c
    sign : leb (2 ^ (w - 1)) n ≡ is_negative v
    word : n % 2 ^ (w - 1) ≡ c * 2 ^ y + f

  parts : (v : ℤ) (n : ℕ) → float_word x w y v ≡ Word n → Parts v n
  parts v n e =
      let t = float_is x w y v n e in
      let c = t.0 in
      let f = t.1 in
      let p = t.2 in
      let l : limit x (is_negative v) ≡ 2 ^ x.fraction + 0 = ap (λ (b : Bool). 2 ^ x.fraction + pick (b && is_negative v) 1 0) float.even in
      let b = bits_parts (is_negative v) (c * 2 ^ y + f) n (2 ^ (w - 1)) (room_for x w y v c f float p) t.3 in
      record {
        c = c;
        f = f;
        normal = record { small = omega (arith, p.fits, l); high = placed_normal x v c f wide p };
        value = p.is;
        sign = b.0;
        word = b.1;
      }

  -- a magnitude other than 0 has a word other than 0
  some_word : (c f : ℕ) → 0 < f * unit x c → 0 < c * 2 ^ y + f
  some_word c zero h = absurd (none (rw (zero-mul (unit x c)) at h))
    where
      none : 0 < 0 → ⊥
      none h = omega arith
  some_word c (suc f) h = omega arith

  -- LAW. Two values that the format has are in the order of their words, read as sign and magnitude.
  pub words_order : (v u : ℤ) (n m : ℕ) → float_word x w y v ≡ Word n → float_word x w y u ≡ Word m → order_z v u ≡ order_z (word_signed w n) (word_signed w m)
  words_order v u n m p q =
      let a = parts v n p in
      let b = parts u m q in
      let k = a.c * 2 ^ y + a.f in
      let l = b.c * 2 ^ y + b.f in
      let fwd : order_n (nat_abs v) (nat_abs u) ≡ order_n k l = ap₂ order_n a.value b.value ∙ places_order a.c b.c a.f b.f a.normal b.normal in
      let bwd : order_n (nat_abs u) (nat_abs v) ≡ order_n l k = ap₂ order_n b.value a.value ∙ places_order b.c a.c b.f a.f b.normal a.normal in
      ap₂ order_z (sym (signed_back v)) (sym (signed_back u))
      ∙ signs (is_negative v) (is_negative u) (nat_abs v) (nat_abs u) k l
      (λ e. let h = negative_some v e in (h, some_word a.c a.f (subst (λ (z : ℕ). 0 < z) a.value h)))
      (λ e. let h = negative_some u e in (h, some_word b.c b.f (subst (λ (z : ℕ). 0 < z) b.value h))) fwd bwd
      ∙ ap₂ order_z (sym (ap₂ sign_magnitude a.sign a.word)) (sym (ap₂ sign_magnitude b.sign b.word))
