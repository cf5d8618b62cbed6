-- # Code 5: the word of a value
--
-- The words and the values of an IEEE format, at any widths and then at those of single precision: each finite word but minus zero is the
-- word of its value.
use mathlib.Core.Path.{◌≡◌, refl, sym, ap, ap₂, ◌∙◌, subst}
use mathlib.Core.Logic.{◌⊎◌, inl, inr, ⊎_elim}
use mathlib.Core.Bool.{Bool, true, false}
use Prim.Native.Nat.{ℕ, zero, suc, ◌+◌, ◌-◌, ◌*◌, ◌/◌, ◌%◌, ◌^◌, ◌≤◌, ◌<◌}
use native.Mathlib.Nat.{mul-pos, add-mul, suc-mul, add-zero, one-mul, mod-lt, mul-add-mod_self_right, mod-eq_of_lt, mul-le-mul_right, div-add-mod', pow-suc, zero-add, div-lt_iff_lt-mul, le-div_iff_mul-le, mod-eq-sub-mod}
use native.Mathlib.Omega.{arith}
use borrow.Author.Tests.{lt-ltb, le-leb, lt-leb, ne_eqb, ltb-true}
use lib.Dec.{leb, eqb}
use lib.Pow.{pow-add, pow_pos, pow_mono, high, low}
use lib.IntN.{ℤ, nat_abs}
use Rattle.numbers.specs.Iff.{Iff}
use Rattle.numbers.specs.Walk.{pick}
use Rattle.numbers.proofs.SignLaws.{below_or}
use Rattle.numbers.specs.SignMagnitude.{sign_magnitude, is_negative}
use Rattle.formats.specs.Format.{Value, unit, placed}
use Rattle.formats.specs.Codes.{denominator_power, bias, ieee_format}
use Rattle.formats.specs.Value.{ieee_sign, ieee_exponent, ieee_fraction, is_finite, significand, ieee_power, ieee_value}
use Rattle.formats.specs.Words.{float_bits, float_of, float_word}
use Rattle.formats.specs.Format.{beside}
use Rattle.std.specs.Prelude.{Some}
use Rattle.formats.specs.Written.{Word}
use Rattle.numbers.proofs.Magnitudes.{neg_signed, abs_signed, signed_back}
use Rattle.formats.proofs.PlacedLaws.{Place, placed_normal, placed_only}
use Rattle.formats.proofs.FitLaws.{placed_zero}
use Rattle.formats.proofs.WordLaws.{float_is}

-- a word of sign, exponent and fraction
abbrev fields_of : ℕ → ℕ → Bool → ℕ → ℕ → ℕ
fields_of x y s e t = (pick s (2 ^ x) 0 + e) * 2 ^ y + t

module _ (x y : ℕ) where
  module _ (s : Bool) (e t : ℕ) (he : e < 2 ^ x) (ht : t < 2 ^ y) where
    -- its fields again
    exponent_of : ieee_exponent x y (fields_of x y s e t) ≡ e
    exponent_of = ap (λ (z : ℕ). z % 2 ^ x) (high (pick s (2 ^ x) 0 + e) y ht) ∙ go s
      where
        go : (s : Bool) → (pick s (2 ^ x) 0 + e) % 2 ^ x ≡ e
        go true = ap (λ (z : ℕ). (z + e) % 2 ^ x) (sym (one-mul (2 ^ x))) ∙ mul-add-mod_self_right 1 (2 ^ x) e ∙ mod-eq_of_lt he
        go false = ap (λ (z : ℕ). z % 2 ^ x) (zero-add e) ∙ mod-eq_of_lt he

    fraction_of : ieee_fraction y (fields_of x y s e t) ≡ t
    fraction_of = low (pick s (2 ^ x) 0 + e) y ht

    sign_of : ieee_sign x y (fields_of x y s e t) ≡ s
    sign_of = go s
      where
        go : (s : Bool) → leb (2 ^ (x + y)) (fields_of x y s e t) ≡ s
        go true =
            let k : 2 ^ x * 2 ^ y ≤ (2 ^ x + e) * 2 ^ y = mul-le-mul_right (2 ^ y) (let z : 2 ^ x ≤ 2 ^ x + e = omega arith in z) in
            le-leb (2 ^ (x + y)) (fields_of x y true e t) (omega (arith, k, pow-add 2 x y))
        go false =
            let k : suc e * 2 ^ y ≤ 2 ^ x * 2 ^ y = mul-le-mul_right (2 ^ y) he in
            lt-leb (2 ^ (x + y)) (fields_of x y false e t) (let z : (0 + e) * 2 ^ y + t < 2 ^ (x + y) = rw (zero-add e) (omega (arith, k, pow-add 2 x y, suc-mul e (2 ^ y))) in z)

    -- and its width
    fields_lt : fields_of x y s e t < 2 ^ suc (x + y)
    fields_lt = go s
      where
        k : suc e * 2 ^ y ≤ 2 ^ x * 2 ^ y
        k = mul-le-mul_right (2 ^ y) he

        go : (s : Bool) → fields_of x y s e t < 2 ^ suc (x + y)
        go true =
            let a : (2 ^ x + e) * 2 ^ y ≡ 2 ^ x * 2 ^ y + e * 2 ^ y = add-mul (2 ^ x) e (2 ^ y) in
            omega (arith, a, k, pow-add 2 x y, suc-mul e (2 ^ y), pow-suc 2 (x + y))
        go false =
            let a : (0 + e) * 2 ^ y ≡ e * 2 ^ y = ap (λ (z : ℕ). z * 2 ^ y) (zero-add e) in
            omega (arith, a, k, pow-add 2 x y, suc-mul e (2 ^ y), pow-suc 2 (x + y))

  -- any word is that of its fields
  fields_back : (n : ℕ) → n < 2 ^ suc (x + y) → fields_of x y (ieee_sign x y n) (ieee_exponent x y n) (ieee_fraction y n) ≡ n
  fields_back n h = ap (λ (z : ℕ). z * 2 ^ y + n % 2 ^ y) upper ∙ div-add-mod' n (2 ^ y)
    where
      q : ℕ
      q = n / 2 ^ y

      few : q < 2 ^ suc x
      few = (div-lt_iff_lt-mul (pow_pos y)).1 (rw (← (pow-add 2 (suc x) y)) (subst (λ (z : ℕ). n < 2 ^ z) (let e : suc (x + y) ≡ suc x + y = omega arith in e) h))

      upper : pick (leb (2 ^ (x + y)) n) (2 ^ x) 0 + q % 2 ^ x ≡ q
      upper =
          ⊎_elim
          (λ (l : n < 2 ^ (x + y)).
          let k : q < 2 ^ x = (div-lt_iff_lt-mul (pow_pos y)).1 (rw (← (pow-add 2 x y)) l) in
          rw (lt-leb (2 ^ (x + y)) n l, mod-eq_of_lt k) (omega arith))
          (λ (l : 2 ^ (x + y) ≤ n).
          let k : 2 ^ x ≤ q = (le-div_iff_mul-le (pow_pos y)).1 (rw (← (pow-add 2 x y)) l) in
          let r : q % 2 ^ x ≡ (q - 2 ^ x) % 2 ^ x = mod-eq-sub-mod k in
          let m : (q - 2 ^ x) % 2 ^ x ≡ q - 2 ^ x = mod-eq_of_lt (let z : q - 2 ^ x < 2 ^ x = omega (arith, few, k, pow-suc 2 x) in z) in
          rw (le-leb (2 ^ (x + y)) n l, r, m) (omega arith)) (below_or n (2 ^ (x + y)))

  -- ## The word of a normal place

  -- the fields of the word of a place
  record Fields (s : Bool) (c f : ℕ) : Type 0 where
    e : ℕ
    t : ℕ
    finite : e < 2 ^ x - 1
    small : t < 2 ^ y
    word : float_bits (suc (x + y)) y s c f ≡ fields_of x y s e t
    char : e - 1 ≡ c
    whole : pick (eqb e 0) t (2 ^ y + t) ≡ f

  -- the sign stands above the rest
  sign_bit : (s : Bool) (e t c f : ℕ) → e * 2 ^ y + t ≡ c * 2 ^ y + f → float_bits (suc (x + y)) y s c f ≡ fields_of x y s e t
  sign_bit true e t c f q =
      let p : 2 ^ (suc (x + y) - 1) ≡ 2 ^ x * 2 ^ y = ap (λ (z : ℕ). 2 ^ z) (let w : suc (x + y) - 1 ≡ x + y = omega arith in w) ∙ pow-add 2 x y in
      omega (arith, p, q, add-mul (2 ^ x) e (2 ^ y))
  sign_bit false e t c f q =
      let z : (0 + e) * 2 ^ y ≡ e * 2 ^ y = ap (λ (w : ℕ). w * 2 ^ y) (zero-add e) in
      omega (arith, q, z)

  -- a normal place has fields: a subnormal number its fraction, any other the hidden bit besides
  fields : (s : Bool) (c f : ℕ) → c < 2 ^ x - 2 → f < 2 ^ suc y → (c ≡ 0) ⊎ (2 ^ y ≤ f) → Fields s c f
  fields s c f h b n =
      ⊎_elim
      (λ (l : f < 2 ^ y).
      let z : c ≡ 0 = ⊎_elim (λ (k : c ≡ 0). k) (λ (k : 2 ^ y ≤ f). absurd (no l k)) n in
      let k : 0 * 2 ^ y + f ≡ c * 2 ^ y + f = ap (λ (w : ℕ). w * 2 ^ y + f) (sym z) in
      record { e = 0; t = f; finite = omega arith; small = l; word = sign_bit s 0 f c f k; char = omega arith; whole = refl })
      (λ (l : 2 ^ y ≤ f).
      record {
        e = suc c;
        t = f - 2 ^ y;
        finite = omega arith;
        small = omega (arith, pow-suc 2 y);
        word = sign_bit s (suc c) (f - 2 ^ y) c f (omega (arith, suc-mul c (2 ^ y)));
        char = omega arith;
        whole = rw (ne_eqb (suc c) 0 some) (omega arith);
      }) (below_or f (2 ^ y))
    where
      no : f < 2 ^ y → 2 ^ y ≤ f → ⊥
      no l k = omega arith

      some : suc c ≡ 0 → ⊥
      some e = omega arith

-- a finite word of the value
pub record IeeeSays (x y : ℕ) (v : ℤ) (n : ℕ) : Type 0 where
  pub fit : n < 2 ^ suc (x + y)
  pub finite : is_finite x y n ≡ true
  pub value : ieee_value x y n ≡ v

-- ## Values

-- from here on an exponent of two bits at least, and a last place that is a whole number over the denominator
module _ (x y : ℕ) (two : 1 < x) (near : bias x + y ≤ denominator_power + 1) where
  four : 2 ^ 2 ≤ 2 ^ x
  four = pow_mono two

  -- what the last place is worth
  power_is : (d e b : ℕ) → b ≤ d + 1 → d + suc e - b ≡ d + 1 - b + 1 * (suc e - 1)
  power_is d e b h = omega arith

  power_at : (e : ℕ) → denominator_power + pick (eqb e 0) 1 e - (bias x + y) ≡ (ieee_format x y).base + 1 * (e - 1)
  power_at zero = omega arith
  power_at (suc e) = rw (ne_eqb (suc e) 0 some) (power_is denominator_power e (bias x + y) near)
    where
      some : suc e ≡ 0 → ⊥
      some q = omega arith

  -- a word's value by characteristic and fraction
  value_at : (n : ℕ) → ieee_value x y n ≡ sign_magnitude (ieee_sign x y n) (significand x y n * unit (ieee_format x y) (ieee_exponent x y n - 1))
  value_at n = ap (λ (z : ℕ). sign_magnitude (ieee_sign x y n) (significand x y n * 2 ^ z)) (power_at (ieee_exponent x y n))

  -- and by its fields
  fields_value : (s : Bool) (e t : ℕ) → e < 2 ^ x → t < 2 ^ y → ieee_value x y (fields_of x y s e t) ≡ sign_magnitude s (pick (eqb e 0) t (2 ^ y + t) * unit (ieee_format x y) (e - 1))
  fields_value s e t h l =
      rw (exponent_of x y s e t h l, fraction_of x y s e t h l, sign_of x y s e t h l)
      (ap (λ (z : ℕ). sign_magnitude s (pick (eqb e 0) t (2 ^ y + t) * 2 ^ z)) (power_at e))

  -- the significand is a fraction of the format, and a normal one
  significand_lt : (n : ℕ) → significand x y n < 2 ^ (y + 1)
  significand_lt n = go (eqb (ieee_exponent x y n) 0) (mod-lt n (pow_pos y))
    where
      go : (b : Bool) → n % 2 ^ y < 2 ^ y → pick b (n % 2 ^ y) (2 ^ y + n % 2 ^ y) < 2 ^ (y + 1)
      go true h = omega (arith, pow-add 2 y 1)
      go false h = omega (arith, pow-add 2 y 1)

  significand_normal : (n : ℕ) → (ieee_exponent x y n - 1 ≡ 0) ⊎ (2 ^ y ≤ significand x y n)
  significand_normal n = go (ieee_exponent x y n)
    where
      go : (e : ℕ) → (e - 1 ≡ 0) ⊎ (2 ^ y ≤ pick (eqb e 0) (n % 2 ^ y) (2 ^ y + n % 2 ^ y))
      go zero = inl refl
      go (suc e) = inr (rw (ne_eqb (suc e) 0 some) (omega arith))
        where
          some : suc e ≡ 0 → ⊥
          some q = omega arith

  -- a finite word has a characteristic of the format
  char_lt : (n : ℕ) → is_finite x y n ≡ true → ieee_exponent x y n - 1 < 2 ^ x - 2
  char_lt n h = let k = ltb-true (ieee_exponent x y n) (2 ^ x - 1) h in omega (arith, k, four)

  -- the hidden bit is the one above the fraction
  hidden : (f : ℕ) → Iff (2 ^ y ≤ f) (2 ^ (y + 1 - 1) ≤ f)
  hidden f = let e : y ≡ y + 1 - 1 = omega arith in (subst (λ (z : ℕ). 2 ^ z ≤ f) e, subst (λ (z : ℕ). 2 ^ z ≤ f) (sym e))

  -- LAW. The value of a finite word is one of the format's.
  pub ieee_value_lem : (n : ℕ) → is_finite x y n ≡ true → Value (ieee_format x y) (ieee_value x y n)
  ieee_value_lem n h =
      record {
        sign = ieee_sign x y n;
        c = ieee_exponent x y n - 1;
        f = significand x y n;
        below = char_lt n h;
        fits = omega (arith, significand_lt n);
        is = value_at n;
      }

  -- and its place is that of its fields
  ieee_place : (n : ℕ) → is_finite x y n ≡ true → placed (ieee_format x y) (ieee_value x y n) ≡ Some (beside (ieee_exponent x y n - 1) (significand x y n))
  ieee_place n h =
      placed_only (ieee_format x y) (ieee_value x y n) (ieee_exponent x y n - 1) (significand x y n) refl (omega arith) (char_lt n h) (significand_lt n)
      (ap nat_abs (value_at n) ∙ abs_signed (ieee_sign x y n) (significand x y n * unit (ieee_format x y) (ieee_exponent x y n - 1)))
      (⊎_elim (λ z. inl z) (λ k. inr ((hidden (significand x y n)).0 k)) (significand_normal n))

  -- ## Zero

  -- a word without a significand is a zero
  no_fields : (n : ℕ) → significand x y n ≡ 0 → (ieee_exponent x y n ≡ 0) × (ieee_fraction y n ≡ 0)
  no_fields n = go (ieee_exponent x y n)
    where
      go : (e : ℕ) → pick (eqb e 0) (n % 2 ^ y) (2 ^ y + n % 2 ^ y) ≡ 0 → (e ≡ 0) × (n % 2 ^ y ≡ 0)
      go zero q = (refl, q)
      go (suc e) q = absurd (none (rw (ne_eqb (suc e) 0 some) at q))
        where
          some : suc e ≡ 0 → ⊥
          some q = omega arith

          none : 2 ^ y + n % 2 ^ y ≡ 0 → ⊥
          none q = omega (arith, pow_pos y)

  -- of the two zeros one is minus zero
  plus_zero : (n : ℕ) → n < 2 ^ suc (x + y) → (n ≡ 2 ^ (x + y) → ⊥) → significand x y n ≡ 0 → ieee_sign x y n ≡ false
  plus_zero n h m q = go (ieee_sign x y n) refl
    where
      minus : fields_of x y true 0 0 ≡ 2 ^ (x + y)
      minus = add-zero ((2 ^ x + 0) * 2 ^ y) ∙ ap (λ (z : ℕ). z * 2 ^ y) (add-zero (2 ^ x)) ∙ sym (pow-add 2 x y)

      go : (b : Bool) → ieee_sign x y n ≡ b → ieee_sign x y n ≡ false
      go false e = e
      go true e =
          let z = no_fields n q in
          absurd (m (sym (fields_back x y n h) ∙ ap (λ (b : Bool). fields_of x y b (ieee_exponent x y n) (ieee_fraction y n)) e ∙ ap₂ (fields_of x y true) z.0 z.1 ∙ minus))

  -- the sign of a value is its word's, unless the word is minus zero
  sign_is : (n : ℕ) → n < 2 ^ suc (x + y) → (n ≡ 2 ^ (x + y) → ⊥) → is_negative (ieee_value x y n) ≡ ieee_sign x y n
  sign_is n h m = go (significand x y n) refl
    where
      go : (a : ℕ) → significand x y n ≡ a → is_negative (ieee_value x y n) ≡ ieee_sign x y n
      go zero q = let s = plus_zero n h m q in ap (λ (b : Bool). is_negative (sign_magnitude b (significand x y n * 2 ^ ieee_power x y n))) s ∙ sym s
      go (suc a) q = neg_signed (ieee_sign x y n) (significand x y n * 2 ^ ieee_power x y n) (mul-pos (let k : 0 < significand x y n = omega arith in k) (pow_pos (ieee_power x y n)))

  -- ## Words

  -- LAW. Each finite word but minus zero is the word of its value.
  pub only_word : (n : ℕ) → n < 2 ^ suc (x + y) → is_finite x y n ≡ true → (n ≡ 2 ^ (x + y) → ⊥) → float_word (ieee_format x y) (suc (x + y)) y (ieee_value x y n) ≡ Word n
  only_word n b h m =
      let e = ieee_exponent x y n in
      ap (float_of (suc (x + y)) y (is_negative (ieee_value x y n))) (ieee_place n h)
      ∙ ap (λ (k : Bool). Word (float_bits (suc (x + y)) y k (e - 1) (significand x y n))) (sign_is n b m)
      ∙ ap (λ (k : ℕ). Word k) (sign_bit x y (ieee_sign x y n) e (ieee_fraction y n) (e - 1) (significand x y n) (carried e) ∙ fields_back x y n b)
    where
      carried : (e : ℕ) → e * 2 ^ y + n % 2 ^ y ≡ (e - 1) * 2 ^ y + pick (eqb e 0) (n % 2 ^ y) (2 ^ y + n % 2 ^ y)
      carried zero = refl
      carried (suc e) =
          let k : suc e - 1 ≡ e = omega arith in
          rw (ne_eqb (suc e) 0 some, k) (omega (arith, suc-mul e (2 ^ y)))
        where
          some : suc e ≡ 0 → ⊥
          some q = omega arith

  -- the word of a place has the value
  place_says : (v : ℤ) (c f : ℕ) → Place (ieee_format x y) v c f → Fields x y (is_negative v) c f → IeeeSays x y v (float_bits (suc (x + y)) y (is_negative v) c f)
  place_says v c f p r =
      let s = is_negative v in
      let l : r.e < 2 ^ x = omega (arith, r.finite) in
      rw r.word
      (record {
        fit = fields_lt x y s r.e r.t l r.small;
        finite = rw (exponent_of x y s r.e r.t l r.small) (lt-ltb r.e (2 ^ x - 1) r.finite);
        value =
            fields_value s r.e r.t l r.small ∙ ap₂ (λ (a b : ℕ). sign_magnitude s (a * unit (ieee_format x y) b)) r.whole r.char
            ∙ ap (sign_magnitude s) (sym p.is) ∙ signed_back v;
      })

  -- LAW. The word that is written is finite, and has the value.
  pub ieee_sound : (v : ℤ) (n : ℕ) → float_word (ieee_format x y) (suc (x + y)) y v ≡ Word n → IeeeSays x y v n
  ieee_sound v n h = let t = float_is (ieee_format x y) (suc (x + y)) y v n h in subst (IeeeSays x y v) (sym t.3) (go t.0 t.1 t.2)
    where
      go : (c f : ℕ) → Place (ieee_format x y) v c f → IeeeSays x y v (float_bits (suc (x + y)) y (is_negative v) c f)
      go c f p =
          let normal : (c ≡ 0) ⊎ (2 ^ y ≤ f) = ⊎_elim (λ z. inl z) (λ k. inr ((hidden f).1 k)) (placed_normal (ieee_format x y) v c f (omega arith) p) in
          place_says v c f p (fields x y (is_negative v) c f p.below (omega (arith, p.fits, pow-add 2 y 1, pow-suc 2 y)) normal)

-- ## Single precision

-- the laws at the widths of code 5
two : 1 < 8
two = omega arith

near : bias 8 + 23 ≤ denominator_power + 1
near = omega arith

pub single_power : (n : ℕ) → ieee_power 8 23 n ≡ (ieee_format 8 23).base + 1 * (ieee_exponent 8 23 n - 1)
single_power n = power_at 8 23 two near (ieee_exponent 8 23 n)

pub single_significand : (n : ℕ) → significand 8 23 n < 2 ^ 24
single_significand = significand_lt 8 23 two near

pub single_value : (n : ℕ) → is_finite 8 23 n ≡ true → Value (ieee_format 8 23) (ieee_value 8 23 n)
single_value = ieee_value_lem 8 23 two near

pub single_sound : (v : ℤ) (n : ℕ) → float_word (ieee_format 8 23) 32 23 v ≡ Word n → IeeeSays 8 23 v n
single_sound = ieee_sound 8 23 two near

-- THEOREM. Code 5: each finite word but 80000000 is the word that is written of its value.
pub ieee_only : (n : ℕ) → n < 2 ^ 32 → is_finite 8 23 n ≡ true → (n ≡ 0x8000_0000 → ⊥) → float_word (ieee_format 8 23) 32 23 (ieee_value 8 23 n) ≡ Word n
ieee_only n h f m = only_word 8 23 two near n h f m

-- THEOREM. Minus zero, 80000000, is zero, which is written 00000000.
pub ieee_minus_zero : float_word (ieee_format 8 23) 32 23 (ieee_value 8 23 (2 ^ 31)) ≡ Word 0
ieee_minus_zero = ap (float_of 32 23 false) (placed_zero (ieee_format 8 23) (omega arith))

-- THEOREM. No two finite words other than 80000000 have the same value.
pub ieee_same : (n k : ℕ) → n < 2 ^ 32 → k < 2 ^ 32 → is_finite 8 23 n ≡ true → is_finite 8 23 k ≡ true → (n ≡ 0x8000_0000 → ⊥) → (k ≡ 0x8000_0000 → ⊥) → ieee_value 8 23 n ≡ ieee_value 8 23 k → n ≡ k
ieee_same n k h l f g m o e =
    let p = sym (ieee_only n h f m) ∙ ap (float_word (ieee_format 8 23) 32 23) e ∙ ieee_only k l g o in
    cc
