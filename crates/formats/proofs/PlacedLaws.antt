-- What a value's place says of it, and which places a value has. Assumes nothing.
use mathlib.Core.Path.{◌≡◌, refl, sym, ap, ◌∙◌, subst}
use mathlib.Core.Logic.{◌⊎◌, inl, inr, ⊎_elim}
use mathlib.Core.Bool.{Bool, true, false}
use Prim.Native.Nat.{ℕ, zero, suc, ◌+◌, ◌-◌, ◌*◌, ◌/◌, ◌%◌, ◌^◌, ◌≤◌, ◌<◌}
use native.Mathlib.Nat.{zero-mul, mul_assoc, mul-suc, mul-mod_left, mul-div_cancel, mul-le-mul_left, mul-le-mul_right, mul-pos, sub-add_cancel, mul-lt-mul_of_pos_right}
use native.Mathlib.Omega.{arith}
use borrow.Author.Tests.{lt-ltb, ltb-true, eqb-true}
use lib.Dec.{T, ltb}
use lib.Pow.{pow-add, pow_pos, pow_mono}
use lib.IntN.{ℤ, pos, nat_abs}
use Rattle.numbers.specs.Walk.{pick}
use Rattle.numbers.proofs.SignLaws.{below_or}
use Rattle.numbers.specs.SignMagnitude.{sign_magnitude, is_negative, is_multiple}
use Rattle.numbers.proofs.BoolLaws.{and_true}
use Rattle.formats.specs.Format.{Value, unit, limit, fits_at, least_serving, in_format, placed_at, placed, beside}
use Rattle.std.specs.Prelude.{Some, None}
use Rattle.formats.specs.declared.Format.{Format}
use Rattle.formats.specs.declared.Placed.{Placed}
use Rattle.numbers.proofs.FirstLaws.{found, first_at}
use Rattle.formats.proofs.Powers.{whole}
use Rattle.numbers.proofs.Magnitudes.{neg_signed, abs_signed, signed_back, signed_zero}
use Rattle.formats.proofs.FitLaws.{zero_fits}

-- two variants are not the same
pub no_zero_one : ◌≡◌ {A = ℕ} 0 1 → ⊥
no_zero_one q = omega arith

module _ (x : Format) where
  -- what serves: the value is its fraction times the last place
  pub served : (v : ℤ) (c : ℕ) → fits_at x v c ≡ true → (nat_abs v ≡ nat_abs v / unit x c * unit x c) × (nat_abs v / unit x c < limit x (is_negative v))
  served v c e =
      let t = and_true (is_multiple (unit x c) v) _ e in
      (whole (nat_abs v) (unit x c) (eqb-true (nat_abs v % unit x c) 0 t.0), ltb-true (nat_abs v / unit x c) (limit x (is_negative v)) t.1)

  -- a fraction times the last place is served
  pub serves_value : (s : Bool) (f c : ℕ) → f < limit x s → fits_at x (sign_magnitude s (f * unit x c)) c ≡ true
  serves_value s zero c h = rw (zero-mul (unit x c), signed_zero s) (zero_fits x c)
  serves_value s (suc f) c h =
      rw (abs_signed s (suc f * unit x c), neg_signed s (suc f * unit x c) (mul-pos (let z : 0 < suc f = omega arith in z) (pow_pos (x.base + x.digit * c))), mul-mod_left (suc f) (unit x c), mul-div_cancel (suc f) (pow_pos (x.base + x.digit * c)))
      (lt-ltb (suc f) (limit x s) h)

  -- ## The values of a format

  -- LAW. A value is in the format just when it is ± f × 2 ^ (b + r × c) for a characteristic and a fraction of the format.
  pub in_format_value : (v : ℤ) → in_format x v ≡ true → Value x v
  in_format_value v e =
      let c = least_serving x v in
      let h : c < x.characteristics = ltb-true c x.characteristics e in
      let t = served v c ((found (fits_at x v) x.characteristics 0).passes (omega arith)) in
      record { sign = is_negative v; c = c; f = nat_abs v / unit x c; below = h; fits = t.1; is = sym (signed_back v) ∙ ap (sign_magnitude (is_negative v)) t.0 }

  pub fits_in_format : (v : ℤ) (c : ℕ) → c < x.characteristics → fits_at x v c ≡ true → in_format x v ≡ true
  fits_in_format v c h e =
      let r = least_serving x v in
      let l : r ≤ c = ⊎_elim (λ (p : c < r). absurd (subst T (sym e ∙ (found (fits_at x v) x.characteristics 0).before c (omega arith) p) tt)) (λ (p : r ≤ c). p) (below_or c r) in
      lt-ltb r x.characteristics (omega arith)

  pub value_in_format : (v : ℤ) → Value x v → in_format x v ≡ true
  value_in_format v t = fits_in_format v t.c t.below (rw t.is (serves_value t.sign t.f t.c t.fits))

  -- ## A value's place

  pub record Place (v : ℤ) (c f : ℕ) : Type 0 where
    pub below : c < x.characteristics
    pub fits : f < limit x (is_negative v)
    pub is : nat_abs v ≡ f * unit x c
    pub least : (i : ℕ) → i < c → fits_at x v i ≡ false

  pub placed_is : (v : ℤ) (c f : ℕ) → placed x v ≡ Some (beside c f) → Place v c f
  placed_is v c f e = go (ltb r x.characteristics) refl e
    where
      r : ℕ
      r = least_serving x v

      go : (b : Bool) → ltb r x.characteristics ≡ b → pick b (Some (beside r (nat_abs v / unit x r))) None ≡ Some (beside c f) → Place v c f
      go true h q =
          let p : beside r (nat_abs v / unit x r) ≡ beside c f = cc in
          let i : r ≡ c = ap (λ (p : Placed). p.characteristic) p in
          let j : nat_abs v / unit x r ≡ f = ap (λ (p : Placed). p.fraction) p in
          let b : r < x.characteristics = ltb-true r x.characteristics h in
          let s = served v r ((found (fits_at x v) x.characteristics 0).passes (omega arith)) in
          let at : (y : ℕ) → nat_abs v ≡ y * unit x r → y < limit x (is_negative v) → Place v r y =
          λ y a l. record { below = b; fits = l; is = a; least = λ k z. (found (fits_at x v) x.characteristics 0).before k (omega arith) z } in
          subst (λ (y : ℕ). Place v y f) i (subst (Place v r) j (at _ s.0 s.1))
      go false h q = let z : ◌≡◌ {A = ℕ} 0 1 = cc in absurd (no_zero_one z)

  pub placed_none : (v : ℤ) → placed x v ≡ None → in_format x v ≡ false
  placed_none v e = go (in_format x v) refl e
    where
      r : ℕ
      r = least_serving x v

      go : (b : Bool) → ltb r x.characteristics ≡ b → pick b (Some (beside r (nat_abs v / unit x r))) None ≡ None → in_format x v ≡ false
      go true h q = let z : ◌≡◌ {A = ℕ} 0 1 = cc in absurd (no_zero_one z)
      go false h q = h

  pub placed_in : (v : ℤ) (c f : ℕ) → placed x v ≡ Some (beside c f) → in_format x v ≡ true
  placed_in v c f e = lt-ltb (least_serving x v) x.characteristics (go (in_format x v) refl e)
    where
      r : ℕ
      r = least_serving x v

      go : (b : Bool) → ltb r x.characteristics ≡ b → pick b (Some (beside r (nat_abs v / unit x r))) None ≡ Some (beside c f) → r < x.characteristics
      go true h q = ltb-true r x.characteristics h
      go false h q = let z : ◌≡◌ {A = ℕ} 0 1 = cc in absurd (no_zero_one z)

  pub placed_some : (v : ℤ) → in_format x v ≡ true → placed x v ≡ Some (beside (least_serving x v) (nat_abs v / unit x (least_serving x v)))
  placed_some v e = rw e

  -- zero's place is 0 and 0
  pub place_zero : (c f : ℕ) → Place (pos 0) c f → (c ≡ 0) × (f ≡ 0)
  place_zero c f p = (⊎_elim (λ (h : 0 < c). absurd (subst T (sym (zero_fits x 0) ∙ p.least 0 h) tt)) (λ (h : c ≤ 0). omega arith) (below_or 0 c), nil f p.is)
    where
      nil : (f : ℕ) → 0 ≡ f * unit x c → f ≡ 0
      nil zero e = refl
      nil (suc f) e = absurd (no (mul-pos (let z : 0 < suc f = omega arith in z) (pow_pos (x.base + x.digit * c))))
        where
          no : 0 < suc f * unit x c → ⊥
          no h = omega arith

  -- ## Normal words

  -- the fraction of a smaller characteristic
  lower : (v : ℤ) (i c f : ℕ) → i < c → nat_abs v ≡ f * unit x c → (z : ℕ) × (nat_abs v ≡ f * 2 ^ z * unit x i) × (x.digit ≤ z)
  lower v i c f h e =
      let z = x.digit * c - x.digit * i in
      let more : x.digit * suc i ≤ x.digit * c = mul-le-mul_left x.digit h in
      let sum : x.base + x.digit * c ≡ z + (x.base + x.digit * i) = omega (arith, more, mul-suc x.digit i) in
      (z, e ∙ ap (λ (y : ℕ). f * 2 ^ y) sum ∙ ap (λ (y : ℕ). f * y) (pow-add 2 z (x.base + x.digit * i)) ∙ sym (mul_assoc f (2 ^ z) (unit x i)), omega (arith, more, mul-suc x.digit i))

  -- LAW. The fraction's first digit isn't 0, unless the characteristic is.
  pub placed_normal : (v : ℤ) (c f : ℕ) → x.digit ≤ x.fraction → Place v c f → (c ≡ 0) ⊎ (2 ^ (x.fraction - x.digit) ≤ f)
  placed_normal v zero f d t = inl refl
  placed_normal v (suc c) f d t = ⊎_elim (λ (h : f < 2 ^ (x.fraction - x.digit)). absurd (no h)) (λ h. inr h) (below_or f (2 ^ (x.fraction - x.digit)))
    where
      sum : x.base + x.digit * suc c ≡ x.digit + (x.base + x.digit * c)
      sum = omega (arith, mul-suc x.digit c)

      down : nat_abs v ≡ f * 2 ^ x.digit * unit x c
      down = t.is ∙ ap (λ (y : ℕ). f * 2 ^ y) sum ∙ ap (λ (y : ℕ). f * y) (pow-add 2 x.digit (x.base + x.digit * c)) ∙ sym (mul_assoc f (2 ^ x.digit) (unit x c))

      no : f < 2 ^ (x.fraction - x.digit) → ⊥
      no h =
          let k : f * 2 ^ x.digit < 2 ^ (x.fraction - x.digit) * 2 ^ x.digit = mul-lt-mul_of_pos_right h (pow_pos x.digit) in
          let p : 2 ^ (x.fraction - x.digit) * 2 ^ x.digit ≡ 2 ^ x.fraction = sym (pow-add 2 (x.fraction - x.digit) x.digit) ∙ ap (λ (y : ℕ). 2 ^ y) (sub-add_cancel d) in
          let l : f * 2 ^ x.digit < limit x (is_negative v) = omega arith in
          let s = serves_value (is_negative v) (f * 2 ^ x.digit) c l in
          let same : sign_magnitude (is_negative v) (f * 2 ^ x.digit * unit x c) ≡ v = ap (sign_magnitude (is_negative v)) (sym down) ∙ signed_back v in
          subst T (sym (subst (λ (w : ℤ). fits_at x w c ≡ true) same s) ∙ t.least c (omega arith)) tt

  -- LAW. Of sign and magnitude, a value has one normal place.
  pub placed_only : (v : ℤ) (c f : ℕ) → x.more ≡ false → x.digit ≤ x.fraction → c < x.characteristics → f < 2 ^ x.fraction → nat_abs v ≡ f * unit x c → (c ≡ 0) ⊎ (2 ^ (x.fraction - x.digit) ≤ f)
      → placed x v ≡ Some (beside c f)
  placed_only v c f m d h b e n =
      ap (placed_at x v) (first_at (fits_at x v) x.characteristics 0 c (omega arith) (omega arith) here (λ i z. before i))
      ∙ rw (lt-ltb c x.characteristics h, e, mul-div_cancel f (pow_pos (x.base + x.digit * c)))
    where
      limit_is : limit x (is_negative v) ≡ 2 ^ x.fraction
      limit_is = rw m (omega arith)

      here : fits_at x v c ≡ true
      here = subst (λ (w : ℤ). fits_at x w c ≡ true) (ap (sign_magnitude (is_negative v)) (sym e) ∙ signed_back v) (serves_value (is_negative v) f c (omega (arith, limit_is)))

      before : (i : ℕ) → i < c → fits_at x v i ≡ false
      before i l = go (fits_at x v i) refl
        where
          large : 2 ^ (x.fraction - x.digit) ≤ f → nat_abs v / unit x i < 2 ^ x.fraction → ⊥
          large k q =
              let w = lower v i c f l e in
              let div : nat_abs v / unit x i ≡ f * 2 ^ w.0 = ap (λ (y : ℕ). y / unit x i) w.1 ∙ mul-div_cancel (f * 2 ^ w.0) (pow_pos (x.base + x.digit * i)) in
              let p : 2 ^ (x.fraction - x.digit) * 2 ^ x.digit ≡ 2 ^ x.fraction = sym (pow-add 2 (x.fraction - x.digit) x.digit) ∙ ap (λ (y : ℕ). 2 ^ y) (sub-add_cancel d) in
              let a : 2 ^ (x.fraction - x.digit) * 2 ^ x.digit ≤ f * 2 ^ x.digit = mul-le-mul_right (2 ^ x.digit) k in
              let g : f * 2 ^ x.digit ≤ f * 2 ^ w.0 = mul-le-mul_left f (pow_mono w.2) in
              omega arith

          go : (b : Bool) → fits_at x v i ≡ b → fits_at x v i ≡ false
          go false q = q
          go true q =
              let s = served v i q in
              ⊎_elim (λ (z : c ≡ 0). absurd (none z)) (λ k. absurd (large k (omega (arith, s.1, limit_is)))) n
            where
              none : c ≡ 0 → ⊥
              none z = omega arith
