-- The nearest value of a format: it is one of the format's, no magnitude of the format is nearer, and a value of the format is its own
-- nearest. Assumes nothing.
use mathlib.Core.Path.{◌≡◌, refl, sym, ap, ◌∙◌, subst}
use mathlib.Core.Logic.{◌⊎◌, inl, inr, ⊎_elim}
use mathlib.Core.Bool.{Bool, true, false, ◌&&◌}
use Prim.Native.Nat.{ℕ, zero, suc, ◌+◌, ◌-◌, ◌*◌, ◌/◌, ◌^◌, ◌≤◌, ◌<◌}
use native.Mathlib.Nat.{mul_assoc, mul-suc, mul-le-mul_left, mul-le-mul_right, le_trans, le_of_eq, div-lt_iff_lt-mul}
use native.Mathlib.Omega.{arith}
use native.Mathlib.Numerals.{unary_clauses}
use borrow.Author.Tests.{ltb-true, ltb-false}
use lib.Dec.{ltb}
use lib.Pow.{pow-add, pow_pos, pow_mono, pow-lt}
use lib.IntN.{ℤ, nat_abs}
use Rattle.numbers.specs.Walk.{pick}
use Rattle.numbers.specs.SignMagnitude.{sign_magnitude, is_negative}
use Rattle.numbers.proofs.SignLaws.{below_or}
use Rattle.numbers.proofs.Magnitudes.{signed_back}
use Rattle.numbers.proofs.FirstLaws.{found, first_most}
use Rattle.formats.specs.Format.{unit, limit, fits_at, in_format}
use Rattle.formats.specs.Codes.{is_code, format_of}
use Rattle.formats.specs.Nearest.{nearest_multiple, reaching, range_end, nearest_magnitude, nearest_in}
use Rattle.formats.specs.declared.Format.{Format}
use Rattle.formats.proofs.PlacedLaws.{serves_value, fits_in_format, placed_is, placed_some}
use Rattle.formats.proofs.CodeLaws.{Code, ibm, whole32, whole16, gain, ieee, whole8, code_is}
use Rattle.formats.proofs.RoundLaws.{dist, enclosed, by_side, multiple_nearest}

-- a format whose digits are no longer than its fraction
pub record ShortDigits (x : Format) : Type 0 where
  pub small : x.digit ≤ x.fraction
  pub steps : 0 < x.digit
  pub some : 0 < x.characteristics

-- multiples of u stand on either side of a gap
multiple_apart : (k q u : ℕ) → (k * u ≤ q * u) ⊎ (suc q * u ≤ k * u)
multiple_apart k q u = ⊎_elim (λ (h : q < k). inr (mul-le-mul_right u h)) (λ (h : k ≤ q). inl (mul-le-mul_right u h)) (below_or q k)

module _ (x : Format) (ok : ShortDigits x) where
  -- ## Characteristics

  -- a larger last place is a whole number of a smaller one
  above : (c d : ℕ) → c ≤ d → unit x d ≡ 2 ^ (x.digit * d - x.digit * c) * unit x c
  above c d h =
      let k : x.digit * c ≤ x.digit * d = mul-le-mul_left x.digit h in
      let e : x.base + x.digit * d ≡ (x.digit * d - x.digit * c) + (x.base + x.digit * c) = omega (arith, k) in
      ap (λ (y : ℕ). 2 ^ y) e ∙ pow-add 2 (x.digit * d - x.digit * c) (x.base + x.digit * c)

  -- the least number beyond a characteristic, by its last place and by the next one's
  pub step : (c : ℕ) → 2 ^ x.fraction * unit x c ≡ 2 ^ (x.fraction - x.digit) * unit x (suc c)
  step c =
      let e : x.fraction + (x.base + x.digit * c) ≡ (x.fraction - x.digit) + (x.base + x.digit * suc c) = omega (arith, ok.small, mul-suc x.digit c) in
      sym (pow-add 2 x.fraction (x.base + x.digit * c)) ∙ ap (λ (y : ℕ). 2 ^ y) e ∙ pow-add 2 (x.fraction - x.digit) (x.base + x.digit * suc c)

  -- the fraction that it has by the next one's is one of the format's
  pub step_fits : 2 ^ (x.fraction - x.digit) < 2 ^ x.fraction
  step_fits = pow-lt (let z : x.fraction - x.digit < x.fraction = omega (arith, ok.steps, ok.small) in z)

  -- the characteristic that reaches a magnitude is one of the format's
  pub reaching_low : (a : ℕ) → reaching x a ≤ x.characteristics - 1
  reaching_low a = omega (arith, first_most (λ c. ltb a (2 ^ x.fraction * unit x c)) (x.characteristics - 1) 0)

  -- none below it reaches it
  pub reaching_least : (a : ℕ) → (reaching x a ≡ 0) ⊎ (2 ^ x.fraction * unit x (reaching x a - 1) ≤ a)
  reaching_least a = go (reaching x a) refl
    where
      go : (c : ℕ) → c ≡ reaching x a → (c ≡ 0) ⊎ (2 ^ x.fraction * unit x (c - 1) ≤ a)
      go zero e = inl refl
      go (suc c) e =
          let b = (found (λ i. ltb a (2 ^ x.fraction * unit x i)) (x.characteristics - 1) 0).before c (omega arith) (omega (arith, e)) in
          let g : 2 ^ x.fraction * unit x c ≤ a = ltb-false a (2 ^ x.fraction * unit x c) b in
          let z : suc c - 1 ≡ c = omega arith in
          inr (rw z g)

  -- where it isn't the last, it does
  pub reaching_reaches : (a : ℕ) → reaching x a < x.characteristics - 1 → a < 2 ^ x.fraction * unit x (reaching x a)
  reaching_reaches a l =
      ltb-true a (2 ^ x.fraction * unit x (reaching x a)) ((found (λ c. ltb a (2 ^ x.fraction * unit x c)) (x.characteristics - 1) 0).passes (omega arith))

  -- LAW. No value of the format lies strictly between the two multiples of c's last place that enclose a, where c is the least that reaches
  -- a: those of smaller characteristics are below both.
  gap : (c a f d : ℕ) → (c ≡ 0) ⊎ (2 ^ x.fraction * unit x (c - 1) ≤ a) → (f < 2 ^ x.fraction) ⊎ (c ≤ d)
      → (f * unit x d ≤ a / unit x c * unit x c) ⊎ (suc (a / unit x c) * unit x c ≤ f * unit x d)
  gap c a f d least l = ⊎_elim (λ (h : d < c). ⊎_elim (λ (l : f < 2 ^ x.fraction). inl (lower l c least h)) (λ (k : c ≤ d). upper k) l) (λ (h : c ≤ d). upper h) (below_or d c)
    where
      upper : c ≤ d → (f * unit x d ≤ a / unit x c * unit x c) ⊎ (suc (a / unit x c) * unit x c ≤ f * unit x d)
      upper h =
          let e : f * unit x d ≡ f * 2 ^ (x.digit * d - x.digit * c) * unit x c = ap (λ (y : ℕ). f * y) (above c d h) ∙ sym (mul_assoc f _ _) in
          subst (λ (y : ℕ). (y ≤ a / unit x c * unit x c) ⊎ (suc (a / unit x c) * unit x c ≤ y)) (sym e)
          (multiple_apart (f * 2 ^ (x.digit * d - x.digit * c)) (a / unit x c) (unit x c))

      lower : f < 2 ^ x.fraction → (c : ℕ) → (c ≡ 0) ⊎ (2 ^ x.fraction * unit x (c - 1) ≤ a) → d < c → f * unit x d ≤ a / unit x c * unit x c
      lower l zero q h = absurd (none h)
        where
          none : d < 0 → ⊥
          none h = omega arith
      lower l (suc c) q h =
          let big : 2 ^ x.fraction * unit x c ≤ a = ⊎_elim (λ (z : suc c ≡ 0). absurd (no z)) (λ (y : 2 ^ x.fraction * unit x (suc c - 1) ≤ a). simp unary_clauses at y) q in
          let first : f * unit x d ≤ 2 ^ x.fraction * unit x c = le_trans (mul-le-mul_right (unit x d) (let k : f ≤ 2 ^ x.fraction = omega arith in k)) (mul-le-mul_left (2 ^ x.fraction) (pow_mono (powers h))) in
          let bound : 2 ^ (x.fraction - x.digit) * unit x (suc c) ≤ a = le_trans (le_of_eq (sym (step c))) big in
          let e = enclosed (unit x (suc c)) a (pow_pos (x.base + x.digit * suc c)) in
          ⊎_elim (λ (y : 2 ^ (x.fraction - x.digit) * unit x (suc c) ≤ a / unit x (suc c) * unit x (suc c)). le_trans first (le_trans (le_of_eq (step c)) y))
          (λ y. absurd (clash e.1 y bound)) (multiple_apart (2 ^ (x.fraction - x.digit)) (a / unit x (suc c)) (unit x (suc c)))
        where
          no : suc c ≡ 0 → ⊥
          no z = omega arith

          powers : d < suc c → x.base + x.digit * d ≤ x.base + x.digit * c
          powers h = let k : x.digit * d ≤ x.digit * c = mul-le-mul_left x.digit (let j : d ≤ c = omega arith in j) in omega (arith, k)

          clash : {i j k : ℕ} → i < j → j ≤ k → k ≤ i → ⊥
          clash f g h = omega arith

  -- ## Magnitudes

  -- a magnitude of the format with sign s
  pub record OfFormat (s : Bool) (b : ℕ) : Type 0 where
    pub c : ℕ
    pub f : ℕ
    pub below : c < x.characteristics
    pub fits : f < limit x s
    pub is : b ≡ f * unit x c

  -- a fraction of p bits is one of either sign
  pub under_limit : (s : Bool) (f : ℕ) → f < 2 ^ x.fraction → f < limit x s
  under_limit s f h = omega arith

  -- the one fraction of more bits
  full : (s : Bool) (f : ℕ) → f < limit x s → 2 ^ x.fraction ≤ f → f ≡ 2 ^ x.fraction
  full s f l k = go (x.more && s) l
    where
      go : (b : Bool) → f < 2 ^ x.fraction + pick b 1 0 → f ≡ 2 ^ x.fraction
      go true l = omega arith
      go false l = omega arith

  -- it is needed beside the last characteristic alone
  narrow : (s : Bool) (b : ℕ) → OfFormat s b → (t : OfFormat s b) × ((t.f < 2 ^ x.fraction) ⊎ (x.characteristics - 1 ≤ t.c))
  narrow s b t =
      ⊎_elim (λ (k : t.f < 2 ^ x.fraction). (t, inl k))
      (λ (k : 2 ^ x.fraction ≤ t.f).
      ⊎_elim
      (λ (j : suc t.c < x.characteristics). (
        record {
          c = suc t.c;
          f = 2 ^ (x.fraction - x.digit);
          below = j;
          fits = under_limit s _ step_fits;
          is = t.is ∙ ap (λ (y : ℕ). y * unit x t.c) (full s t.f t.fits k) ∙ step t.c;
        },
        inl step_fits,
      ))
      (λ (j : x.characteristics ≤ suc t.c). (t, inr (omega arith))) (below_or (suc t.c) x.characteristics))
      (below_or t.f (2 ^ x.fraction))

  -- no magnitude is beyond the end
  pub under_end : (s : Bool) (b : ℕ) → OfFormat s b → b ≤ range_end x s
  under_end s b t =
      let k : t.c ≤ x.characteristics - 1 = omega (arith, t.below) in
      let z : x.digit * t.c ≤ x.digit * (x.characteristics - 1) = mul-le-mul_left x.digit k in
      let f : t.f ≤ limit x s - 1 = omega (arith, t.fits) in
      le_trans (le_of_eq t.is)
      (le_trans (mul-le-mul_right (unit x t.c) f)
      (mul-le-mul_left (limit x s - 1) (pow_mono (let j : x.base + x.digit * t.c ≤ x.base + x.digit * (x.characteristics - 1) = omega (arith, z) in j))))

  -- LAW. No magnitude of the format is nearer; of two equally near it is the one nearer zero.
  pub nearest_magnitude_lem : (s : Bool) (a b : ℕ) → OfFormat s b → let n = nearest_magnitude x s a in
      (dist a n ≤ dist a b) × ((dist a n ≡ dist a b) → (n ≤ b) ⊎ (b ≡ n))
  nearest_magnitude_lem s a b t = go (ltb a (range_end x s)) refl
    where
      c : ℕ
      c = reaching x a

      side : (b ≤ a / unit x c * unit x c) ⊎ (suc (a / unit x c) * unit x c ≤ b)
      side =
          let n = narrow s b t in
          let w = n.0 in
          let f : (w.f < 2 ^ x.fraction) ⊎ (c ≤ w.c) = ⊎_elim (λ h. inl h) (λ (h : x.characteristics - 1 ≤ w.c). inr (le_trans (reaching_low a) h)) n.1 in
          subst (λ (z : ℕ). (z ≤ a / unit x c * unit x c) ⊎ (suc (a / unit x c) * unit x c ≤ z)) (sym w.is) (gap c a w.f w.c (reaching_least a) f)

      far : (e : ℕ) → e ≤ a → b ≤ e → (dist a e ≤ dist a b) × ((dist a e ≡ dist a b) → (e ≤ b) ⊎ (b ≡ e))
      far e k u = (omega arith, λ q. inr (omega arith))

      go : (t : Bool) → ltb a (range_end x s) ≡ t → let n = pick t (nearest_multiple (unit x c) a) (range_end x s) in (dist a n ≤ dist a b) × ((dist a n ≡ dist a b) → (n ≤ b) ⊎ (b ≡ n))
      go true e = multiple_nearest (unit x c) a b (pow_pos (x.base + x.digit * c)) side
      go false e = far (range_end x s) (ltb-false a (range_end x s) e) (under_end s b t)

  -- LAW. The nearest magnitude is one of the format's.
  pub nearest_among : (s : Bool) (a : ℕ) → OfFormat s (nearest_magnitude x s a)
  nearest_among s a = go (ltb a (range_end x s)) refl
    where
      c : ℕ
      c = reaching x a

      u : ℕ
      u = unit x c

      q : ℕ
      q = a / u

      in_range : c < x.characteristics
      in_range = omega (arith, reaching_low a, ok.some)

      -- the quotient is a fraction, and so is the next number, or it is the first of the next characteristic
      early : q < 2 ^ x.fraction → suc c < x.characteristics → (y : ℕ) → y ≤ suc q → OfFormat s (y * u)
      early h l y o =
          ⊎_elim (λ (k : y < 2 ^ x.fraction). record { c = c; f = y; below = in_range; fits = under_limit s y k; is = refl })
          (λ (k : 2 ^ x.fraction ≤ y).
          let e : y ≡ 2 ^ x.fraction = omega arith in
          record { c = suc c; f = 2 ^ (x.fraction - x.digit); below = l; fits = under_limit s _ step_fits; is = ap (λ (i : ℕ). i * u) e ∙ step c })
          (below_or y (2 ^ x.fraction))

      -- beside the last characteristic the end is not passed
      late : q < limit x s - 1 → (y : ℕ) → y ≤ suc q → OfFormat s (y * u)
      late h y o = record { c = c; f = y; below = in_range; fits = omega arith; is = refl }

      -- the nearest multiple is one of the two
      either : ((y : ℕ) → y ≤ suc q → OfFormat s (y * u)) → OfFormat s (nearest_multiple u a)
      either f = by_side (OfFormat s) u a (λ h. f (suc q) (omega arith)) (λ h. f q (omega arith))

      go : (b : Bool) → ltb a (range_end x s) ≡ b → OfFormat s (pick b (nearest_multiple u a) (range_end x s))
      go true e =
          either
          (⊎_elim
          (λ (l : c < x.characteristics - 1). early ((div-lt_iff_lt-mul (pow_pos (x.base + x.digit * c))).1 (reaching_reaches a l)) (omega arith))
          (λ (l : x.characteristics - 1 ≤ c).
          let z : x.characteristics - 1 ≡ c = omega (arith, reaching_low a) in
          let p : a < (limit x s - 1) * u = subst (λ (y : ℕ). a < (limit x s - 1) * unit x y) z (ltb-true a (range_end x s) e) in
          late ((div-lt_iff_lt-mul (pow_pos (x.base + x.digit * c))).1 p)) (below_or c (x.characteristics - 1)))
      go false e =
          record { c = x.characteristics - 1; f = limit x s - 1; below = omega (arith, ok.some); fits = omega (arith, pow_pos x.fraction); is = refl }

  -- ## Values

  -- LAW. The nearest value is one of the format's.
  pub nearest_in_lem : (v : ℤ) → in_format x (nearest_in x v) ≡ true
  nearest_in_lem v =
      let s = is_negative v in
      let t = nearest_among s (nat_abs v) in
      fits_in_format x (nearest_in x v) t.c t.below
      (subst (λ (b : ℕ). fits_at x (sign_magnitude s b) t.c ≡ true) (sym t.is) (serves_value x s t.f t.c t.fits))

  -- the magnitude of a value of the format
  pub value_among : (v : ℤ) → in_format x v ≡ true → OfFormat (is_negative v) (nat_abs v)
  value_among v e =
      let p = placed_is x v _ _ (placed_some x v e) in
      record { c = _; f = _; below = p.below; fits = p.fits; is = p.is }

  -- LAW. A value of the format is its own nearest,
  pub nearest_self : (v : ℤ) → in_format x v ≡ true → nearest_in x v ≡ v
  nearest_self v e =
      ap (sign_magnitude (is_negative v)) (none (nat_abs v) _ (nearest_magnitude_lem (is_negative v) (nat_abs v) (nat_abs v) (value_among v e)).0) ∙ signed_back v
    where
      none : (a n : ℕ) → dist a n ≤ dist a a → n ≡ a
      none a n h = omega arith

  -- and every other value becomes another one.
  pub nearest_other : (v : ℤ) → nearest_in x v ≡ v → in_format x v ≡ true
  nearest_other v e = subst (λ (w : ℤ). in_format x w ≡ true) e (nearest_in_lem v)

-- ## The codes

pub code_rounds : (code : ℕ) → is_code code ≡ true → ShortDigits (format_of code)
code_rounds code h = go code (code_is code h)
  where
    go : (code : ℕ) → Code code → ShortDigits (format_of code)
    go code ibm = record { small = omega arith; steps = omega arith; some = omega arith }
    go code whole32 = record { small = omega arith; steps = omega arith; some = omega arith }
    go code whole16 = record { small = omega arith; steps = omega arith; some = omega arith }
    go code gain = record { small = omega arith; steps = omega arith; some = omega arith }
    go code ieee = record { small = omega arith; steps = omega arith; some = omega arith }
    go code whole8 = record { small = omega arith; steps = omega arith; some = omega arith }
