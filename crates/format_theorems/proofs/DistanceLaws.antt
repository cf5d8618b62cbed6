-- The distance of two values by their signs and magnitudes, and the distance of a value from the nearest one of a format. Assumes nothing.
use mathlib.Core.Path.{◌≡◌, refl, sym, ap, ap₂, ◌∙◌, subst}
use mathlib.Core.Logic.{◌⊎◌, inl, inr, ⊎_elim}
use mathlib.Core.Bool.{Bool, true, false, not, ◌&&◌}
use Prim.Native.Nat.{ℕ, zero, suc, ◌+◌, ◌-◌, ◌*◌, ◌/◌, ◌^◌, ◌≤◌, ◌<◌}
use native.Mathlib.Nat.{zero-mul, mul-zero, add-zero, le_refl, le_trans, le_of_eq, le_antisymm, le-div_iff_mul-le, mul-le-mul_right, mul-le-mul_left, mul-lt-mul_of_pos_right}
use native.Mathlib.Omega.{arith}
use borrow.Author.Tests.{lt-ltb, le-ltb}
use lib.Dec.{ltb}
use lib.IntN.{ℤ, nat_abs, sub_ℕ}
use lib.Pow.{pow_pos, pow_mono}
use Rattle.numbers.specs.Walk.{pick}
use Rattle.numbers.specs.SignMagnitude.{sign_magnitude, is_negative}
use Rattle.numbers.proofs.SignLaws.{below_or, sub_below, sub_above, abs_zero}
use Rattle.numbers.proofs.Magnitudes.{abs_signed, signed_back, signed_zero}
use Rattle.numbers.proofs.FirstLaws.{first_le}
use Rattle.formats.specs.Format.{unit, limit, fits_at, in_format}
use Rattle.formats.specs.Nearest.{nearest_multiple, reaching, range_end, nearest_magnitude, nearest_in, distance}
use Rattle.formats.specs.declared.Format.{Format}
use Rattle.formats.proofs.PlacedLaws.{serves_value}
use Rattle.formats.proofs.RoundLaws.{dist, multiple_close, multiple_above}
use Rattle.formats.proofs.NearestLaws.{ShortDigits, OfFormat, step, step_fits, reaching_low, reaching_least, under_limit, nearest_magnitude_lem, nearest_among, value_among}

-- a number below another isn't at least as large
clash : {a b : ℕ} → a < b → b ≤ a → ⊥
clash h l = omega arith

-- ## Distances by sign and magnitude

-- a difference of two naturals, and its other side
sub_dist : (a b : ℕ) → nat_abs (sub_ℕ a b) ≡ dist a b
sub_dist a b =
    ⊎_elim (λ (h : a < b). ap nat_abs (sub_below a b h) ∙ low a b h) (λ (h : b ≤ a). ap nat_abs (sub_above a b h) ∙ high a b h) (below_or a b)
  where
    low : (a b : ℕ) → a < b → suc (b - suc a) ≡ dist a b
    low a b h = omega arith

    high : (a b : ℕ) → b ≤ a → a - b ≡ dist a b
    high a b h = omega arith

swap : (a b : ℕ) → dist a b ≡ dist b a
swap a b = omega arith

-- of one sign they are as far apart as their magnitudes
pub distance_same : (s : Bool) (a b : ℕ) → distance (sign_magnitude s a) (sign_magnitude s b) ≡ dist a b
distance_same false a zero = omega arith
distance_same false a (suc b) = sub_dist a (suc b)
distance_same true zero zero = refl
distance_same true zero (suc b) = omega arith
distance_same true (suc a) zero = sub_dist 0 (suc a) ∙ swap 0 (suc a)
distance_same true (suc a) (suc b) = sub_dist (suc b) (suc a) ∙ swap (suc b) (suc a)

-- of opposite signs by the sum of both
pub distance_opposite : (s : Bool) (a b : ℕ) → distance (sign_magnitude s a) (sign_magnitude (not s) b) ≡ a + b
distance_opposite false a zero = refl
distance_opposite false a (suc b) = refl
distance_opposite true zero zero = refl
distance_opposite true zero (suc b) = sub_dist 0 (suc b) ∙ omega arith
distance_opposite true (suc a) zero = sub_dist 0 (suc a) ∙ omega arith
distance_opposite true (suc a) (suc b) = omega arith

-- two values of one sign, or of opposite signs
signs : (s t : Bool) → (t ≡ s) ⊎ (t ≡ not s)
signs true true = inl refl
signs false false = inl refl
signs true false = inr refl
signs false true = inr refl

-- a value by the sign that it has
of_sign : (v : ℤ) (s : Bool) → is_negative v ≡ s → v ≡ sign_magnitude s (nat_abs v)
of_sign v s e = sym (signed_back v) ∙ ap (λ (b : Bool). sign_magnitude b (nat_abs v)) e

-- ## The nearest value of a format

module _ (x : Format) (ok : ShortDigits x) where
  -- the distance from the nearest value, by magnitudes
  own_distance : (v : ℤ) → distance v (nearest_in x v) ≡ dist (nat_abs v) (nearest_magnitude x (is_negative v) (nat_abs v))
  own_distance v =
      ap (λ (w : ℤ). distance w (nearest_in x v)) (of_sign v (is_negative v) refl)
      ∙ distance_same (is_negative v) (nat_abs v) (nearest_magnitude x (is_negative v) (nat_abs v))

  -- zero is a magnitude of either sign
  zero_among : (s : Bool) → OfFormat x ok s 0
  zero_among s = record { c = 0; f = 0; below = ok.some; fits = under_limit x ok s 0 (pow_pos x.fraction); is = sym (zero-mul (unit x 0)) }

  -- LAW. No value of the format is nearer. One that is as near is the nearest value itself, or farther from zero.
  pub value_nearer : (v w : ℤ) → in_format x w ≡ true
      → (distance v (nearest_in x v) ≤ distance v w) × ((distance v (nearest_in x v) ≡ distance v w) → (w ≡ nearest_in x v) ⊎ (nat_abs (nearest_in x v) < nat_abs w))
  value_nearer v w e = ⊎_elim same other (signs s (is_negative w))
    where
      s : Bool
      s = is_negative v

      a : ℕ
      a = nat_abs v

      b : ℕ
      b = nat_abs w

      n : ℕ
      n = nearest_magnitude x s a

      own : distance v (nearest_in x v) ≡ dist a n
      own = own_distance v

      size : nat_abs (nearest_in x v) ≡ n
      size = abs_signed s n

      mine : v ≡ sign_magnitude s a
      mine = of_sign v s refl

      Claim : Type 0
      Claim = (distance v (nearest_in x v) ≤ distance v w) × ((distance v (nearest_in x v) ≡ distance v w) → (w ≡ nearest_in x v) ⊎ (nat_abs (nearest_in x v) < nat_abs w))

      same : is_negative w ≡ s → Claim
      same q =
          let d : distance v w ≡ dist a b = ap₂ distance mine (of_sign w s q) ∙ distance_same s a b in
          let k = nearest_magnitude_lem x ok s a b (subst (λ (z : Bool). OfFormat x ok z b) q (value_among x ok w e)) in
          let it : b ≡ n → w ≡ nearest_in x v = λ z. of_sign w s q ∙ ap (sign_magnitude s) z in
          let tie : (n ≤ b) ⊎ (b ≡ n) → (w ≡ nearest_in x v) ⊎ (nat_abs (nearest_in x v) < b) =
          ⊎_elim (λ (j : n ≤ b). ⊎_elim (λ (i : n < b). inr (omega (arith, size, i))) (λ (i : b ≤ n). inl (it (omega arith))) (below_or n b)) (λ (j : b ≡ n). inl (it j)) in
          (omega (arith, own, d, k.0), λ h. tie (k.1 (sym own ∙ h ∙ d)))

      -- across zero none is as near but zero itself
      other : is_negative w ≡ not s → Claim
      other q =
          let d : distance v w ≡ a + b = ap₂ distance mine (of_sign w (not s) q) ∙ distance_opposite s a b in
          let k = nearest_magnitude_lem x ok s a 0 (zero_among s) in
          let tie : dist a n ≡ a + b → (w ≡ nearest_in x v) ⊎ (nat_abs (nearest_in x v) < b) =
          λ h. let none : n ≡ 0 = ⊎_elim (λ (j : n ≤ 0). omega arith) (λ (j : 0 ≡ n). sym j) (k.1 (all h k.0)) in
          inl (abs_zero w (no_rest h k.0) ∙ sym (ap (sign_magnitude s) none ∙ signed_zero s)) in
          (omega (arith, own, d, far k.0), λ h. tie (sym own ∙ h ∙ d))
        where
          far : dist a n ≤ dist a 0 → dist a n ≤ a + b
          far h = omega arith

          all : dist a n ≡ a + b → dist a n ≤ dist a 0 → dist a n ≡ dist a 0
          all h l = omega arith

          no_rest : dist a n ≡ a + b → dist a n ≤ dist a 0 → b ≡ 0
          no_rest h l = omega arith

  -- LAW. A value of the format of which the same holds is the nearest value.
  pub value_only : (v w : ℤ) → in_format x w ≡ true → distance v w ≤ distance v (nearest_in x v)
      → (distance v w ≡ distance v (nearest_in x v) → nat_abs w ≤ nat_abs (nearest_in x v)) → w ≡ nearest_in x v
  value_only v w e near tie =
      let k = value_nearer v w e in
      let d : distance v w ≡ distance v (nearest_in x v) = omega (arith, near, k.0) in
      ⊎_elim (λ (z : w ≡ nearest_in x v). z) (λ (z : nat_abs (nearest_in x v) < nat_abs w). absurd (clash z (tie d))) (k.1 (sym d))

-- ## Half of a last place

-- twice the distance of a multiple that is at most half of u away
twice : (u a n : ℕ) → (2 * n ≤ 2 * a + u) × (2 * a ≤ 2 * n + u) → 2 * dist a n ≤ u
twice u a n h = omega (arith, h.0, h.1)

-- the nearest magnitude, by whether the range is left
inner : (x : Format) (s : Bool) (a : ℕ) → a < range_end x s → nearest_magnitude x s a ≡ nearest_multiple (unit x (reaching x a)) a
inner x s a h = rw (lt-ltb a (range_end x s) h)

pub beyond : (x : Format) (s : Bool) (a : ℕ) → range_end x s ≤ a → nearest_magnitude x s a ≡ range_end x s
beyond x s a h = rw (le-ltb a (range_end x s) h)

-- inside the range, ends included, it is the nearest multiple or the number itself
inside : (x : Format) (s : Bool) (a : ℕ) → a ≤ range_end x s
    → (nearest_magnitude x s a ≡ nearest_multiple (unit x (reaching x a)) a) ⊎ (nearest_magnitude x s a ≡ a)
inside x s a h = ⊎_elim (λ (l : a < range_end x s). inl (inner x s a l)) (λ (l : range_end x s ≤ a). inr (beyond x s a l ∙ omega arith)) (below_or a (range_end x s))

-- a characteristic that reaches a magnitude is no less than the first
pub reaching_first : (x : Format) (a c : ℕ) → a < 2 ^ x.fraction * unit x c → reaching x a ≤ c
reaching_first x a c h = first_le (λ i. ltb a (2 ^ x.fraction * unit x i)) (x.characteristics - 1) 0 c (omega arith) (lt-ltb a (2 ^ x.fraction * unit x c) h)

module _ (x : Format) (ok : ShortDigits x) where
  -- LAW. Inside the range the nearest value is at most half of the last place away of the least characteristic that reaches the value.
  pub within_half : (v : ℤ) → nat_abs v ≤ range_end x (is_negative v) → 2 * distance v (nearest_in x v) ≤ unit x (reaching x (nat_abs v))
  within_half v h =
      let a = nat_abs v in
      let u = unit x (reaching x a) in
      rw (own_distance x ok v)
      (⊎_elim (λ e. rw e (twice u a (nearest_multiple u a) (multiple_close u a (pow_pos (x.base + x.digit * reaching x a))))) (λ e. rw e (none a)) (inside x (is_negative v) a h))
    where
      none : (a : ℕ) → 2 * dist a a ≤ unit x (reaching x a)
      none a = omega arith

  -- ## The characteristics that serve the nearest value

  -- the least number that the characteristic below doesn't reach, by the last place of the one that does
  reached : (a c : ℕ) → reaching x a ≡ suc c → 2 ^ (x.fraction - x.digit) * unit x (suc c) ≤ a
  reached a c e =
      ⊎_elim (λ (z : reaching x a ≡ 0). absurd (no z)) (λ (l : 2 ^ x.fraction * unit x (reaching x a - 1) ≤ a).
      let k : reaching x a - 1 ≡ c = omega arith in
      le_trans (le_of_eq (sym (step x ok c))) (rw k at l)) (reaching_least x ok a)
    where
      no : reaching x a ≡ 0 → ⊥
      no z = omega arith

  -- it isn't above the nearest magnitude either, being a multiple of that last place
  reached_near : (s : Bool) (a c : ℕ) → a ≤ range_end x s → reaching x a ≡ suc c → 2 ^ x.fraction * unit x c ≤ nearest_magnitude x s a
  reached_near s a c h e =
      let u = unit x (suc c) in
      let l : 2 ^ (x.fraction - x.digit) * u ≤ a = reached a c e in
      let k : 2 ^ (x.fraction - x.digit) ≤ a / u = (le-div_iff_mul-le (pow_pos (x.base + x.digit * suc c))).1 l in
      let m : 2 ^ (x.fraction - x.digit) * u ≤ nearest_multiple u a = le_trans (mul-le-mul_right u k) (multiple_above u a) in
      le_trans (le_of_eq (step x ok c))
      (⊎_elim
      (λ (q : nearest_magnitude x s a ≡ nearest_multiple (unit x (reaching x a)) a). rw q (rw e m))
      (λ (q : nearest_magnitude x s a ≡ a). rw q l) (inside x s a h))

  -- a later characteristic has no smaller last place
  pub unit_more : (c d : ℕ) → c ≤ d → unit x c ≤ unit x d
  unit_more c d h = let k : x.digit * c ≤ x.digit * d = mul-le-mul_left x.digit h in pow_mono (let z : x.base + x.digit * c ≤ x.base + x.digit * d = omega (arith, k) in z)

  module _ (v : ℤ) (h : nat_abs v ≤ range_end x (is_negative v)) where
    abbrev s : Bool
    s = is_negative v

    abbrev r : ℕ
    r = reaching x (nat_abs v)

    abbrev n : ℕ
    n = nearest_magnitude x s (nat_abs v)

    -- the nearest magnitude is no less than what a characteristic below r has not
    not_below : (c : ℕ) → c < r → 2 ^ x.fraction * unit x c ≤ n
    not_below c l =
        let e : r ≡ suc (r - 1) = omega arith in
        let k : c ≤ r - 1 = omega arith in
        le_trans (mul-le-mul_left (2 ^ x.fraction) (unit_more c (r - 1) k)) (reached_near s (nat_abs v) (r - 1) h e)

    -- LAW. Beside a fraction of p bits, the nearest value has a characteristic of at least that last place.
    pub place_reaches : (c f : ℕ) → f < 2 ^ x.fraction → nat_abs (nearest_in x v) ≡ f * unit x c → r ≤ c
    place_reaches c f few e = ⊎_elim (λ (l : c < r). absurd (clash less (not_below c l))) (λ l. l) (below_or c r)
      where
        is : n ≡ f * unit x c
        is = sym (abs_signed s n) ∙ e

        less : n < 2 ^ x.fraction * unit x c
        less = rw is (mul-lt-mul_of_pos_right few (pow_pos (x.base + x.digit * c)))

    -- LAW. Some characteristic that serves the nearest value has at least that last place.
    pub some_reaches : (c : ℕ) × (r ≤ c) × (c < x.characteristics) × (fits_at x (nearest_in x v) c ≡ true)
    some_reaches = ⊎_elim low high (below_or t.c r)
      where
        t : OfFormat x ok s n
        t = nearest_among x ok s (nat_abs v)

        served_by : (f c : ℕ) → f < limit x s → n ≡ f * unit x c → fits_at x (nearest_in x v) c ≡ true
        served_by f c l e = subst (λ (b : ℕ). fits_at x (sign_magnitude s b) c ≡ true) (sym e) (serves_value x s f c l)

        high : r ≤ t.c → (c : ℕ) × (r ≤ c) × (c < x.characteristics) × (fits_at x (nearest_in x v) c ≡ true)
        high l = (t.c, l, t.below, served_by t.f t.c t.fits t.is)

        -- below it only the one number that two's complement has more, and that is one of r too
        low : t.c < r → (c : ℕ) × (r ≤ c) × (c < x.characteristics) × (fits_at x (nearest_in x v) c ≡ true)
        low l =
            let e : r ≡ suc (r - 1) = omega arith in
            let k : t.c ≤ r - 1 = omega arith in
            let a : n ≤ 2 ^ x.fraction * unit x (r - 1) = le_trans (le_of_eq t.is) (le_trans (mul-le-mul_right (unit x t.c) (few t.f t.fits)) (mul-le-mul_left (2 ^ x.fraction) (unit_more t.c (r - 1) k))) in
            let b : 2 ^ x.fraction * unit x (r - 1) ≤ n = reached_near s (nat_abs v) (r - 1) h e in
            let i : n ≡ 2 ^ (x.fraction - x.digit) * unit x (suc (r - 1)) = le_antisymm a b ∙ step x ok (r - 1) in
            let j : n ≡ 2 ^ (x.fraction - x.digit) * unit x r = rw (← e) at i in
            (r, le_refl r, omega (arith, reaching_low x ok (nat_abs v), ok.some), served_by (2 ^ (x.fraction - x.digit)) r (under_limit x ok s _ (step_fits x ok)) j)
          where
            few : (f : ℕ) → f < limit x s → f ≤ 2 ^ x.fraction
            few f l = go (x.more && s) l
              where
                go : (b : Bool) → f < 2 ^ x.fraction + pick b 1 0 → f ≤ 2 ^ x.fraction
                go true l = omega arith
                go false l = omega arith

-- ## Two values

-- n is what the magnitude a becomes, by last places u up to an end
record Close (u end a n : ℕ) : Type 0 where
  up : 2 * n ≤ 2 * a + u
  down : a < end → 2 * a ≤ 2 * n + u
  far : end ≤ a → n ≡ end

-- of one sign they come out no farther apart than they were, plus u
close_same : (u end a b n m : ℕ) → Close u end a n → Close u end b m → dist n m ≤ dist a b + u
close_same u end a b n m p q =
    ⊎_elim (λ (h : a < end). ⊎_elim (λ (g : b < end). omega (arith, p.up, q.up, p.down h, q.down g)) (λ (g : end ≤ b). omega (arith, p.up, p.down h, q.far g)) (below_or b end))
    (λ (h : end ≤ a). ⊎_elim (λ (g : b < end). omega (arith, q.up, q.down g, p.far h)) (λ (g : end ≤ b). omega (arith, p.far h, q.far g)) (below_or b end)) (below_or a end)

-- and so of opposite signs, each with an end of its own
close_opposite : (u end last a b n m : ℕ) → Close u end a n → Close u last b m → n + m ≤ a + b + u
close_opposite u end last a b n m p q = omega (arith, p.up, q.up)

-- a format of one characteristic
module _ (x : Format) (ok : ShortDigits x) (one : x.characteristics ≡ 1) where
  -- it has one last place
  pub one_unit : (a : ℕ) → unit x (reaching x a) ≡ 2 ^ x.base
  one_unit a =
      let z : reaching x a ≡ 0 = omega (arith, reaching_low x ok a, one) in
      ap (unit x) z ∙ ap (λ (k : ℕ). 2 ^ (x.base + k)) (mul-zero x.digit) ∙ ap (λ (k : ℕ). 2 ^ k) (add-zero x.base)

  magnitude_close : (s : Bool) (a : ℕ) → Close (2 ^ x.base) (range_end x s) a (nearest_magnitude x s a)
  magnitude_close s a = ⊎_elim within out (below_or a (range_end x s))
    where
      u : ℕ
      u = unit x (reaching x a)

      within : a < range_end x s → Close (2 ^ x.base) (range_end x s) a (nearest_magnitude x s a)
      within l =
          let k = multiple_close u a (pow_pos (x.base + x.digit * reaching x a)) in
          rw (inner x s a l, ← (one_unit a)) (record { up = k.0; down = λ h. k.1; far = λ h. absurd (clash l h) })

      out : range_end x s ≤ a → Close (2 ^ x.base) (range_end x s) a (nearest_magnitude x s a)
      out l = rw (beyond x s a l) (record { up = omega arith; down = λ h. absurd (clash h l); far = λ h. refl })

  -- LAW. Any two values come out no farther apart than they were, plus one last place.
  pub one_apart : (v w : ℤ) → distance (nearest_in x v) (nearest_in x w) ≤ distance v w + 2 ^ x.base
  one_apart v w = ⊎_elim same other (signs s (is_negative w))
    where
      s : Bool
      s = is_negative v

      a : ℕ
      a = nat_abs v

      b : ℕ
      b = nat_abs w

      mine : v ≡ sign_magnitude s a
      mine = of_sign v s refl

      n : Bool → ℕ → ℕ
      n t k = nearest_magnitude x t k

      same : is_negative w ≡ s → distance (nearest_in x v) (nearest_in x w) ≤ distance v w + 2 ^ x.base
      same q =
          let d : distance v w ≡ dist a b = ap₂ distance mine (of_sign w s q) ∙ distance_same s a b in
          let e : distance (nearest_in x v) (nearest_in x w) ≡ dist (n s a) (n s b) = ap (λ (t : Bool). distance (nearest_in x v) (sign_magnitude t (n t b))) q ∙ distance_same s (n s a) (n s b) in
          rw (d, e) (close_same (2 ^ x.base) (range_end x s) a b (n s a) (n s b) (magnitude_close s a) (magnitude_close s b))

      other : is_negative w ≡ not s → distance (nearest_in x v) (nearest_in x w) ≤ distance v w + 2 ^ x.base
      other q =
          let t = not s in
          let d : distance v w ≡ a + b = ap₂ distance mine (of_sign w t q) ∙ distance_opposite s a b in
          let e : distance (nearest_in x v) (nearest_in x w) ≡ n s a + n t b = ap (λ (t : Bool). distance (nearest_in x v) (sign_magnitude t (n t b))) q ∙ distance_opposite s (n s a) (n t b) in
          rw (d, e) (close_opposite (2 ^ x.base) (range_end x s) (range_end x t) a b (n s a) (n t b) (magnitude_close s a) (magnitude_close t b))
