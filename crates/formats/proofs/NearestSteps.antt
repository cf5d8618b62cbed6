-- The steps by which the nearest value of ± o × 2 ^ k with an odd o is found: by the length of o, the least characteristic that reaches it,
-- and the nearest whole number of its last places. Assumes nothing.
use mathlib.Core.Path.{◌≡◌, sym, ap, ◌∙◌, subst}
use mathlib.Core.Logic.{◌⊎◌, inl, inr, ⊎_elim}
use mathlib.Core.Bool.{Bool, true, false, ◌&&◌}
use Prim.Native.Nat.{ℕ, zero, suc, ◌+◌, ◌-◌, ◌*◌, ◌/◌, ◌%◌, ◌^◌, ◌≤◌, ◌<◌, min}
use native.Mathlib.Nat.{one-mul, mul-pos, pow-suc, mul_assoc, mul_comm, mul-mod_left, le_trans, le_of_eq, lt_of_lt_of_le, mul-le-mul, mul-le-mul_right, mul-lt-mul_of_pos_right, le_of_mul-le-mul_right, div-lt_iff_lt-mul, le-div_iff_mul-le}
use native.Mathlib.Omega.{arith}
use borrow.Author.Tests.{lt-ltb, le-ltb}
use lib.Dec.{T, ltb}
use lib.Pow.{pow-add, pow_pos, pow_mono}
use lib.IntN.{nat_abs}
use Rattle.numbers.specs.Walk.{pick}
use Rattle.numbers.specs.SignMagnitude.{sign_magnitude}
use Rattle.numbers.proofs.SignLaws.{below_or}
use Rattle.numbers.proofs.Magnitudes.{neg_signed, abs_signed}
use Rattle.numbers.proofs.FirstLaws.{first_at, none_passes}
use Rattle.formats.specs.Format.{unit, limit}
use Rattle.formats.specs.Steps.{Length, Lowest}
use Rattle.formats.specs.Nearest.{nearest_multiple, reaching, range_end, nearest_magnitude, nearest_in, changes_in}
use Rattle.formats.specs.declared.Format.{Format}
use Rattle.formats.proofs.FitLaws.{place, places_rise, placed_at_lem, placed_odd}
use Rattle.formats.proofs.PlacedLaws.{placed_in, placed_none}
use Rattle.formats.proofs.DifferLaws.{same_differs, other_differs}
use Rattle.formats.proofs.RoundLaws.{multiple_above, multiple_below}
use Rattle.formats.proofs.NearestLaws.{ShortDigits, step, step_fits, nearest_self, nearest_other}

-- ## Changes

module _ (x : Format) (s : Bool) (a : ℕ) (some : 0 < a) where
  -- the nearest value of a magnitude with its sign
  pub nearest_signed : nearest_in x (sign_magnitude s a) ≡ sign_magnitude s (nearest_magnitude x s a)
  nearest_signed = rw (neg_signed s a some, abs_signed s a)

  -- it changes where its magnitude does
  changes_not : nearest_magnitude x s a ≡ a → changes_in x (sign_magnitude s a) ≡ 0
  changes_not e = (same_differs (sign_magnitude s a) (nearest_in x (sign_magnitude s a))).1 (sym (nearest_signed ∙ ap (sign_magnitude s) e))

  changes_so : (nearest_magnitude x s a ≡ a → ⊥) → changes_in x (sign_magnitude s a) ≡ 1
  changes_so f =
      (other_differs (sign_magnitude s a) (nearest_in x (sign_magnitude s a))).1
      (λ e. f (sym (abs_signed s (nearest_magnitude x s a)) ∙ ap nat_abs (sym nearest_signed ∙ sym e) ∙ abs_signed s a))

-- ## Steps

module _ (x : Format) (ok : ShortDigits x) (s : Bool) (o k : ℕ) (odd : o % 2 ≡ 1) (n : ℕ) (length : Length (pick (x.more && s) 1 0) o n) (c : ℕ) (low : Lowest (n + k) (x.fraction + x.base) x.digit c) where
  some : 0 < o * 2 ^ k
  some = mul-pos (let z : 0 < o = omega (arith, odd) in z) (pow_pos k)

  -- by the bits of o, a magnitude is beyond the fractions of a characteristic
  twice : (i : ℕ) → i < c → 2 * (2 ^ x.fraction * unit x i) ≤ 2 ^ n * 2 ^ k
  twice i h =
      let l : suc (x.fraction + place x i) ≤ n + k = omega (arith, low.least i h) in
      let e : 2 * (2 ^ x.fraction * unit x i) ≡ 2 ^ suc (x.fraction + place x i) = omega (arith, pow-suc 2 (x.fraction + place x i), pow-add 2 x.fraction (place x i)) in
      le_trans (le_of_eq e) (le_trans (pow_mono l) (le_of_eq (pow-add 2 n k)))

  passed : (i : ℕ) → i < c → 2 ^ x.fraction * unit x i ≤ o * 2 ^ k
  passed i h =
      let l : 2 ^ n * 2 ^ k ≤ 2 * o * 2 ^ k = mul-le-mul_right (2 ^ k) (let z : 2 ^ n ≤ 2 * o = omega (arith, length.least) in z) in
      omega (arith, l, twice i h, mul_assoc 2 o (2 ^ k))

  -- beyond the last characteristic is beyond the end
  pub past_end : x.characteristics - 1 < c → range_end x s < o * 2 ^ k
  past_end h = go (x.more && s) length.least
    where
      u : ℕ
      u = unit x (x.characteristics - 1)

      go : (b : Bool) → 2 ^ n + pick b 1 0 ≤ 2 * o → (2 ^ x.fraction + pick b 1 0 - 1) * u < o * 2 ^ k
      go false l =
          let f : (2 ^ x.fraction + 0 - 1) * u < 2 ^ x.fraction * u = mul-lt-mul_of_pos_right (let z : 2 ^ x.fraction + 0 - 1 < 2 ^ x.fraction = omega (arith, pow_pos x.fraction) in z) (pow_pos (place x (x.characteristics - 1))) in
          lt_of_lt_of_le f (passed (x.characteristics - 1) h)
      go true l =
          let e : 2 ^ x.fraction + 1 - 1 ≡ 2 ^ x.fraction = omega arith in
          let m : 2 ^ n * 2 ^ k < 2 * o * 2 ^ k = mul-lt-mul_of_pos_right (let z : 2 ^ n < 2 * o = omega arith in z) (pow_pos k) in
          rw e (let z : 2 ^ x.fraction * u < o * 2 ^ k = omega (arith, m, twice (x.characteristics - 1) h, mul_assoc 2 o (2 ^ k)) in z)

  pub magnitude_end : x.characteristics - 1 < c → nearest_magnitude x s (o * 2 ^ k) ≡ range_end x s
  magnitude_end h = rw (le-ltb (o * 2 ^ k) (range_end x s) (let l = past_end h in omega arith))

  pub changes_end : x.characteristics - 1 < c → changes_in x (sign_magnitude s (o * 2 ^ k)) ≡ 1
  changes_end h = changes_so x s (o * 2 ^ k) some (λ e. none (magnitude_end h) e (past_end h))
    where
      none : {a n r : ℕ} → n ≡ r → n ≡ a → r < a → ⊥
      none e f h = omega arith

  -- where the last place isn't above the last 1, the value is one of the format's
  module _ (h : c < x.characteristics) (l : place x c ≤ k) where
    own : nearest_in x (sign_magnitude s (o * 2 ^ k)) ≡ sign_magnitude s (o * 2 ^ k)
    own = nearest_self x ok (sign_magnitude s (o * 2 ^ k)) (placed_in x (sign_magnitude s (o * 2 ^ k)) _ _ (placed_at_lem x s o k odd n length c low h l))

    pub magnitude_own : nearest_magnitude x s (o * 2 ^ k) ≡ o * 2 ^ k
    magnitude_own = sym (abs_signed s (nearest_magnitude x s (o * 2 ^ k))) ∙ ap nat_abs (sym (nearest_signed x s (o * 2 ^ k) some) ∙ own) ∙ abs_signed s (o * 2 ^ k)

    pub changes_exact : changes_in x (sign_magnitude s (o * 2 ^ k)) ≡ 0
    changes_exact = changes_not x s (o * 2 ^ k) some magnitude_own

  -- where it is above, the value is none of the format's, and is rounded
  module _ (h : k < place x c) where
    pub changes_rounded : changes_in x (sign_magnitude s (o * 2 ^ k)) ≡ 1
    changes_rounded =
        changes_so x s (o * 2 ^ k) some
        (λ e.
        let v = sign_magnitude s (o * 2 ^ k) in
        let i = nearest_other x ok v (nearest_signed x s (o * 2 ^ k) some ∙ ap (sign_magnitude s) e) in
        subst T (sym i ∙ placed_none x v (placed_odd x s o k odd n length c low h)) tt)

    -- the fractions of c reach it
    reached : o * 2 ^ k < 2 ^ x.fraction * unit x c
    reached =
        ⊎_elim
        (λ (l : o < 2 ^ n).
        let a : o * 2 ^ k < 2 ^ n * 2 ^ k = mul-lt-mul_of_pos_right l (pow_pos k) in
        lt_of_lt_of_le a (rw (← (pow-add 2 n k), ← (pow-add 2 x.fraction (place x c))) (pow_mono (let z : n + k ≤ x.fraction + place x c = omega (arith, low.enough) in z))))
        (λ (l : 2 ^ n ≤ o).
        let a : o * 2 ^ k ≡ 2 ^ k = ap (λ (y : ℕ). y * 2 ^ k) (one n (exact l)) ∙ one-mul (2 ^ k) in
        let b : 2 ^ k < unit x c = lt_of_lt_of_le (let z : 2 ^ k < 2 * 2 ^ k = omega (arith, pow_pos k) in z) (let z : 2 * 2 ^ k ≤ unit x c = le_trans (le_of_eq (mul_comm 2 (2 ^ k) ∙ sym (pow-suc 2 k))) (pow_mono h) in z) in
        let d : 1 * unit x c ≤ 2 ^ x.fraction * unit x c = mul-le-mul_right (unit x c) (pow_pos x.fraction) in
        omega (arith, a, b, d, one-mul (unit x c))) (below_or o (2 ^ n))
      where
        exact : 2 ^ n ≤ o → o ≡ 2 ^ n
        exact l = go (x.more && s) length.holds
          where
            go : (b : Bool) → o < 2 ^ n + pick b 1 0 → o ≡ 2 ^ n
            go true m = omega arith
            go false m = omega arith

        -- an odd power of two is 1
        one : (n : ℕ) → o ≡ 2 ^ n → o ≡ 1
        one zero e = e
        one (suc n) e =
            let z : o % 2 ≡ 0 = ap (λ (y : ℕ). y % 2) (e ∙ pow-suc 2 n) ∙ mul-mod_left (2 ^ n) 2 in
            absurd (none z)
          where
            none : o % 2 ≡ 0 → ⊥
            none z = omega (arith, odd)

    reaching_is : c ≤ x.characteristics - 1 → reaching x (o * 2 ^ k) ≡ c
    reaching_is m =
        ⊎_elim
        (λ (l : c < x.characteristics - 1). first_at (λ c. ltb (o * 2 ^ k) (2 ^ x.fraction * unit x c)) (x.characteristics - 1) 0 c (omega arith) (omega arith) (lt-ltb (o * 2 ^ k) (2 ^ x.fraction * unit x c) reached) (λ i z j. before i j))
        (λ (l : x.characteristics - 1 ≤ c). none_passes (λ c. ltb (o * 2 ^ k) (2 ^ x.fraction * unit x c)) (x.characteristics - 1) 0 (λ i z j. before i (omega arith)) ∙ omega arith)
        (below_or c (x.characteristics - 1))
      where
        before : (i : ℕ) → i < c → ltb (o * 2 ^ k) (2 ^ x.fraction * unit x i) ≡ false
        before i j = le-ltb (o * 2 ^ k) (2 ^ x.fraction * unit x i) (passed i j)

    -- f last places are the nearest multiple
    module _ (f : ℕ) (is : f * unit x c ≡ nearest_multiple (unit x c) (o * 2 ^ k)) where
      abbrev quotient : ℕ
      quotient = o * 2 ^ k / unit x c

      low_f : quotient ≤ f
      low_f = le_of_mul-le-mul_right (le_trans (multiple_above (unit x c) (o * 2 ^ k)) (le_of_eq (sym is))) (pow_pos (place x c))

      high_f : f ≤ suc quotient
      high_f = le_of_mul-le-mul_right (le_trans (le_of_eq is) (multiple_below (unit x c) (o * 2 ^ k))) (pow_pos (place x c))

      -- they are at most the first number of the next characteristic,
      pub rounded_few : f ≤ 2 ^ x.fraction
      rounded_few = let q : quotient < 2 ^ x.fraction = (div-lt_iff_lt-mul (pow_pos (place x c))).1 reached in omega (arith, high_f)

      -- and at least that of this one
      pub rounded_large : (c ≡ 0) ⊎ (2 ^ (x.fraction - x.digit) ≤ f)
      rounded_large = ⊎_elim (λ (h : 0 < c). inr (go h)) (λ (h : c ≤ 0). inl (omega arith)) (below_or 0 c)
        where
          go : 0 < c → 2 ^ (x.fraction - x.digit) ≤ f
          go h =
              let e : suc (c - 1) ≡ c = omega arith in
              let p : 2 ^ x.fraction * unit x (c - 1) ≤ o * 2 ^ k = passed (c - 1) (omega arith) in
              let q : 2 ^ (x.fraction - x.digit) * unit x c ≤ o * 2 ^ k = subst (λ (y : ℕ). 2 ^ (x.fraction - x.digit) * unit x y ≤ o * 2 ^ k) e (le_trans (le_of_eq (sym (step x ok (c - 1)))) p) in
              le_trans ((le-div_iff_mul-le (pow_pos (place x c))).1 q) low_f

      pub magnitude_inner : c < x.characteristics - 1 → nearest_magnitude x s (o * 2 ^ k) ≡ f * unit x c
      magnitude_inner m = rw (lt-ltb (o * 2 ^ k) (range_end x s) inside, reaching_is (omega arith)) (sym is)
        where
          few : 2 ^ (x.fraction - x.digit) ≤ limit x s - 1
          few = omega (arith, step_fits x ok)

          inside : o * 2 ^ k < range_end x s
          inside = lt_of_lt_of_le reached (le_trans (le_of_eq (step x ok c)) (mul-le-mul few (pow_mono (places_rise x (suc c) (x.characteristics - 1) m))))

      pub magnitude_last : c ≡ x.characteristics - 1 → nearest_magnitude x s (o * 2 ^ k) ≡ min f (limit x s - 1) * unit x c
      magnitude_last m =
          ⊎_elim
          (λ (l : o * 2 ^ k < range_end x s).
          let q : quotient < most = (div-lt_iff_lt-mul (pow_pos (place x c))).1 (subst (λ (y : ℕ). o * 2 ^ k < most * unit x y) (sym m) l) in
          let e : f ≡ min f most = omega (arith, high_f) in
          rw (lt-ltb (o * 2 ^ k) (range_end x s) l, reaching_is (omega arith)) (sym is ∙ ap (λ (y : ℕ). y * unit x c) e))
          (λ (l : range_end x s ≤ o * 2 ^ k).
          let q : most ≤ quotient = (le-div_iff_mul-le (pow_pos (place x c))).1 (subst (λ (y : ℕ). most * unit x y ≤ o * 2 ^ k) (sym m) l) in
          let e : most ≡ min f most = omega (arith, low_f) in
          rw (le-ltb (o * 2 ^ k) (range_end x s) l) (ap (λ (y : ℕ). most * unit x y) (sym m) ∙ ap (λ (y : ℕ). y * unit x c) e))
          (below_or (o * 2 ^ k) (range_end x s))
        where
          most : ℕ
          most = limit x s - 1
