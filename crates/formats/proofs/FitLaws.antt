-- Which characteristics serve ± o × 2 ^ k with an odd o: k says where it is whole, the length of o where it is small. Assumes nothing.
use mathlib.Core.Path.{◌≡◌, sym, ap, ◌∙◌, subst}
use mathlib.Core.Logic.{⊎_elim}
use mathlib.Core.Bool.{Bool, true, false, ◌&&◌}
use Prim.Native.Nat.{ℕ, suc, ◌+◌, ◌-◌, ◌*◌, ◌/◌, ◌%◌, ◌^◌, ◌≤◌, ◌<◌}
use native.Mathlib.Nat.{le_trans, le_of_eq, mul_assoc, zero-mod, zero-div, pow-suc, lt_of_lt_of_le, mul-le-mul_left, mul-le-mul_right, mul-lt-mul_of_pos_right, le_of_mul-le-mul_right, lt_of_mul-lt-mul_right, mul-pos}
use native.Mathlib.Omega.{arith}
use borrow.Author.Tests.{lt-ltb, le-ltb, le-leb, lt-leb, eq-eqb, ne_eqb}
use lib.Dec.{leb}
use lib.Pow.{pow-add, pow_pos, pow_mono}
use lib.IntN.{pos}
use Rattle.numbers.specs.Walk.{pick}
use Rattle.numbers.proofs.SignLaws.{below_or}
use Rattle.numbers.specs.SignMagnitude.{sign_magnitude}
use Rattle.numbers.proofs.BoolLaws.{and_false}
use Rattle.formats.specs.Format.{unit, limit, fits_at, placed_at, placed, beside}
use Rattle.std.specs.Prelude.{Some, None}
use Rattle.formats.specs.Steps.{Length, Lowest}
use Rattle.formats.specs.declared.Format.{Format}
use Rattle.numbers.proofs.FirstLaws.{first_at, none_passes}
use Rattle.formats.proofs.Powers.{parted, exact_div, exact_mod, inexact, whole}
use Rattle.numbers.proofs.Magnitudes.{neg_signed, abs_signed}

-- ## Bit lengths

module _ (o k n p u f : ℕ) (is : o * 2 ^ k ≡ f * 2 ^ u) where
  -- a magnitude of few bits has a small fraction
  pub small : (s : Bool) → Length (pick s 1 0) o n → n + k ≤ p + u → f < 2 ^ p + pick s 1 0
  small false l h =
      let a : o * 2 ^ k < 2 ^ n * 2 ^ k = mul-lt-mul_of_pos_right (rw add_zero' at l.holds) (pow_pos k) in
      let b : 2 ^ n * 2 ^ k ≤ 2 ^ p * 2 ^ u = rw (← (pow-add 2 n k), ← (pow-add 2 p u)) (pow_mono h) in
      rw add_zero' (lt_of_mul-lt-mul_right (2 ^ u) (subst (λ (x : ℕ). x < 2 ^ p * 2 ^ u) is (lt_of_lt_of_le a b)))
    where
      add_zero' : (x : ℕ) → x + 0 ≡ x
      add_zero' x = omega arith
  small true l h =
      let j : o ≤ 2 ^ n = omega (arith, l.holds) in
      let b : 2 ^ n * 2 ^ k ≤ 2 ^ p * 2 ^ u = rw (← (pow-add 2 n k), ← (pow-add 2 p u)) (pow_mono h) in
      let c : f ≤ 2 ^ p = le_of_mul-le-mul_right (subst (λ (x : ℕ). x ≤ 2 ^ p * 2 ^ u) is (le_trans (mul-le-mul_right (2 ^ k) j) b)) (pow_pos u) in
      omega arith

  -- one of too many bits has a fraction that is too large
  pub large : (s : Bool) → Length (pick s 1 0) o n → p + u < n + k → 2 ^ p + pick s 1 0 ≤ f
  large s l h = go s l.least
    where
      twice : 2 * (2 ^ p * 2 ^ u) ≤ 2 ^ n * 2 ^ k
      twice =
          let e : 2 * (2 ^ p * 2 ^ u) ≡ 2 ^ suc (p + u) = omega (arith, pow-suc 2 (p + u), pow-add 2 p u) in
          le_trans (le_of_eq e) (le_trans (pow_mono h) (le_of_eq (pow-add 2 n k)))

      go : (s : Bool) → 2 ^ n + pick s 1 0 ≤ 2 * o → 2 ^ p + pick s 1 0 ≤ f
      go false l =
          let a : 2 ^ n * 2 ^ k ≤ 2 * o * 2 ^ k = mul-le-mul_right (2 ^ k) (let z : 2 ^ n ≤ 2 * o = omega arith in z) in
          let b : 2 * o * 2 ^ k ≡ 2 * (f * 2 ^ u) = mul_assoc 2 o (2 ^ k) ∙ ap (λ (x : ℕ). 2 * x) is in
          let c : 2 ^ p * 2 ^ u ≤ f * 2 ^ u = omega (arith, twice) in
          let d : 2 ^ p ≤ f = le_of_mul-le-mul_right c (pow_pos u) in
          omega arith
      go true l =
          let a : 2 ^ n * 2 ^ k < 2 * o * 2 ^ k = mul-lt-mul_of_pos_right (let z : 2 ^ n < 2 * o = omega arith in z) (pow_pos k) in
          let b : 2 * o * 2 ^ k ≡ 2 * (f * 2 ^ u) = mul_assoc 2 o (2 ^ k) ∙ ap (λ (x : ℕ). 2 * x) is in
          let c : 2 ^ p * 2 ^ u < f * 2 ^ u = omega (arith, twice) in
          let d : 2 ^ p < f = lt_of_mul-lt-mul_right (2 ^ u) c in
          omega arith

-- ## The characteristics that serve

module _ (x : Format) where
  -- the power of the last place
  abbrev pub place : ℕ → ℕ
  place c = x.base + x.digit * c

  pub places_rise : (i c : ℕ) → i ≤ c → place i ≤ place c
  places_rise i c h = let k : x.digit * i ≤ x.digit * c = mul-le-mul_left x.digit h in omega (arith, k)

  -- zero fits everywhere
  pub zero_fits : (c : ℕ) → fits_at x (pos 0) c ≡ true
  zero_fits c = rw (zero-mod, zero-div) (lt-ltb 0 (limit x false) (let z : 0 < 2 ^ x.fraction + pick (x.more && false) 1 0 = omega (arith, pow_pos x.fraction) in z))

  -- ± o × 2 ^ k with an odd o
  module _ (s : Bool) (o k : ℕ) (odd : o % 2 ≡ 1) where
    some : 0 < o * 2 ^ k
    some = mul-pos (let z : 0 < o = omega (arith, odd) in z) (pow_pos k)

    pub no_whole : (c : ℕ) → k < place c → fits_at x (sign_magnitude s (o * 2 ^ k)) c ≡ false
    no_whole c h = rw (abs_signed s (o * 2 ^ k), ne_eqb (o * 2 ^ k % unit x c) 0 (inexact o k (place c) odd h))

    nowhere : ((i : ℕ) → i < x.characteristics → fits_at x (sign_magnitude s (o * 2 ^ k)) i ≡ false) → placed x (sign_magnitude s (o * 2 ^ k)) ≡ None
    nowhere f =
        ap (placed_at x (sign_magnitude s (o * 2 ^ k))) (none_passes (fits_at x (sign_magnitude s (o * 2 ^ k))) x.characteristics 0 (λ i z h. f i (omega arith)))
        ∙ rw (le-ltb (0 + x.characteristics) x.characteristics (omega arith))

    -- with a last 1 below all last places it is nowhere
    pub placed_low : k < x.base → placed x (sign_magnitude s (o * 2 ^ k)) ≡ None
    placed_low h = nowhere (λ i l. no_whole i (omega (arith, places_rise 0 i (omega arith))))

    -- and of n bits
    module _ (n : ℕ) (length : Length (pick (x.more && s) 1 0) o n) where
      -- LAW. A characteristic serves where its last place is not above the value's last 1, and its fraction reaches the value's first.
      pub fits_is : (c : ℕ) → fits_at x (sign_magnitude s (o * 2 ^ k)) c ≡ leb (place c) k && leb (n + k) (x.fraction + place c)
      fits_is c =
          rw (abs_signed s (o * 2 ^ k), neg_signed s (o * 2 ^ k) some)
          (⊎_elim
          (λ (h : k < place c). rw (lt-leb (place c) k h, ne_eqb (o * 2 ^ k % unit x c) 0 (inexact o k (place c) odd h)))
          (λ (h : place c ≤ k).
          let z = exact_mod o k (place c) h in
          let w = whole (o * 2 ^ k) (unit x c) z in
          rw (le-leb (place c) k h, eq-eqb (o * 2 ^ k % unit x c) 0 z)
          (⊎_elim
          (λ (l : x.fraction + place c < n + k). le-ltb (o * 2 ^ k / unit x c) (limit x s) (large o k n x.fraction (place c) (o * 2 ^ k / unit x c) w (x.more && s) length l) ∙ sym (lt-leb (n + k) (x.fraction + place c) l))
          (λ (l : n + k ≤ x.fraction + place c). lt-ltb (o * 2 ^ k / unit x c) (limit x s) (small o k n x.fraction (place c) (o * 2 ^ k / unit x c) w (x.more && s) length l) ∙ sym (le-leb (n + k) (x.fraction + place c) l))
          (below_or (x.fraction + place c) (n + k)))) (below_or k (place c)))

      pub no_bits : (c : ℕ) → x.fraction + place c < n + k → fits_at x (sign_magnitude s (o * 2 ^ k)) c ≡ false
      no_bits c h = fits_is c ∙ rw (lt-leb (n + k) (x.fraction + place c) h) (and_false (leb (place c) k))

      pub serves : (c : ℕ) → place c ≤ k → n + k ≤ x.fraction + place c → fits_at x (sign_magnitude s (o * 2 ^ k)) c ≡ true
      serves c h l = fits_is c ∙ rw (le-leb (place c) k h, le-leb (n + k) (x.fraction + place c) l)

      -- the fraction of a characteristic that serves
      pub fraction_at : (c : ℕ) → place c ≤ k → n + k ≤ x.fraction + place c → o * 2 ^ (k - place c) < limit x s
      fraction_at c h l = small o k n x.fraction (place c) (o * 2 ^ (k - place c)) (parted o k (place c) h) (x.more && s) length l

      -- the least characteristic whose fraction reaches the value's first 1 is the least that serves, or none serves
      module _ (c : ℕ) (low : Lowest (n + k) (x.fraction + x.base) x.digit c) where
        below : (i : ℕ) → i < c → fits_at x (sign_magnitude s (o * 2 ^ k)) i ≡ false
        below i h = no_bits i (omega (arith, low.least i h))

        pub placed_at_lem : c < x.characteristics → place c ≤ k → placed x (sign_magnitude s (o * 2 ^ k)) ≡ Some (beside c (o * 2 ^ (k - place c)))
        placed_at_lem h l =
            ap (placed_at x (sign_magnitude s (o * 2 ^ k))) (first_at (fits_at x (sign_magnitude s (o * 2 ^ k))) x.characteristics 0 c (omega arith) (omega arith) (serves c l (omega (arith, low.enough))) (λ i z. below i))
            ∙ rw (lt-ltb c x.characteristics h, abs_signed s (o * 2 ^ k), exact_div o k (place c) l)

        pub placed_high : x.characteristics ≤ c → placed x (sign_magnitude s (o * 2 ^ k)) ≡ None
        placed_high h = nowhere (λ i l. below i (omega arith))

        pub placed_odd : k < place c → placed x (sign_magnitude s (o * 2 ^ k)) ≡ None
        placed_odd h = nowhere (λ i l. ⊎_elim (λ (j : i < c). below i j) (λ (j : c ≤ i). no_whole i (lt_of_lt_of_le h (places_rise c i j))) (below_or i c))

  -- zero has characteristic 0 and fraction 0
  pub placed_zero : 0 < x.characteristics → placed x (pos 0) ≡ Some (beside 0 0)
  placed_zero h =
      ap (placed_at x (pos 0)) (first_at (fits_at x (pos 0)) x.characteristics 0 0 (omega arith) (omega arith) (zero_fits 0) (λ i z l. absurd (none i l)))
      ∙ rw (lt-ltb 0 x.characteristics h, zero-div)
    where
      none : (i : ℕ) → i < 0 → ⊥
      none i l = omega arith
