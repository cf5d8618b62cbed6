-- The laws of a group under its scalar. Assumes nothing.
use mathlib.Core.Path.{◌≡◌, refl, sym, ap, ◌∙◌, subst}
use mathlib.Core.Logic.{inr}
use mathlib.Core.Bool.{Bool, true, false, not, ◌&&◌, ◌||◌}
use mathlib.Core.List.{List, [], ◌∷◌, ◌++◌}
use Prim.Native.Nat.{ℕ, zero, suc, ◌-◌, ◌*◌, ◌^◌, ◌≤◌, ◌<◌}
use native.Mathlib.Nat.{zero-mod, zero-div, zero-mul}
use native.Mathlib.Omega.{arith}
use borrow.Author.Tests.{eq-eqb, ne_eqb, eqb-true, le-leb, leb-true, leb-false, not-true, not-false}
use lib.Dec.{T, eqb, leb}
use lib.IntN.{ℤ, pos, negsuc, nat_abs, ◌*ℤ◌}
use lib.ListN.{length, length-map, replicate}
use lib.Signed.{mag}
use Rattle.numbers.proofs.WalkLaws.{cons_eq}
use Rattle.numbers.specs.First.{first}
use Rattle.numbers.specs.SignMagnitude.{is_negative, is_multiple, holds, number_of, in_bits}
use Rattle.numbers.proofs.FirstLaws.{found}
use Rattle.numbers.proofs.Magnitudes.{in_bits_lem}
use Rattle.scalars.specs.Scalar.{powers, is_allowed, power_of, scalar_of, scaled_by, scaled_values, serves, smallest, numbers_at, group_numbers, group_scalar, same_number, is_smallest}
use Rattle.scalars.specs.Parts.{largest, Fit32}
use Rattle.scalars.proofs.Fit32.{largest_fits}
use Rattle.numbers.proofs.BoolLaws.{and_true}
use Rattle.numbers.proofs.Multiples.{in_mag, quot_mul, mul_quot}
use Rattle.scalars.proofs.Quotients.{signed_times}
use Rattle.scalars.proofs.Powers.{ten_pos, edge, both_within, power_lt, serves_is, smallest_is, smallest_below, smallest_le}

-- ## Scalars and powers determine each other

-- a scalar of a power has that power, and is allowed
pub power_scalar : (q : ℕ) → q < powers → (power_of (scalar_of q) ≡ q) × (is_allowed (scalar_of q) ≡ true)
unfolding power_of scalar_of
power_scalar zero h = (refl, refl)
power_scalar (suc zero) h = (refl, refl)
power_scalar (suc (suc zero)) h = (refl, refl)
power_scalar (suc (suc (suc zero))) h = (refl, refl)
power_scalar (suc (suc (suc (suc zero)))) h = (refl, refl)
power_scalar (suc (suc (suc (suc (suc zero))))) h = (refl, refl)
power_scalar (suc (suc (suc (suc (suc (suc zero)))))) h = (refl, refl)
power_scalar (suc (suc (suc (suc (suc (suc (suc zero))))))) h = (refl, refl)
power_scalar (suc (suc (suc (suc (suc (suc (suc (suc zero)))))))) h = (refl, refl)
power_scalar (suc (suc (suc (suc (suc (suc (suc (suc (suc q))))))))) h = absurd (omega arith)

pub same_refl : (z : ℤ) → same_number z z ≡ true
same_refl (pos n) = eq-eqb n n refl
same_refl (negsuc n) = eq-eqb n n refl

pub same_true : (x y : ℤ) → same_number x y ≡ true → x ≡ y
same_true (pos a) (pos b) e = ap pos (eqb-true a b e)
same_true (negsuc a) (negsuc b) e = ap negsuc (eqb-true a b e)
same_true (pos a) (negsuc b) e = absurd (subst T (sym e) tt)
same_true (negsuc a) (pos b) e = absurd (subst T (sym e) tt)

-- ## Back and forth

-- at a power at which all are whole, the numbers scaled again are the values
back : (q : ℕ) (vs : List ℤ) → serves vs q ≡ true → scaled_by q (numbers_at q vs) ≡ vs
back q [] e = refl
back q (v ∷ vs) e =
    let a = and_true (holds 32 (10 ^ q) v) (serves vs q) e in
    let b = and_true _ _ a.0 in
    cons_eq (quot_mul (10 ^ q) v b.0) (back q vs a.1)

-- and of numbers scaled, the numbers come back
there : (q : ℕ) (ns : List ℤ) → numbers_at q (scaled_by q ns) ≡ ns
there q [] = refl
there q (n ∷ ns) = cons_eq (mul_quot (10 ^ q) n (ten_pos q)) (there q ns)

-- the smallest power serves, where any does
smallest_serves : (vs : List ℤ) → smallest vs < powers → serves vs (smallest vs) ≡ true
unfolding smallest
smallest_serves vs h = (found (serves vs) powers 0).passes h

-- LAW. What a record holds of a group has the group's scaled values.
pub scale_back : (vs : List ℤ) → smallest vs < powers → scaled_values (group_scalar vs) (group_numbers vs) ≡ vs
unfolding group_numbers group_scalar
scale_back vs h = rw (power_scalar (smallest vs) h).0 (back (smallest vs) vs (smallest_serves vs h))

-- LAW. So a record's scalar is that of the smallest power, and one that a reel may hold.
pub smallest_held : (vs : List ℤ) → smallest vs < powers → is_smallest (group_numbers vs) (group_scalar vs) ≡ true
unfolding is_smallest
smallest_held vs h = rw (scale_back vs h) (same_refl (group_scalar vs))

pub scalar_held : (vs : List ℤ) → smallest vs < powers → is_allowed (group_scalar vs) ≡ true
unfolding group_scalar
scalar_held vs h = (power_scalar (smallest vs) h).1

-- LAW. A group under the scalar of its smallest power stands in the record as it is.
pub held_again : (ns : List ℤ) (z : ℤ) → smallest (scaled_values z ns) < powers → is_smallest ns z ≡ true
    → (group_numbers (scaled_values z ns) ≡ ns) × (group_scalar (scaled_values z ns) ≡ z)
unfolding is_smallest group_numbers group_scalar
held_again ns z h e =
    let z-is : z ≡ scalar_of (smallest (scaled_values z ns)) = same_true z (scalar_of (smallest (scaled_values z ns))) e in
    let q : smallest (scaled_values z ns) ≡ power_of z = sym (power_scalar (smallest (scaled_values z ns)) h).0 ∙ ap power_of (sym z-is) in
    (ap (λ (x : ℕ). numbers_at x (scaled_values z ns)) q ∙ there (power_of z) ns, sym z-is)

-- LAW. The record's numbers fit their fields: 32 signed bits, and 16 for the scalar.
fits_all : (vs : List ℤ) (q : ℕ) → serves vs q ≡ true → Fit32 (numbers_at q vs)
fits_all [] q e = tt
fits_all (v ∷ vs) q e =
    let a = and_true (holds 32 (10 ^ q) v) (serves vs q) e in
    (in_mag 32 (number_of (10 ^ q) v) (and_true (is_multiple (10 ^ q) v) (in_bits 32 (number_of (10 ^ q) v)) a.0).1, fits_all vs q a.1)

pub fit_held : (vs : List ℤ) → smallest vs < powers → Fit32 (group_numbers vs)
unfolding group_numbers
fit_held vs h = fits_all vs (smallest vs) (smallest_serves vs h)

scalar_fits : (q : ℕ) → q < powers → mag (scalar_of q) < 2 ^ 15
unfolding scalar_of
scalar_fits zero h = omega arith
scalar_fits (suc zero) h = omega arith
scalar_fits (suc (suc zero)) h = omega arith
scalar_fits (suc (suc (suc zero))) h = omega arith
scalar_fits (suc (suc (suc (suc zero)))) h = omega arith
scalar_fits (suc (suc (suc (suc (suc zero))))) h = omega arith
scalar_fits (suc (suc (suc (suc (suc (suc zero)))))) h = omega arith
scalar_fits (suc (suc (suc (suc (suc (suc (suc zero))))))) h = omega arith
scalar_fits (suc (suc (suc (suc (suc (suc (suc (suc zero)))))))) h = omega arith
scalar_fits (suc (suc (suc (suc (suc (suc (suc (suc (suc q))))))))) h = absurd (omega arith)

pub scalar_fits16 : (vs : List ℤ) → smallest vs < powers → mag (group_scalar vs) < 2 ^ 15
unfolding group_scalar
scalar_fits16 vs h = scalar_fits (smallest vs) h

-- and there are as many
pub length_held : (vs : List ℤ) → length (group_numbers vs) ≡ length vs
unfolding group_numbers
length_held vs = length-map vs (number_of (10 ^ smallest vs))

-- ## Zeros

zero_serves : (q : ℕ) → holds 32 (10 ^ q) (pos 0) ≡ true
zero_serves q = rw (zero-mod (10 ^ q), zero-div (10 ^ q))

-- zeros behind a group serve every power
serves_padded : (vs : List ℤ) (k q : ℕ) → serves (vs ++ replicate k (pos 0)) q ≡ serves vs q
serves_padded [] zero q = refl
serves_padded [] (suc k) q = rw (zero_serves q, serves_padded [] k q)
serves_padded (v ∷ vs) k q = rw (serves_padded vs k q)

first_same : (t u : ℕ → Bool) → ((x : ℕ) → t x ≡ u x) → (n i : ℕ) → first t n i ≡ first u n i
unfolding first
first_same t u e zero i = refl
first_same t u e (suc n) i = rw (e i, first_same t u e n (suc i))

-- LAW. Zeros behind a group don't change its smallest power, and stay zeros at it.
pub smallest_padded : (vs : List ℤ) (k : ℕ) → smallest (vs ++ replicate k (pos 0)) ≡ smallest vs
unfolding smallest
smallest_padded vs k = first_same (serves (vs ++ replicate k (pos 0))) (serves vs) (serves_padded vs k) powers 0

-- a list of zeros, scaled or at a power
zeros_scaled : (k p : ℕ) → scaled_by p (replicate k (pos 0)) ≡ replicate k (pos 0)
zeros_scaled zero p = refl
zeros_scaled (suc k) p = cons_eq (ap pos (zero-mul (10 ^ p))) (zeros_scaled k p)

zeros_at : (k q : ℕ) → numbers_at q (replicate k (pos 0)) ≡ replicate k (pos 0)
zeros_at zero q = refl
zeros_at (suc k) q = cons_eq (ap pos (zero-div (10 ^ q))) (zeros_at k q)

at_padded : (q : ℕ) (vs : List ℤ) (k : ℕ) → numbers_at q (vs ++ replicate k (pos 0)) ≡ numbers_at q vs ++ replicate k (pos 0)
at_padded q [] k = zeros_at k q
at_padded q (v ∷ vs) k = cons_eq refl (at_padded q vs k)

pub scaled_padded : (p : ℕ) (ns : List ℤ) (k : ℕ) → scaled_by p (ns ++ replicate k (pos 0)) ≡ scaled_by p ns ++ replicate k (pos 0)
scaled_padded p [] k = zeros_scaled k p
scaled_padded p (n ∷ ns) k = cons_eq refl (scaled_padded p ns k)

pub numbers_padded : (vs : List ℤ) (k : ℕ) → group_numbers (vs ++ replicate k (pos 0)) ≡ group_numbers vs ++ replicate k (pos 0)
unfolding group_numbers
numbers_padded vs k = rw (smallest_padded vs k) (at_padded (smallest vs) vs k)

pub scalar_padded : (vs : List ℤ) (k : ℕ) → group_scalar (vs ++ replicate k (pos 0)) ≡ group_scalar vs
unfolding group_scalar
scalar_padded vs k = ap scalar_of (smallest_padded vs k)

-- LAW. A group of zeros stands at the power -4: its scalar is -10000, and its numbers are zeros, whatever its own scalar.
pub zeros_held : (k : ℕ) (z : ℤ) → (group_scalar (scaled_values z (replicate k (pos 0))) ≡ negsuc 9999) × (group_numbers (scaled_values z (replicate k (pos 0))) ≡ replicate k (pos 0))
unfolding group_scalar group_numbers scalar_of smallest first
zeros_held k z =
    rw (zeros_scaled k (power_of z))
    (scalar_padded [] k, numbers_padded [] k)

-- ## Which scalars are the smallest's

-- Some number of a group, times ten, leaves 32 signed bits.
abbrev pub some_leaves : List ℤ → Bool
some_leaves [] = false
some_leaves (n ∷ ns) = not (in_bits 32 (n *ℤ pos 10)) || some_leaves ns

-- The scalar is spelled as in a record: not 0, nor -1, nor any number that isn't a scalar.
abbrev pub is_spelled : ℤ → Bool
is_spelled z = same_number z (scalar_of (power_of z))

-- a number of the group times ten leaves 32 signed bits where the largest magnitude times ten passes 2 ^ 31
or_not : (a b : Bool) → (not a || not b) ≡ not (a && b)
or_not true b = refl
or_not false b = refl

stays_is : (n : ℤ) → mag n < 2 ^ 31 → in_bits 32 (n *ℤ pos 10) ≡ leb (nat_abs n * 10) (2 ^ 31)
stays_is n h = ap (in_bits 32) (signed_times 10 n) ∙ in_bits_lem 32 (is_negative n) (nat_abs n * 10) ∙ edge n 1 h

leaves_is : (ns : List ℤ) → Fit32 ns → some_leaves ns ≡ not (leb (largest ns * 10) (2 ^ 31))
leaves_is [] w = refl
leaves_is (n ∷ ns) w =
    rw (stays_is n w.0, leaves_is ns w.1) (or_not (leb (nat_abs n * 10) (2 ^ 31)) (leb (largest ns * 10) (2 ^ 31)) ∙ ap not (both_within (nat_abs n) (largest ns) 10 (2 ^ 31)))

-- the power is the smallest's where it is the least there is, or some number leaves
at_own : (ns : List ℤ) (p : ℕ) → p < powers → Fit32 ns → (l : Bool) → some_leaves ns ≡ l → eqb p (smallest (scaled_by p ns)) ≡ (eqb p 0 || l)
at_own ns zero h w l e = eq-eqb 0 (smallest (scaled_by 0 ns)) (omega (arith, smallest_le ns 0 h w))
at_own ns (suc k) h w true e =
    let big : 2 ^ 31 < largest ns * 10 = leb-false (largest ns * 10) (2 ^ 31) (not-true _ (sym (leaves_is ns w) ∙ e)) in
    let s : smallest (scaled_by (suc k) ns) ≡ suc k - 0 = smallest_is ns (suc k) 0 h w (record { most = omega arith; within = omega (arith, largest_fits ns w); last = inr big }) in
    rw (ne_eqb (suc k) 0 (λ q. omega arith)) (eq-eqb (suc k) (smallest (scaled_by (suc k) ns)) (omega arith))
at_own ns (suc k) h w false e =
    let one : suc k - k ≡ 1 = omega arith in
    let small : largest ns * 10 ≤ 2 ^ 31 = leb-true (largest ns * 10) (2 ^ 31) (not-false _ (sym (leaves_is ns w) ∙ e)) in
    let s : serves (scaled_by (suc k) ns) k ≡ true = serves_is ns (suc k) k w (omega arith) ∙ rw one (le-leb (largest ns * 10) (2 ^ 31) small) in
    let l = smallest_below (scaled_by (suc k) ns) k (omega arith) s in
    rw (ne_eqb (suc k) 0 (λ q. omega arith)) (ne_eqb (suc k) (smallest (scaled_by (suc k) ns)) (λ q. absurd (apart l q)))
  where
    apart : {m : ℕ} → m ≤ k → suc k ≡ m → ⊥
    apart l q = omega arith

-- a scalar spelled as in a record is that of just its own power, and no other number is the scalar of any
spelled : (z : ℤ) (q : ℕ) → q < powers → (b : Bool) → is_spelled z ≡ b → same_number z (scalar_of q) ≡ (b && eqb (power_of z) q)
spelled z q h b e = go b e (same_number z (scalar_of q)) refl
  where
    -- where z is the scalar of q, its power is q, so it is spelled
    power : same_number z (scalar_of q) ≡ true → power_of z ≡ q
    power t = ap power_of (same_true z (scalar_of q) t) ∙ (power_scalar q h).0

    own : same_number z (scalar_of q) ≡ true → is_spelled z ≡ true
    own t = rw (power t) t

    go : (b : Bool) → is_spelled z ≡ b → (t : Bool) → same_number z (scalar_of q) ≡ t → t ≡ (b && eqb (power_of z) q)
    go false e true t = absurd (subst T (sym (own t) ∙ e) tt)
    go false e false t = refl
    go true e true t = sym (eq-eqb (power_of z) q (power t))
    go true e false t = sym (ne_eqb (power_of z) q (λ p. absurd (subst T (sym (rw p at e) ∙ t) tt)))

-- LAW. A scalar is that of the smallest power exactly when it is -10000, or it is spelled as in a record and some number of the group
-- times ten leaves 32 signed bits.
pub smallest_exactly : (ns : List ℤ) (z : ℤ) → Fit32 ns → is_smallest ns z ≡ (same_number z (negsuc 9999) || (is_spelled z && some_leaves ns))
unfolding is_smallest group_scalar scalar_of
smallest_exactly ns z w = go (is_spelled z) refl
  where
    lt : smallest (scaled_by (power_of z) ns) < powers
    lt = omega (arith, smallest_le ns (power_of z) (power_lt z) w, power_lt z)

    go : (b : Bool) → is_spelled z ≡ b → same_number z (scalar_of (smallest (scaled_by (power_of z) ns))) ≡ (same_number z (scalar_of 0) || (b && some_leaves ns))
    go b e = rw (spelled z (smallest (scaled_by (power_of z) ns)) lt b e, spelled z 0 (omega arith) b e) (last b)
      where
        last : (b : Bool) → (b && eqb (power_of z) (smallest (scaled_by (power_of z) ns))) ≡ ((b && eqb (power_of z) 0) || (b && some_leaves ns))
        last false = refl
        last true = at_own ns (power_of z) (power_lt z) w (some_leaves ns) refl
