-- Which powers serve a group: up to the power of its own scalar, those at which its largest magnitude stays within 2 ^ 31. Assumes
-- nothing.
use mathlib.Core.Path.{◌≡◌, refl, sym, ap, ap₂, ◌∙◌, subst}
use mathlib.Core.Logic.{⊎_elim}
use mathlib.Core.Bool.{Bool, true, false, ◌&&◌}
use mathlib.Core.List.{List, [], ◌∷◌}
use Prim.Native.Nat.{ℕ, zero, suc, ◌+◌, ◌-◌, ◌*◌, ◌^◌, ◌≤◌, ◌<◌, max}
use native.Mathlib.Nat.{not-suc-le-zero, mul_assoc, one-le-pow, pow-le-pow_right, mul-le-mul_left, mul-le-mul_right, le-max_left, le-max_right, pow-suc, sub-add_cancel, zero-mul, max-eq_left, max-eq_right, eq-or-lt_of_le}
use native.Mathlib.Numerals.{add-one}
use native.Mathlib.Omega.{arith}
use borrow.Author.Tests.{lt-ltb, le-ltb, le-leb, lt-leb}
use lib.Dec.{T, leb, ltb, eqb}
use lib.Pow.{pow-add}
use lib.IntN.{ℤ, pos, negsuc, neg_ℤ, nat_abs, ◌*ℤ◌}
use lib.ListN.{length, get_or}
use lib.Signed.{mag}
use Rattle.numbers.specs.Walk.{pick}
use Rattle.numbers.proofs.BoolLaws.{and_false}
use Rattle.numbers.proofs.SignLaws.{below_or}
use Rattle.numbers.proofs.WalkLaws.{cons_eq}
use Rattle.numbers.specs.SignMagnitude.{is_negative, is_multiple, number_of, holds, in_bits, sign_magnitude}
use Rattle.numbers.proofs.Magnitudes.{signed_mul}
use Rattle.numbers.proofs.Multiples.{mul_multiple}
use Rattle.numbers.proofs.FirstLaws.{first_at, found}
use Rattle.scalars.specs.Scalar.{zeros_in, power_of, powers, scaled_by, serves, smallest, numbers_at, group_numbers}
use Rattle.scalars.specs.Parts.{largest, Raised, Fit32}
use Rattle.scalars.proofs.Fit32.{largest_fits}
use Rattle.scalars.proofs.Quotients.{signed_times, quot_signed, holds_signed}

one_of_two : (t : Bool) (x y m : ℕ) → x ≤ m → y ≤ m → pick t x y ≤ m
one_of_two true x y m h l = h
one_of_two false x y m h l = l

zeros_le : (n : ℕ) → zeros_in n ≤ 4
zeros_le n =
    one_of_two (eqb n 10) 1 (pick (eqb n 100) 2 (pick (eqb n 1000) 3 (pick (eqb n 10000) 4 0))) 4 (omega arith)
    (one_of_two (eqb n 100) 2 (pick (eqb n 1000) 3 (pick (eqb n 10000) 4 0)) 4 (omega arith)
    (one_of_two (eqb n 1000) 3 (pick (eqb n 10000) 4 0) 4 (omega arith) (one_of_two (eqb n 10000) 4 0 4 (omega arith) (omega arith))))

-- the powers of scalars are 0 to 8
pub power_lt : (z : ℤ) → power_of z < powers
unfolding power_of
power_lt (pos n) = omega (arith, zeros_le n)
power_lt (negsuc n) = omega arith

pub ten_pos : (k : ℕ) → 0 < 10 ^ k
ten_pos k = one-le-pow k 10 (omega arith)

-- a number with d zeros behind it, times ten, has one more
pub one_zero_more : (m d f : ℕ) → f ≡ m * 10 ^ d → f * 10 ≡ m * 10 ^ (d + 1)
one_zero_more m d f e = ap (λ (x : ℕ). x * 10) e ∙ mul_assoc m (10 ^ d) 10 ∙ ap (λ (x : ℕ). m * x) (sym (pow-suc 10 d)) ∙ ap (λ (x : ℕ). m * 10 ^ x) (sym (add-one d))

-- of p zeros, q can be taken off again
pub parted : (a p q : ℕ) → q ≤ p → a * 10 ^ p ≡ a * 10 ^ (p - q) * 10 ^ q
parted a p q h = ap (λ (x : ℕ). a * 10 ^ x) (sym (sub-add_cancel h)) ∙ ap (λ (x : ℕ). a * x) (pow-add 10 (p - q) q) ∙ sym (mul_assoc a (10 ^ (p - q)) (10 ^ q))

-- 2 ^ 31 is no number of 32 signed bits times a power of ten
no_edge : (n k : ℕ) → n < 2 ^ 31 → n * 10 ^ k ≡ 2 ^ 31 → ⊥
no_edge n zero h e = omega arith
no_edge n (suc k) h e =
    let t : n * 10 ^ k * 10 ≡ 2 ^ 31 = mul_assoc n (10 ^ k) 10 ∙ ap (λ (x : ℕ). n * x) (sym (pow-suc 10 k)) ∙ e in
    omega arith

-- so the sign plays no part
pub edge : (n : ℤ) (k : ℕ) → mag n < 2 ^ 31 → ltb (nat_abs n * 10 ^ k) (2 ^ 31 + pick (is_negative n) 1 0) ≡ leb (nat_abs n * 10 ^ k) (2 ^ 31)
edge (pos n) k h =
    ⊎_elim (λ (l : n * 10 ^ k < 2 ^ 31). rw (lt-ltb (n * 10 ^ k) (2 ^ 31) l, le-leb (n * 10 ^ k) (2 ^ 31) (omega arith)))
    (λ (l : 2 ^ 31 ≤ n * 10 ^ k). let d : 2 ^ 31 < n * 10 ^ k = ⊎_elim (λ (x : 2 ^ 31 < n * 10 ^ k). x) (λ (x : n * 10 ^ k ≤ 2 ^ 31). absurd (no_edge n k h (omega arith))) (below_or (2 ^ 31) (n * 10 ^ k)) in rw (le-ltb (n * 10 ^ k) (2 ^ 31) l, lt-leb (n * 10 ^ k) (2 ^ 31) d)) (below_or (n * 10 ^ k) (2 ^ 31))
edge (negsuc n) k h =
    ⊎_elim (λ (l : suc n * 10 ^ k < 2 ^ 31 + 1). rw (lt-ltb (suc n * 10 ^ k) (2 ^ 31 + 1) l, le-leb (suc n * 10 ^ k) (2 ^ 31) (omega arith)))
    (λ (l : 2 ^ 31 + 1 ≤ suc n * 10 ^ k). rw (le-ltb (suc n * 10 ^ k) (2 ^ 31 + 1) l, lt-leb (suc n * 10 ^ k) (2 ^ 31) (omega arith))) (below_or (suc n * 10 ^ k) (2 ^ 31 + 1))

-- one number under p, at a power up to p
served : (n : ℤ) (p q : ℕ) → mag n < 2 ^ 31 → q ≤ p → holds 32 (10 ^ q) (n *ℤ pos (10 ^ p)) ≡ leb (nat_abs n * 10 ^ (p - q)) (2 ^ 31)
served n p q h l =
    ap (holds 32 (10 ^ q)) (signed_times (10 ^ p) n ∙ ap (sign_magnitude (is_negative n)) (parted (nat_abs n) p q l)) ∙ holds_signed (is_negative n) 32 (nat_abs n * 10 ^ (p - q)) (10 ^ q) (ten_pos q) ∙ edge n (p - q) h

-- both of two magnitudes are within a bound where the larger is
pub both_within : (a b f m : ℕ) → (leb (a * f) m && leb (b * f) m) ≡ leb (max a b * f) m
both_within a b f m =
    ⊎_elim (λ (l : m < max a b * f). rw (lt-leb (max a b * f) m l) (out l))
    (λ (l : max a b * f ≤ m). rw (le-leb (max a b * f) m l, le-leb (a * f) m (omega (arith, mul-le-mul_right f (le-max_left a b))), le-leb (b * f) m (omega (arith, mul-le-mul_right f (le-max_right a b))))) (below_or m (max a b * f))
  where
    out : m < max a b * f → (leb (a * f) m && leb (b * f) m) ≡ false
    out l =
        ⊎_elim (λ (h : a < b). let x : m < b * f = subst (λ (y : ℕ). m < y * f) (max-eq_right (omega arith)) l in rw (lt-leb (b * f) m x) (no_and (leb (a * f) m)))
        (λ (h : b ≤ a). let x : m < a * f = subst (λ (y : ℕ). m < y * f) (max-eq_left h) l in rw (lt-leb (a * f) m x)) (below_or a b)
      where
        no_and : (t : Bool) → (t && false) ≡ false
        no_and true = refl
        no_and false = refl

-- LAW. Up to the power of its scalar, the largest magnitude of a group decides which powers serve it.
pub serves_is : (ns : List ℤ) (p q : ℕ) → Fit32 ns → q ≤ p → serves (scaled_by p ns) q ≡ leb (largest ns * 10 ^ (p - q)) (2 ^ 31)
serves_is [] p q h l = rw (zero-mul (10 ^ (p - q)))
serves_is (n ∷ ns) p q h l = rw (served n p q h.0 l, serves_is ns p q h.1 l) (both_within (nat_abs n) (largest ns) (10 ^ (p - q)) (2 ^ 31))

-- LAW. The smallest power lies as many below that of the scalar as zeros can be put behind the largest magnitude.
pub smallest_is : (ns : List ℤ) (p d : ℕ) → p < powers → Fit32 ns → Raised (largest ns) p d → smallest (scaled_by p ns) ≡ p - d
unfolding smallest
smallest_is ns p d h w r =
    first_at (serves (scaled_by p ns)) powers 0 (p - d) (omega arith) (omega arith) yes (λ x _ l. no x l)
  where
    m : ℕ
    m = largest ns

    back : p - (p - d) ≡ d
    back = omega (arith, r.most)

    yes : serves (scaled_by p ns) (p - d) ≡ true
    yes = serves_is ns p (p - d) w (omega arith) ∙ rw back (le-leb (m * 10 ^ d) (2 ^ 31) r.within)

    no : (x : ℕ) → x < p - d → serves (scaled_by p ns) x ≡ false
    no x l =
        let up : d + 1 ≤ p - x = omega arith in
        let more : m * 10 ^ (d + 1) ≤ m * 10 ^ (p - x) = mul-le-mul_left m (pow-le-pow_right (omega arith) up) in
        let big : 2 ^ 31 < m * 10 ^ (p - x) =
        ⊎_elim (λ (e : d ≡ p). absurd (none e)) (λ (b : 2 ^ 31 < m * 10 ^ (d + 1)). omega arith) r.last in
        serves_is ns p x w (omega arith) ∙ lt-leb (m * 10 ^ (p - x)) (2 ^ 31) big
      where
        none : d ≡ p → ⊥
        none e = omega arith

-- LAW. A group's own power serves it.
pub own_serves : (ns : List ℤ) (p : ℕ) → Fit32 ns → serves (scaled_by p ns) p ≡ true
own_serves ns p w = serves_is ns p p w (omega arith) ∙ rw (same p) (le-leb (largest ns * 1) (2 ^ 31) (omega (arith, largest_fits ns w)))
  where
    same : (p : ℕ) → p - p ≡ 0
    same p = omega arith

-- LAW. No power that serves a group is below the smallest.
pub smallest_below : (vs : List ℤ) (q : ℕ) → q < powers → serves vs q ≡ true → smallest vs ≤ q
unfolding smallest
smallest_below vs q h e =
    let f = found (serves vs) powers 0 in
    ⊎_elim (λ (l : q < smallest vs). absurd (subst T (sym e ∙ f.before q (omega arith) l) tt)) (λ l. l) (below_or q (smallest vs))

-- LAW. So the smallest lies at most at the power of the group's own scalar.
pub smallest_le : (ns : List ℤ) (p : ℕ) → p < powers → Fit32 ns → smallest (scaled_by p ns) ≤ p
smallest_le ns p h w = smallest_below (scaled_by p ns) p h (own_serves ns p w)

pub smallest_lt : (ns : List ℤ) (p : ℕ) → p < powers → Fit32 ns → smallest (scaled_by p ns) < powers
smallest_lt ns p h w = omega (arith, smallest_le ns p h w)

-- ## The numbers at the smallest power

-- a negated magnitude of at most 2 ^ 31 fits
neg_fits : (x : ℕ) → x ≤ 2 ^ 31 → mag (neg_ℤ (pos x)) < 2 ^ 31
neg_fits zero h = omega arith
neg_fits (suc x) h = omega arith

-- with zeros behind it a number of 32 signed bits fits while its magnitude stays within 2 ^ 31
pub times_fits : (n : ℤ) (d : ℕ) → mag n < 2 ^ 31 → nat_abs n * 10 ^ d ≤ 2 ^ 31 → mag (n *ℤ pos (10 ^ d)) < 2 ^ 31
times_fits (pos n) d h l = ⊎_elim (λ (e : n * 10 ^ d ≡ 2 ^ 31). absurd (no_edge n d h e)) (λ (x : n * 10 ^ d < 2 ^ 31). x) (eq-or-lt_of_le l)
times_fits (negsuc n) d h l = neg_fits (suc n * 10 ^ d) l

-- d below the power of the scalar, the numbers have d zeros more
pub number_at_lem : (n : ℤ) (p d : ℕ) → d ≤ p → number_of (10 ^ (p - d)) (n *ℤ pos (10 ^ p)) ≡ n *ℤ pos (10 ^ d)
number_at_lem n p d h =
    let s = is_negative n in
    let a = nat_abs n in
    let back : p - (p - d) ≡ d = omega arith in
    let q : a * 10 ^ p ≡ a * 10 ^ d * 10 ^ (p - d) = parted a p (p - d) (omega arith) ∙ ap (λ (x : ℕ). a * 10 ^ x * 10 ^ (p - d)) back in
    ap (number_of (10 ^ (p - d))) (signed_times (10 ^ p) n ∙ ap (sign_magnitude s) q) ∙ quot_signed s (a * 10 ^ d) (10 ^ (p - d)) (ten_pos (p - d)) ∙ sym (signed_times (10 ^ d) n)

numbers_at_lem : (ns : List ℤ) (p d : ℕ) → d ≤ p → numbers_at (p - d) (scaled_by p ns) ≡ scaled_by d ns
numbers_at_lem [] p d h = refl
numbers_at_lem (n ∷ ns) p d h = cons_eq (number_at_lem n p d h) (numbers_at_lem ns p d h)

-- LAW. What a record holds of a group: its numbers, each with as many zeros behind it as the smallest power lies below that of its scalar.
pub group_scaled : (ns : List ℤ) (p : ℕ) → p < powers → Fit32 ns → group_numbers (scaled_by p ns) ≡ scaled_by (p - smallest (scaled_by p ns)) ns
unfolding group_numbers
group_scaled ns p h w =
    let q = smallest (scaled_by p ns) in
    let l : q ≤ p = smallest_le ns p h w in
    let back : p - (p - q) ≡ q = omega arith in
    ap (λ (x : ℕ). numbers_at x (scaled_by p ns)) (sym back) ∙ numbers_at_lem ns p (p - q) (omega arith)

-- ## Where a power doesn't serve

-- one number under p, at a power up to p, with zeros behind it
held_below : (n : ℤ) (p q : ℕ) → q ≤ p → holds 32 (10 ^ q) (n *ℤ pos (10 ^ p)) ≡ in_bits 32 (n *ℤ pos (10 ^ (p - q)))
held_below n p q l =
    let back : p - (p - q) ≡ q = omega arith in
    let number : number_of (10 ^ q) (n *ℤ pos (10 ^ p)) ≡ n *ℤ pos (10 ^ (p - q)) = ap (λ (x : ℕ). number_of (10 ^ x) (n *ℤ pos (10 ^ p))) (sym back) ∙ number_at_lem n p (p - q) (omega arith) in
    let parts : n *ℤ pos (10 ^ p) ≡ (n *ℤ pos (10 ^ (p - q))) *ℤ pos (10 ^ q) =
    signed_times (10 ^ p) n ∙ ap (sign_magnitude (is_negative n)) (parted (nat_abs n) p q l) ∙ sym (signed_mul (is_negative n) (nat_abs n * 10 ^ (p - q)) (10 ^ q)) ∙ ap (λ (z : ℤ). z *ℤ pos (10 ^ q)) (sym (signed_times (10 ^ (p - q)) n)) in
    let whole : is_multiple (10 ^ q) (n *ℤ pos (10 ^ p)) ≡ true = ap (is_multiple (10 ^ q)) parts ∙ mul_multiple (10 ^ q) (n *ℤ pos (10 ^ (p - q))) in
    ap₂ (λ (b : Bool) (z : ℤ). b && in_bits 32 z) whole number

-- LAW. A power below that of the group's scalar doesn't serve it exactly where some number, with as many zeros behind it, leaves 32 bits.
pub serves_leaves : (ns : List ℤ) (p q : ℕ) → q ≤ p → serves (scaled_by p ns) q ≡ false → (j : ℕ) × (j < length ns) × (in_bits 32 (get_or ns j (pos 0) *ℤ pos (10 ^ (p - q))) ≡ false)
serves_leaves [] p q l e = absurd (subst T e tt)
serves_leaves (n ∷ ns) p q l e = go (λ x. serves_leaves ns p q l x) (in_bits 32 (n *ℤ pos (10 ^ (p - q)))) refl
  where
    go : (serves (scaled_by p ns) q ≡ false → (j : ℕ) × (j < length ns) × (in_bits 32 (get_or ns j (pos 0) *ℤ pos (10 ^ (p - q))) ≡ false))
        → (b : Bool) → in_bits 32 (n *ℤ pos (10 ^ (p - q))) ≡ b → (j : ℕ) × (j < suc (length ns)) × (in_bits 32 (get_or (n ∷ ns) j (pos 0) *ℤ pos (10 ^ (p - q))) ≡ false)
    go rest false x = (0, omega arith, x)
    go rest true x =
        let r = rest (rw (held_below n p q l, x) at e) in
        (suc r.0, omega (arith, r.1), r.2)

pub leaves_serves : (ns : List ℤ) (p q : ℕ) → q ≤ p → (j : ℕ) → j < length ns → in_bits 32 (get_or ns j (pos 0) *ℤ pos (10 ^ (p - q))) ≡ false → serves (scaled_by p ns) q ≡ false
leaves_serves [] p q l j h e = absurd (not-suc-le-zero h)
leaves_serves (n ∷ ns) p q l zero h e = rw (held_below n p q l, e)
leaves_serves (n ∷ ns) p q l (suc j) h e = rw (leaves_serves ns p q l j (omega arith) e) (and_false (holds 32 (10 ^ q) (n *ℤ pos (10 ^ p))))
