-- The twos of a number: every number other than 0 is an odd number times a power of two, in one way. Assumes nothing.
use mathlib.Core.Path.{◌≡◌, refl, sym, ap, ◌∙◌, subst}
use Prim.Native.Nat.{ℕ, zero, suc, ◌*◌, ◌/◌, ◌%◌, ◌^◌, ◌≤◌, ◌<◌}
use native.Mathlib.Nat.{mul-one, mul_assoc, pow-suc, mul-mod_left, mul-div_cancel, zero-lt-suc, le_of_suc-le-suc, lt_of_lt_of_le, mul-le-mul_right, one-mul}
use native.Mathlib.Omega.{arith}
use native.Mathlib.Decide.{dec_lt}
use lib.Count.{count_trailing_zeros, under}
use lib.Pow.{pow_mono, shl-shr}
use Rattle.value.specs.Pair.{twos_in, twos, odd_part}

-- what a number of k digits other than 0 is: odd times the power that its trailing zeros count
pub trailing_split : (k a : ℕ) → 0 < a → a < 2 ^ k → (o : ℕ) × (a ≡ o * 2 ^ count_trailing_zeros k a) × (o % 2 ≡ 1)
unfolding count_trailing_zeros
trailing_split zero a p h = absurd (none a p h)
  where
    none : (a : ℕ) → 0 < a → a < 1 → ⊥
    none a p h = omega arith
trailing_split (suc k) a p h = go (λ q. trailing_split k (a / 2) q.0 q.1) (a % 2) refl
  where
    half : a % 2 ≡ 0 → (0 < a / 2) × (a / 2 < 2 ^ k)
    half e = omega (arith, pow-suc 2 k)

    go : ((0 < a / 2) × (a / 2 < 2 ^ k) → (o : ℕ) × (a / 2 ≡ o * 2 ^ count_trailing_zeros k (a / 2)) × (o % 2 ≡ 1))
        → (d : ℕ) → a % 2 ≡ d → (o : ℕ) × (a ≡ o * 2 ^ under d (count_trailing_zeros k (a / 2))) × (o % 2 ≡ 1)
    go rest zero e =
        let ih = rest (half e) in
        let twice : a ≡ a / 2 * 2 = omega arith in
        (ih.0, twice ∙ ap (λ (x : ℕ). x * 2) ih.1 ∙ mul_assoc ih.0 _ 2 ∙ ap (λ (x : ℕ). ih.0 * x) (sym (pow-suc 2 _)), ih.2)
    go rest (suc d) e = (a, sym (mul-one a), omega arith)

-- and the count is found again, in any number of digits that holds it
pub trailing_at : (k t o : ℕ) → o % 2 ≡ 1 → t < k → count_trailing_zeros k (o * 2 ^ t) ≡ t
unfolding count_trailing_zeros
trailing_at zero t o e h = absurd (none t h)
  where
    none : (t : ℕ) → t < 0 → ⊥
    none t h = omega arith
trailing_at (suc k) zero o e h = rw (mul-one, e)
trailing_at (suc k) (suc t) o e h =
    let twice : o * 2 ^ suc t ≡ o * 2 ^ t * 2 = ap (λ (x : ℕ). o * x) (pow-suc 2 t) ∙ sym (mul_assoc o (2 ^ t) 2) in
    rw (twice, mul-mod_left (o * 2 ^ t) 2, mul-div_cancel (o * 2 ^ t) (zero-lt-suc 1)) (ap suc (trailing_at k t o e (le_of_suc-le-suc h)))

pub below_pow : (n : ℕ) → n < 2 ^ n
below_pow zero = zero-lt-suc 0
below_pow (suc n) = let h = below_pow n in omega (arith, pow-suc 2 n)

pub odd_pos : (o : ℕ) → o % 2 ≡ 1 → 0 < o
odd_pos o e = omega arith

pub below_shl : (o t : ℕ) → o % 2 ≡ 1 → t < o * 2 ^ t
below_shl o t e = lt_of_lt_of_le (below_pow t) (rw one-mul at (mul-le-mul_right (2 ^ t) (odd_pos o e)))

pub odd_shl : (o t : ℕ) → o % 2 ≡ 1 → 0 < o * 2 ^ t
odd_shl o t e = let h = below_shl o t e in omega arith

-- the two parts of an odd number times a power of two
pub twos_is : (n : ℕ) → twos n ≡ count_trailing_zeros n n
unfolding twos twos_in count_trailing_zeros
twos_is n = go n n
  where
    more : (k d h : ℕ) → twos_in k (h % 2) (h / 2) ≡ count_trailing_zeros k h → twos_in (suc k) d h ≡ under d (count_trailing_zeros k h)
    more k zero h e = ap suc e
    more k (suc d) h e = refl

    go : (k n : ℕ) → twos_in k (n % 2) (n / 2) ≡ count_trailing_zeros k n
    go zero n = refl
    go (suc k) n = more k (n % 2) (n / 2) (go k (n / 2))

pub twos_at : (o t : ℕ) → o % 2 ≡ 1 → twos (o * 2 ^ t) ≡ t
twos_at o t e = twos_is (o * 2 ^ t) ∙ trailing_at (o * 2 ^ t) t o e (below_shl o t e)

pub odd_part_at : (o t : ℕ) → o % 2 ≡ 1 → odd_part (o * 2 ^ t) ≡ o
unfolding odd_part
odd_part_at o t e = rw (twos_at o t e) (shl-shr o t)

-- a word's trailing zeros are the number's twos, and its odd part comes by the shift
pub record Split (a t : ℕ) : Type 0 where
  pub o : ℕ
  pub is : a ≡ o * 2 ^ t
  pub odd : o % 2 ≡ 1
  pub shifted : a / 2 ^ t ≡ o

pub split : (k a : ℕ) → 0 < a → a < 2 ^ k → Split a (count_trailing_zeros k a)
split k a p h =
    let s = trailing_split k a p h in
    record { o = s.0; is = s.1; odd = s.2; shifted = ap (λ (x : ℕ). x / 2 ^ count_trailing_zeros k a) s.1 ∙ shl-shr s.0 _ }

-- a number that is not 0 is its odd part times its twos
pub twos_split : (a : ℕ) → 0 < a → (a ≡ odd_part a * 2 ^ twos a) × (odd_part a % 2 ≡ 1)
unfolding odd_part
twos_split a p =
    let s = subst (Split a) (sym (twos_is a)) (split a a p (below_pow a)) in
    (s.is ∙ ap (λ (x : ℕ). x * 2 ^ twos a) (sym s.shifted), ap (λ (x : ℕ). x % 2) s.shifted ∙ s.odd)

-- a word's count of trailing zeros is below its width, where the word is not 0
pub trailing_lt : (k a : ℕ) → 0 < a → a < 2 ^ k → count_trailing_zeros k a < k
trailing_lt k a p h =
    let s = split k a p h in
    let t = count_trailing_zeros k a in
    let big : 2 ^ t ≤ s.o * 2 ^ t = rw one-mul at (mul-le-mul_right (2 ^ t) (odd_pos s.o s.odd)) in
    pick (dec_lt t k) (λ l. omega (arith, pow_mono l, s.is))
  where
    pick : Dec (count_trailing_zeros k a < k) → (k ≤ count_trailing_zeros k a → ⊥) → count_trailing_zeros k a < k
    pick (yes p) f = p
    pick (no n) f = absurd (f (omega arith))
