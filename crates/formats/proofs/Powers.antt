-- Powers of two: which of them divide a number, and powers compared. Assumes nothing.
use mathlib.Core.Path.{◌≡◌, sym, ap, ◌∙◌}
use Prim.Native.Nat.{ℕ, suc, ◌+◌, ◌-◌, ◌*◌, ◌/◌, ◌%◌, ◌^◌, ◌≤◌, ◌<◌}
use native.Mathlib.Nat.{mul_assoc, pow-suc, mul-mod_left, mul-div_cancel, sub-add_cancel, div-add-mod', add-zero, le_of_lt}
use native.Mathlib.Omega.{arith}
use mathlib.Core.Logic.{⊎_elim}
use Rattle.numbers.proofs.SignLaws.{below_or}
use lib.Pow.{pow-add, pow_pos, pow_mono, shl-shr}

-- o times 2 ^ k, by another power of two below it
pub parted : (o k j : ℕ) → j ≤ k → o * 2 ^ k ≡ o * 2 ^ (k - j) * 2 ^ j
parted o k j h = ap (λ (x : ℕ). o * 2 ^ x) (sym (sub-add_cancel h)) ∙ ap (λ (x : ℕ). o * x) (pow-add 2 (k - j) j) ∙ sym (mul_assoc o (2 ^ (k - j)) (2 ^ j))

pub exact_div : (o k j : ℕ) → j ≤ k → o * 2 ^ k / 2 ^ j ≡ o * 2 ^ (k - j)
exact_div o k j h = rw (parted o k j h) (mul-div_cancel (o * 2 ^ (k - j)) (pow_pos j))

pub exact_mod : (o k j : ℕ) → j ≤ k → o * 2 ^ k % 2 ^ j ≡ 0
exact_mod o k j h = rw (parted o k j h) (mul-mod_left (o * 2 ^ (k - j)) (2 ^ j))

-- an odd number times 2 ^ k is no whole number of a larger power
pub inexact : (o k j : ℕ) → o % 2 ≡ 1 → k < j → o * 2 ^ k % 2 ^ j ≡ 0 → ⊥
inexact o k j e h z =
    let q = o * 2 ^ k / 2 ^ j in
    let whole : o * 2 ^ k ≡ q * 2 ^ j = sym (div-add-mod' (o * 2 ^ k) (2 ^ j)) ∙ ap (λ (x : ℕ). q * 2 ^ j + x) z ∙ add-zero (q * 2 ^ j) in
    let down : o ≡ q * 2 ^ (j - k) = sym (shl-shr o k) ∙ ap (λ (x : ℕ). x / 2 ^ k) (whole ∙ parted q j k (le_of_lt h)) ∙ shl-shr (q * 2 ^ (j - k)) k in
    let one : j - k ≡ suc (j - k - 1) = omega arith in
    let even : o ≡ q * 2 ^ (j - k - 1) * 2 =
    down ∙ ap (λ (x : ℕ). q * 2 ^ x) one ∙ ap (λ (x : ℕ). q * x) (pow-suc 2 (j - k - 1)) ∙ sym (mul_assoc q (2 ^ (j - k - 1)) 2) in
    let nil : o % 2 ≡ 0 = ap (λ (x : ℕ). x % 2) even ∙ mul-mod_left (q * 2 ^ (j - k - 1)) 2 in
    omega arith

-- a whole number of u's is its quotient times u
pub whole : (x u : ℕ) → x % u ≡ 0 → x ≡ x / u * u
whole x u z = sym (div-add-mod' x u) ∙ ap (λ (y : ℕ). x / u * u + y) z ∙ add-zero (x / u * u)

-- a power that is not above another has no larger exponent
pub exponents : (i j : ℕ) → 2 ^ i < 2 ^ j → i < j
exponents i j h = ⊎_elim (λ (l : i < j). l) (λ (l : j ≤ i). absurd (no (pow_mono l))) (below_or i j)
  where
    no : 2 ^ j ≤ 2 ^ i → ⊥
    no l = omega arith
