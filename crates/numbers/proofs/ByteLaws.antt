-- A number and its bytes determine each other, at every width. Assumes nothing.
use Rattle.std.proofs.Common.{◌≡◌, ℕ, zero, suc, ◌+◌, ◌*◌, ◌/◌, ◌%◌, ◌^◌, ◌<◌, List, [], ◌∷◌, ◌++◌, length, ◌==◌, get_or, sym, refl, ap, ◌∙◌, add-zero, add_assoc, mod-eq_of_lt, zero-lt-suc, eq-eqb, mul_assoc, mul_comm, add-mul, pow-suc, zero-add, zero-mul, mul-one, div-one, arith, pow-add}
use native.Mathlib.Nat.{mod-one, div-div-eq-div-mul, one-le-pow, mul-add-div_right, mul-add-mod_self_right}
use lib.Arith.{mod-mul, digits_div, digits_lt}
use Rattle.numbers.proofs.WalkLaws.{all_at, cons_eq, size_bytes}
use Rattle.numbers.specs.Walk.{walk, pick, bytes_at}
use Rattle.numbers.specs.BigEndian.{number_after, number, bytes_of}
use Rattle.numbers.specs.Terms.{Bytes}

-- The bytes of a number are bytes.
pub bytes_of_lem : (k n : ℕ) → Bytes (bytes_of k n)
bytes_of_lem zero n = tt
bytes_of_lem (suc k) n = (omega arith, bytes_of_lem k n)

-- There are as many as were asked for.
pub length_bytes : (k n : ℕ) → length (bytes_of k n) ≡ k
length_bytes zero n = refl
length_bytes (suc k) n = ap suc (length_bytes k n)

some : (k : ℕ) → 0 < 256 ^ k
some k = one-le-pow k 256 (zero-lt-suc 255)

-- a stands above the bytes of n
after_bytes : (k a n : ℕ) → number_after a (bytes_of k n) ≡ a * 256 ^ k + n % 256 ^ k
after_bytes zero a n = rw (mod-one, mul-one, add-zero)
after_bytes (suc k) a n =
    after_bytes k (a * 256 + n / 256 ^ k % 256) n
    ∙ rw (pow-suc 256 k, mul_comm (256 ^ k) 256, mod-mul n {m = 256} (omega arith) (some k), add-mul) (ap (λ (x : ℕ). x + n / 256 ^ k % 256 * 256 ^ k + n % 256 ^ k) (mul_assoc a 256 (256 ^ k)) ∙ add_assoc _ _ _)

-- the bytes of a number stand for it
pub number_bytes_lem : (k n : ℕ) → n < 256 ^ k → number (bytes_of k n) ≡ n
number_bytes_lem k n h = after_bytes k 0 n ∙ rw (zero-mul, zero-add) (mod-eq_of_lt h)

-- a number stands above the bytes after it
after_is : (a : ℕ) (l : List ℕ) → number_after a l ≡ a * 256 ^ length l + number l
after_is a [] = rw (mul-one, add-zero)
after_is a (b ∷ l) =
    let p = 256 ^ length l in
    let high : a * 256 * p ≡ a * 256 ^ suc (length l) = mul_assoc a 256 p ∙ ap (λ (x : ℕ). a * x) (mul_comm 256 p ∙ sym (pow-suc 256 (length l))) in
    after_is (a * 256 + b) l ∙ rw (add-mul, high) (add_assoc _ _ _ ∙ ap (λ (x : ℕ). a * 256 ^ suc (length l) + x) (ap (λ (x : ℕ). x * p + number l) (sym (zero-add b)) ∙ sym (after_is (0 + b) l)))

-- the first byte stands above the rest
first_is : (b : ℕ) (l : List ℕ) → number (b ∷ l) ≡ b * 256 ^ length l + number l
first_is b l = after_is (0 + b) l ∙ rw zero-add

-- k bytes make a number below 256 ^ k
pub number_lt : (l : List ℕ) → Bytes l → number l < 256 ^ length l
number_lt [] h = omega arith
number_lt (b ∷ l) h = rw (first_is b l, pow-suc 256 (length l), mul_comm (256 ^ length l) 256) (digits_lt h.0 (number_lt l h.1))

-- what stands above k bytes is none of them
low_bytes : (k j a n : ℕ) → bytes_of k (a * 256 ^ (j + k) + n) ≡ bytes_of k n
low_bytes zero j a n = refl
low_bytes (suc k) j a n =
    let p = 256 ^ k in
    let up : j + suc k ≡ suc j + k = omega arith in
    let whole : a * 256 ^ (suc j + k) ≡ a * 256 ^ j * 256 * p =
    ap (λ (x : ℕ). a * x) (pow-add 256 (suc j) k ∙ ap (λ (x : ℕ). x * p) (pow-suc 256 j)) ∙ sym (mul_assoc a (256 ^ j * 256) p) ∙ ap (λ (x : ℕ). x * p) (sym (mul_assoc a (256 ^ j) 256)) in
    let digit : (a * 256 ^ (suc j + k) + n) / p % 256 ≡ n / p % 256 =
    rw (whole, mul-add-div_right (some k) (a * 256 ^ j * 256) n) (mul-add-mod_self_right (a * 256 ^ j) 256 (n / p)) in
    rw up (cons_eq digit (low_bytes k (suc j) a n))

-- and the bytes of that number are those bytes
pub bytes_number : (l : List ℕ) → Bytes l → bytes_of (length l) (number l) ≡ l
bytes_number [] h = refl
bytes_number (b ∷ l) h =
    let k = length l in
    let n = number l in
    rw (first_is b l)
    (cons_eq (ap (λ (x : ℕ). x % 256) (digits_div b (number_lt l h.1)) ∙ mod-eq_of_lt h.0)
    (ap (λ (x : ℕ). bytes_of k (b * 256 ^ x + n)) (sym (zero-add k)) ∙ low_bytes k 0 b n ∙ bytes_number l h.1))

-- ## The last byte

-- The last byte stands below the bytes before it.
last_after : (a : ℕ) (l : List ℕ) (b : ℕ) → number_after a (l ++ (b ∷ [])) ≡ number_after a l * 256 + b
last_after a [] b = refl
last_after a (x ∷ l) b = last_after (a * 256 + x) l b

pub number_last : (l : List ℕ) (b : ℕ) → number (l ++ (b ∷ [])) ≡ number l * 256 + b
number_last l b = last_after 0 l b

-- The k + 1 lowest bytes of a number are the k before its last byte, and that one.
pub bytes_last : (k n : ℕ) → bytes_of (suc k) n ≡ bytes_of k (n / 256) ++ (n % 256 ∷ [])
bytes_last zero n = rw div-one
bytes_last (suc k) n =
    let p : n / 256 ^ suc k ≡ n / 256 / 256 ^ k = ap (λ (x : ℕ). n / x) (pow-suc 256 k ∙ mul_comm (256 ^ k) 256) ∙ sym (div-div-eq-div-mul n 256 (256 ^ k)) in
    cons_eq (ap (λ (x : ℕ). x % 256) p) (bytes_last k n)

-- ## Bytes by offset

-- a list of bytes has a byte at every offset: past its end 0 is read
pub byte_at_lem : (s : List ℕ) → Bytes s → (i : ℕ) → get_or s i 0 < 256
byte_at_lem [] h i = omega arith
byte_at_lem (b ∷ s) h zero = h.0
byte_at_lem (b ∷ s) h (suc i) = byte_at_lem s h.1 i

-- and where it has one at every offset, it is a list of bytes
pub all_bytes : (s : List ℕ) → ((i : ℕ) → get_or s i 0 < 256) → Bytes s
all_bytes [] h = tt
all_bytes (b ∷ s) h = (h 0, all_bytes s (λ i. h (suc i)))

pub bytes_at_lem : (s : List ℕ) → Bytes s → (at k : ℕ) → Bytes (bytes_at s at k)
unfolding bytes_at
bytes_at_lem s h at k = all_at (λ b. b < 256) (λ a. get_or s a 0) (byte_at_lem s h) 1 k at

-- the number in k bytes, and those bytes again
pub number_at_lem : (s : List ℕ) → Bytes s → (at k : ℕ) → number (bytes_at s at k) < 256 ^ k
number_at_lem s h at k = rw (size_bytes s at k) at (number_lt (bytes_at s at k) (bytes_at_lem s h at k))

pub bytes_again : (s : List ℕ) → Bytes s → (at k : ℕ) → bytes_of k (number (bytes_at s at k)) ≡ bytes_at s at k
bytes_again s h at k =
    ap (λ (n : ℕ). bytes_of n (number (bytes_at s at k))) (sym (size_bytes s at k)) ∙ bytes_number (bytes_at s at k) (bytes_at_lem s h at k)

walk_append : (f : ℕ → ℕ) (k j at : ℕ) → walk f 1 (k + j) at ≡ walk f 1 k at ++ walk f 1 j (at + k)
walk_append f zero j at = rw (zero-add, add-zero)
walk_append f (suc k) j at =
    let n : suc k + j ≡ suc (k + j) = omega arith in
    let m : at + suc k ≡ at + 1 + k = omega arith in
    rw (n, m) (ap (λ (l : List ℕ). f at ∷ l) (walk_append f k j (at + 1)))

-- k bytes, and the j bytes behind them
pub bytes_append : (s : List ℕ) (at k j : ℕ) → bytes_at s at (k + j) ≡ bytes_at s at k ++ bytes_at s (at + k) j
unfolding bytes_at
bytes_append s at k j = walk_append (λ a. get_or s a 0) k j at

-- the number of as many bytes as are asked for
pub number_of_all : (l : List ℕ) (k : ℕ) {n : ℕ} → n ≡ pick (length l == k) (number l) 0 → length l ≡ k → n ≡ number l
number_of_all l k h e = h ∙ rw (eq-eqb (length l) k e)
