-- The text of a number, digit by digit. Assumes nothing.
use mathlib.Core.Path.{◌≡◌, sym, ap, ◌∙◌}
use mathlib.Core.Bool.{Bool, true, false}
use mathlib.Core.List.{List, [], ◌∷◌, ◌++◌}
use Prim.Native.Nat.{ℕ, zero, suc, ◌/◌, ◌%◌, ◌^◌, ◌≤◌, ◌<◌}
use native.Mathlib.Nat.{pow-suc}
use native.Mathlib.Omega.{arith}
use borrow.Author.Tests.{lt-ltb, le-ltb}
use lib.Dec.{ltb}
use lib.ListN.{length, length-append}
use Rattle.numbers.specs.Walk.{pick}
use Rattle.line.specs.Decimal.{digit, digits_in, decimal_of}

-- What either of two texts meets.
either : (P : List ℕ → Type 0) (t : Bool) (a b : List ℕ) → P a → P b → P (pick t a b)
either P true a b p q = p
either P false a b p q = q

size_in : (k n : ℕ) → length (digits_in k n) ≤ k
unfolding digits_in
size_in zero n = omega arith
size_in (suc k) n =
    let h = size_in k (n / 10) in
    either (λ l. length l ≤ suc k) (ltb n 10) _ _ (omega arith) (simp length-append (omega arith))

-- A text has at most 20 digits.
pub decimal_size : (n : ℕ) → length (decimal_of n) ≤ 20
unfolding decimal_of
decimal_size n = size_in 20 n

-- Room for one digit more changes nothing where the number has room already.
enough : (k n : ℕ) → n < 10 ^ suc k → digits_in (suc (suc k)) n ≡ digits_in (suc k) n
unfolding digits_in
enough zero n h =
    let t = lt-ltb n 10 h in
    simp t
enough (suc k) n h =
    ap (λ l. pick (ltb n 10) (digit n ∷ []) (l ++ digit (n % 10) ∷ []))
    (enough k (n / 10) (omega (arith, pow-suc 10 (suc k))))

-- A number below ten is one digit.
pub decimal_one : (n : ℕ) → n < 10 → decimal_of n ≡ digit n ∷ []
unfolding decimal_of digits_in
decimal_one n h = simp (lt-ltb n 10 h)

shorter : (n : ℕ) → n < 10 ^ 19 → decimal_of n ≡ digits_in 19 n
unfolding decimal_of
shorter n h = enough 18 n h

opened : (n : ℕ) → 10 ≤ n → decimal_of n ≡ digits_in 19 (n / 10) ++ digit (n % 10) ∷ []
unfolding decimal_of digits_in
opened n h = simp (le-ltb n 10 h)

-- Any other number is the text of n / 10 and the digit n % 10.
pub decimal_more : (n : ℕ) → 10 ≤ n → n < 2 ^ 64 → decimal_of n ≡ decimal_of (n / 10) ++ digit (n % 10) ∷ []
decimal_more n h g = opened n h ∙ ap (λ l. l ++ digit (n % 10) ∷ []) (sym (shorter (n / 10) (omega arith)))

-- A number below 10 ^ 19 has at most 19 digits,
pub decimal_short : (n : ℕ) → n < 10 ^ 19 → length (decimal_of n) ≤ 19
decimal_short n h = rw (shorter n h) (size_in 19 n)

-- so there is room for the last digit.
pub decimal_room : (n : ℕ) → n < 2 ^ 64 → length (decimal_of (n / 10)) ≤ 19
decimal_room n h = decimal_short (n / 10) (omega arith)
