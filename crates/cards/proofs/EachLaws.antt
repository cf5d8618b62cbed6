-- What is done to all bytes of a number at once is done to each: by one byte more, and a test of one byte at all of its 256 values.
-- Assumes nothing.
use Prim.Native.Nat.{ℕ, zero, suc, ◌+◌, ◌*◌, ◌-◌, ◌/◌, ◌%◌, ◌^◌, ◌≤◌, ◌<◌}
use mathlib.Core.Path.{◌≡◌, refl, ap, ◌∙◌}
use mathlib.Core.Bool.{Bool, true, false, ◌&&◌}
use mathlib.Core.List.{List, [], ◌∷◌, map, map-append}
use native.Mathlib.Omega.{arith}
use native.Mathlib.Nat.{pow-suc}
use borrow.Author.Tests.{eqb-true}
use lib.Dec.{eqb, lit<}
use lib.ListN.{replicate}
use lib.Bits.{bit_and, bit_or, bit_xor, and_block, or_block, xor_block, and_le_l, and_le_r, or_lt, or_add_and}
use Rattle.numbers.specs.Walk.{pick}
use Rattle.numbers.specs.BigEndian.{number, bytes_of}
use Rattle.numbers.proofs.BoolLaws.{and_true}
use Rattle.numbers.proofs.ByteLaws.{number_last, bytes_last}
use Rattle.numbers.proofs.TableLaws.{at_entry}
use Rattle.cards.specs.Cards.{blank}
use Rattle.cards.specs.Parts.{zero_mark}

-- What f makes of each of the k lowest bytes of x, as one number.
abbrev pub each : (ℕ → ℕ) → ℕ → ℕ → ℕ
each f k x = number (map f (bytes_of k x))

-- By one byte more, the lowest.
pub each_more : (f : ℕ → ℕ) (k x : ℕ) → each f (suc k) x ≡ each f k (x / 256) * 256 + f (x % 256)
each_more f k x =
    ap (λ (l : List ℕ). number (map f l)) (bytes_last k x)
    ∙ ap number (map-append f (bytes_of k (x / 256)) (x % 256 ∷ []))
    ∙ number_last (map f (bytes_of k (x / 256))) (f (x % 256))

-- 01 in each of k bytes; 80 in each, the high bit.
abbrev pub ones : ℕ → ℕ
ones zero = 0
ones (suc k) = ones k * 256 + 1

abbrev pub highs : ℕ → ℕ
highs zero = 0
highs (suc k) = highs k * 256 + 128

one_le : (k : ℕ) → ones k ≤ highs k
one_le zero = omega arith
one_le (suc k) = omega (arith, one_le k)

-- The high bit of each byte that isn't 00, by the masks m and n.
unfoldable pub some : ℕ → ℕ → ℕ → ℕ
some m n x = bit_and (bit_or (bit_or x n - m) x) n

pub some_le : (m n x : ℕ) → some m n x ≤ n
unfolding some
some_le m n x = and_le_r (bit_or (bit_or x n - m) x) n

-- A number with the bits of n is no less than n, nor than what n isn't less than.
pub or_le : (x n m : ℕ) → m ≤ n → m ≤ bit_or x n
or_le x n m h = omega (arith, or_add_and x n, and_le_l x n)

-- ## One byte: the test of all 256

right : ℕ → ℕ → Bool
right r _ = eqb (bit_xor (some 1 128 r) 128) (zero_mark r) && eqb (bit_xor r (zero_mark r / 2)) (blank r)

one : (r : ℕ) → r < 256 → right r 0 ≡ true
unfolding right some
one r h = at_entry right (replicate 256 0) refl r h

one_marked : (r : ℕ) → r < 256 → bit_xor (some 1 128 r) 128 ≡ zero_mark r
unfolding right
one_marked r h = eqb-true _ _ (and_true (eqb (bit_xor (some 1 128 r) 128) (zero_mark r)) (eqb (bit_xor r (zero_mark r / 2)) (blank r)) (one r h)).0

one_blank : (r : ℕ) → r < 256 → bit_xor r (zero_mark r / 2) ≡ blank r
unfolding right
one_blank r h = eqb-true _ _ (and_true (eqb (bit_xor (some 1 128 r) 128) (zero_mark r)) (eqb (bit_xor r (zero_mark r / 2)) (blank r)) (one r h)).1

-- ## One byte more

-- Masks m * 256 + 1 and n * 256 + 128 at a number a * 256 + r.
module _ (m n a r : ℕ) (le : m ≤ n) (h : r < 2 ^ 8) where
  some_step : some (m * 256 + 1) (n * 256 + 128) (a * 256 + r) ≡ some m n a * 256 + some 1 128 r
  unfolding some
  some_step =
      let e₁ : bit_or (a * 256 + r) (n * 256 + 128) ≡ bit_or a n * 256 + bit_or r 128 = or_block 8 a n r 128 h (lit< tt) in
      let e₂ : bit_or a n * 256 + bit_or r 128 - (m * 256 + 1) ≡ (bit_or a n - m) * 256 + (bit_or r 128 - 1) = omega (arith, or_le a n m le, or_le r 128 1 (omega arith)) in
      let s< : bit_or r 128 - 1 < 2 ^ 8 = omega (arith, or_lt 8 r 128 h (lit< tt)) in
      let e₃ = or_block 8 (bit_or a n - m) a (bit_or r 128 - 1) r s< h in
      let e₄ = and_block 8 (bit_or (bit_or a n - m) a) n (bit_or (bit_or r 128 - 1) r) 128 (or_lt 8 _ _ s< h) (lit< tt) in
      ap (λ (y : ℕ). bit_and (bit_or (y - (m * 256 + 1)) (a * 256 + r)) (n * 256 + 128)) e₁
      ∙ (ap (λ (y : ℕ). bit_and (bit_or y (a * 256 + r)) (n * 256 + 128)) e₂ ∙ (ap (λ (y : ℕ). bit_and y (n * 256 + 128)) e₃ ∙ e₄))

-- A number's last byte, and what stands above it.
module _ (x : ℕ) where
  last< : x % 256 < 2 ^ 8
  last< = omega arith

  split : x ≡ x / 256 * 256 + x % 256
  split = omega arith

some_more : (k x : ℕ) → some (ones (suc k)) (highs (suc k)) x ≡ some (ones k) (highs k) (x / 256) * 256 + some 1 128 (x % 256)
some_more k x = ap (some (ones (suc k)) (highs (suc k))) (split x) ∙ some_step (ones k) (highs k) (x / 256) (x % 256) (one_le k) (last< x)

-- ## All bytes

-- What is left of 80 in each byte is its mark.
pub marked : (k x : ℕ) → bit_xor (some (ones k) (highs k) x) (highs k) ≡ each zero_mark k x
marked zero x = ap (λ (y : ℕ). bit_xor y 0) none ∙ refl
  where
    none : some 0 0 x ≡ 0
    none = omega (arith, some_le 0 0 x)
marked (suc k) x =
    let r = x % 256 in
    let s< : some 1 128 r < 2 ^ 8 = omega (arith, some_le 1 128 r) in
    ap (λ (y : ℕ). bit_xor y (highs (suc k))) (some_more k x)
    ∙ (xor_block 8 (some (ones k) (highs k) (x / 256)) (highs k) (some 1 128 r) 128 s< (lit< tt)
    ∙ rw (marked k (x / 256), one_marked r (last< x), each_more zero_mark k x))

-- A mark is 80 or 00, so half of all of them is half of each.
pick_even : (t : Bool) → pick t 0x80 0 % 2 ≡ 0
pick_even true = refl
pick_even false = refl

mark_even : (b : ℕ) → zero_mark b % 2 ≡ 0
mark_even b = pick_even (eqb b 0)

marks_even : (k x : ℕ) → each zero_mark k x % 2 ≡ 0
marks_even zero x = refl
marks_even (suc k) x = omega (arith, each_more zero_mark k x, marks_even k (x / 256), mark_even (x % 256))

half_more : (k x : ℕ) → each zero_mark (suc k) x / 2 ≡ each zero_mark k (x / 256) / 2 * 256 + zero_mark (x % 256) / 2
half_more k x = omega (arith, each_more zero_mark k x, marks_even k (x / 256), mark_even (x % 256))

pick_half< : (t : Bool) → pick t 0x80 0 / 2 < 2 ^ 8
pick_half< true = lit< tt
pick_half< false = lit< tt

half< : (b : ℕ) → zero_mark b / 2 < 2 ^ 8
half< b = pick_half< (eqb b 0)

-- 40 in place of each byte 00, and every other as it was.
pub blanked : (k x : ℕ) → x < 256 ^ k → bit_xor x (each zero_mark k x / 2) ≡ each blank k x
blanked zero zero h = refl
blanked zero (suc x) h = absurd (omega arith)
blanked (suc k) x h =
    let a = x / 256 in
    let A = each zero_mark k a / 2 in
    let B = zero_mark (x % 256) / 2 in
    ap (bit_xor x) (half_more k x) ∙ (ap (λ (y : ℕ). bit_xor y (A * 256 + B)) (split x)
    ∙ (xor_block 8 a A (x % 256) B (last< x) (half< (x % 256))
    ∙ rw (blanked k a (omega (arith, pow-suc 256 k)), one_blank (x % 256) (last< x), each_more blank k x)))
