-- What the functions inside this crate hand to each other: an IBM word as a number whose first byte stands lowest, and two tests of it.
use Rattle.std.specs.Prelude.{ℕ, ◌+◌, ◌/◌, ◌%◌, ◌^◌, Bool, true, false, not, ◌&&◌, List, [], ◌∷◌, get_or, sum_by, eqb}
use Rattle.std.specs.Int.{from_le_bytes, w32}
use Rattle.numbers.specs.Walk.{pick, walk, sum}
use Rattle.numbers.specs.BigEndian.{number}

-- The number in the four bytes at a place, the first byte lowest.
abbrev pub low_first : List ℕ → ℕ → ℕ
low_first s at = number (get_or s (at + 3) 0 ∷ get_or s (at + 2) 0 ∷ get_or s (at + 1) 0 ∷ get_or s at 0 ∷ [])

-- 1 where the first digit of F in such a number x is 0, and b, which is S and C or C alone, isn't.
abbrev pub zero_digit : ℕ → ℕ → ℕ
zero_digit x b = pick (eqb (x / 2 ^ 12 % 16) 0 && not (eqb b 0)) 1 0

-- 1 where the word may be one that isn't normal: the first digit of F is 0, and S and C aren't both. Of the normal words that holds only of
-- those with S 1 and C 0.
abbrev pub may_count : ℕ → ℕ
may_count x = zero_digit x (x % 2 ^ 8)

-- 1 where the word isn't normal: the first digit of F is 0 and C isn't, or it is 80000000.
abbrev pub counts : ℕ → ℕ
counts x = zero_digit x (x % 2 ^ 7) + pick (eqb x 0x80) 1 0

-- The one or the other.
abbrev pub tested : Bool → ℕ → ℕ
tested true x = counts x
tested false x = may_count x

-- How many of n words from a place on pass the one test or the other.
unfoldable pub passing : Bool → List ℕ → ℕ → ℕ → ℕ
passing exact s n at = sum (walk (λ p. tested exact (low_first s p)) 4 n at)

-- The same of some words, each by its four bytes.
abbrev pub passing_words : Bool → List (List ℕ) → ℕ
passing_words exact words = sum_by (λ w. tested exact (from_le_bytes w32 w)) words
