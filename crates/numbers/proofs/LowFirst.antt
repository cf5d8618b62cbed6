-- The eight bytes of a number in the library's words, the lowest first: those of this project's words the other way round. Assumes nothing.
use Rattle.std.proofs.Common.{◌≡◌, ℕ, ◌+◌, ◌*◌, List, [], ◌∷◌, length, get_or, reverse, sym, ap, ◌∙◌, div-one, take_all, arith}
use Rattle.std.specs.Int.{w64, from_le_bytes, to_le_bytes}
use Rattle.numbers.specs.Walk.{bytes_at}
use Rattle.numbers.specs.BigEndian.{number, bytes_of}
use Rattle.numbers.proofs.WalkLaws.{bytes_part}

-- What eight bytes are, one by one.
eight_is : (l : List ℕ) → length l ≡ 8
    → l ≡ get_or l 0 0 ∷ get_or l 1 0 ∷ get_or l 2 0 ∷ get_or l 3 0 ∷ get_or l 4 0 ∷ get_or l 5 0 ∷ get_or l 6 0 ∷ get_or l 7 0 ∷ []
unfolding bytes_at
eight_is l n = sym (take_all 8 l (omega arith)) ∙ bytes_part l 0 8 (omega arith)

sum_is : (a b c d e f g h : ℕ)
    → a + b * 256 + c * 65536 + d * 16777216 + e * 4294967296 + f * 1099511627776 + g * 281474976710656 + h * 72057594037927936
    ≡ number (h ∷ g ∷ f ∷ e ∷ d ∷ c ∷ b ∷ a ∷ [])
sum_is a b c d e f g h = omega arith

-- The number of eight bytes, the first lowest.
pub low_number64 : (l : List ℕ) → length l ≡ 8 → from_le_bytes w64 l ≡ number (reverse l)
low_number64 l n =
    sum_is (get_or l 0 0) (get_or l 1 0) (get_or l 2 0) (get_or l 3 0) (get_or l 4 0) (get_or l 5 0) (get_or l 6 0) (get_or l 7 0)
    ∙ sym (ap (λ (x : List ℕ). number (reverse x)) (eight_is l n))

-- The eight bytes of a number, the lowest first.
pub low_bytes64 : (n : ℕ) → to_le_bytes w64 n ≡ reverse (bytes_of 8 n)
low_bytes64 n = rw div-one
