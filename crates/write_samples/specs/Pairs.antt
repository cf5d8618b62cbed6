-- What the functions inside this crate hand to each other: what is said and written of some pairs, each given by its bytes, by what a function
-- gives of one pair.
use Rattle.std.specs.Prelude.{ℕ, ◌+◌, List, [], ◌∷◌, map, sum_by}
use Rattle.numbers.specs.Walk.{flat}
use Rattle.numbers.specs.BigEndian.{bytes_of}
use Rattle.numbers.specs.Cause.{Check, Fine, then}
use Rattle.formats.specs.Words.{word_bits}
use Rattle.formats.specs.Written.{Written}
use Rattle.value.specs.Pair.{pair_length, pair_in}
use Rattle.value.specs.Writing.{Rounded}
use Rattle.value.specs.declared.Pair.{Pair}
use Rattle.write_samples.specs.Samples.{pair_refused}

-- The first refusal of some pairs, the first of which stands at the place `at`.
abbrev pub pairs_refused : (Pair → Written) → List (List ℕ) → ℕ → Check
pairs_refused word [] at = Fine
pairs_refused word (b ∷ pairs) at = then (pair_refused (word (pair_in b)) at) (pairs_refused word pairs (at + pair_length))

-- The words of some pairs, k bytes each.
abbrev pub words_content : ℕ → (Pair → Written) → List (List ℕ) → List ℕ
words_content k word pairs = flat (map (λ b. bytes_of k (word_bits (word (pair_in b)))) pairs)

-- The same to the nearest, and how many have another value.
abbrev pub rounded_content : ℕ → (Pair → Rounded) → List (List ℕ) → List ℕ
rounded_content k nearest pairs = flat (map (λ b. bytes_of k (nearest (pair_in b)).bits) pairs)

abbrev pub rounded_count : (Pair → Rounded) → List (List ℕ) → ℕ
rounded_count nearest pairs = sum_by (λ b. (nearest (pair_in b)).changed) pairs
