-- The samples of a trace as a record holds them: the pairs of its words.
use Rattle.std.specs.Prelude.{ℕ, ◌+◌, ◌*◌, Bool, ◌&&◌, List, map, length, leb, eqb}
use Rattle.numbers.specs.Walk.{pick, walk, flat, bytes_at}
use Rattle.formats.specs.Codes.{is_code, sample_bytes, word_length}
use Rattle.formats.specs.Value.{exact_value}
use Rattle.value.specs.Pair.{pair_length, pair_bytes, value_bytes}
use Rattle.value.specs.declared.Pair.{Pair}

-- A pair in its six bytes.
abbrev pub pair_content : Pair → List ℕ
pair_content p = pair_bytes p.e p.m

-- The sample at a place: the pair of its word's exact value. For a word that 9 or 19 refuses, which a reel that is taken hasn't, it is what
-- the same rule gives.
abbrev pub sample_copied : List ℕ → ℕ → ℕ → List ℕ
sample_copied s code p = value_bytes (exact_value code (bytes_at s p word_length))

-- k places from `at` on, w bytes apart.
abbrev pub places : ℕ → ℕ → ℕ → List ℕ
places w k at = walk (λ p. p) w k at

-- n samples from a place on.
unfoldable pub sample_pairs : List ℕ → ℕ → ℕ → ℕ → List ℕ
sample_pairs s code n at = flat (map (sample_copied s code) (places (sample_bytes code) n at))

-- There are n words of the code from a place on, and an output as long as their pairs.
abbrev pub samples_fit : List ℕ → ℕ → ℕ → ℕ → List ℕ → Bool
samples_fit s code n at out =
    is_code code && (leb (at + n * sample_bytes code) (length s) && eqb (length out) (n * pair_length))

-- An output after n samples were read into it: their pairs, or what it was where they don't fit.
unfoldable pub samples_read : List ℕ → ℕ → ℕ → ℕ → List ℕ → List ℕ
samples_read s code n at out = pick (samples_fit s code n at out) (sample_pairs s code n at) out
