-- The samples of a trace written to the nearest: the words of n pairs, and how many of them stand for another value.
use Rattle.std.specs.Prelude.{ℕ, List, map}
use Rattle.numbers.specs.Walk.{pick, walk, flat, sum, bytes_at}
use Rattle.numbers.specs.BigEndian.{bytes_of}
use Rattle.formats.specs.Codes.{sample_bytes}
use Rattle.value.specs.Pair.{pair_length, pair_in}
use Rattle.value.specs.Writing.{nearest_pair}
use Rattle.value.specs.Writing.{Rounded}
use Rattle.write_samples.specs.Samples.{there_and_as_long}

-- What nearest writing makes of the pair at a place.
abbrev pub nearest_at : List ℕ → ℕ → ℕ → Rounded
nearest_at s code p = nearest_pair code (pair_in (bytes_at s p pair_length))

-- The bytes of its word.
abbrev pub rounded_bytes : ℕ → Rounded → List ℕ
rounded_bytes code w = bytes_of (sample_bytes code) w.bits

-- n samples from a place on.
unfoldable pub nearest_words : List ℕ → ℕ → ℕ → ℕ → List ℕ
nearest_words s code n at = flat (map (rounded_bytes code) (walk (nearest_at s code) pair_length n at))

-- How many of them have another value.
unfoldable pub pairs_changed : List ℕ → ℕ → ℕ → ℕ → ℕ
pairs_changed s code n at = sum (walk (λ p. (nearest_at s code p).changed) pair_length n at)

-- An output after n samples were written into it to the nearest: their words, or what it was where the pairs aren't all there or it has
-- another length;
unfoldable pub nearest_samples_written : List ℕ → ℕ → ℕ → ℕ → List ℕ → List ℕ
nearest_samples_written s code n at out = pick (there_and_as_long s code n at out) (nearest_words s code n at) out

-- and the count, 0 in that case.
unfoldable pub nearest_samples_counted : List ℕ → ℕ → ℕ → ℕ → List ℕ → ℕ
nearest_samples_counted s code n at out = pick (there_and_as_long s code n at out) (pairs_changed s code n at) 0
