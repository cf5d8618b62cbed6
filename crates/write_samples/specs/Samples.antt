-- The samples of a trace as a record holds them: what writing them under a code finds against their pairs, and their words.
use Rattle.std.specs.Prelude.{ℕ, ◌+◌, ◌*◌, Bool, not, ◌&&◌, List, map, length, leb, eqb}
use Rattle.numbers.specs.Walk.{pick, walk, flat, bytes_at}
use Rattle.numbers.specs.BigEndian.{bytes_of}
use Rattle.numbers.specs.Cause.{refuse_if, then, first_of}
use Rattle.numbers.specs.Cause.{Check}
use Rattle.numbers.specs.Cause.{Fine, Refused}
use Rattle.formats.specs.Codes.{is_code, sample_bytes}
use Rattle.value.specs.Writing.{write_pair}
use Rattle.formats.specs.Words.{word_bits}
use Rattle.value.specs.Pair.{pair_length, pair_in}
use Rattle.formats.specs.Written.{Written}
use Rattle.formats.specs.Written as written

-- What writing the pair at a place gives.
abbrev pub written_at : List ℕ → ℕ → ℕ → Written
written_at s code p = write_pair code (pair_in (bytes_at s p pair_length))

-- ## Causes

-- The refusal of the pair at a place, from what writing it gives.
abbrev pub pair_refused : Written → ℕ → Check
pair_refused (written.Word n) at = Fine
pair_refused (written.Refused number) at = Refused number (record { 0 = at })

-- 13 or 14 against the pair at a place, under a code.
abbrev pub pair_check : List ℕ → ℕ → ℕ → Check
pair_check s code at = pair_refused (written_at s code at) at

-- The code is one of the codes, and there are n pairs from a place on.
abbrev pub pairs_there : List ℕ → ℕ → ℕ → ℕ → Bool
pairs_there s code n at = is_code code && leb (at + n * pair_length) (length s)

-- The causes against writing n pairs from the place `at` on: 11, the code is none; 12, they aren't all there; else 13 or 14 against the
-- first pair that has one.
unfoldable pub samples_checked : List ℕ → ℕ → ℕ → ℕ → Check
samples_checked s code n at =
    then (refuse_if (not (is_code code)) 11 0)
    (then (refuse_if (not (leb (at + n * pair_length) (length s))) 12 at) (first_of (walk (pair_check s code) pair_length n at)))

-- ## Words

-- The bytes of a word under a code. Where there is none, 14 refuses the call; the bytes are then given as 00.
abbrev pub word_bytes : ℕ → Written → List ℕ
word_bytes code w = bytes_of (sample_bytes code) (word_bits w)

-- n samples from a place on.
unfoldable pub sample_words : List ℕ → ℕ → ℕ → ℕ → List ℕ
sample_words s code n at = flat (map (word_bytes code) (walk (written_at s code) pair_length n at))

-- The pairs are there, and an output is as long as their words.
abbrev pub there_and_as_long : List ℕ → ℕ → ℕ → ℕ → List ℕ → Bool
there_and_as_long s code n at out = pairs_there s code n at && eqb (length out) (n * sample_bytes code)

-- An output after n samples were written into it: their words, or what it was where the pairs aren't all there or it has another length.
unfoldable pub samples_written : List ℕ → ℕ → ℕ → ℕ → List ℕ → List ℕ
samples_written s code n at out = pick (there_and_as_long s code n at out) (sample_words s code n at) out
