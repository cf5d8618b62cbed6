-- What `count_words` gives on every input.
use Rattle.std.specs.Prelude.{ℕ, ◌+◌, ◌*◌, Bool, ◌&&◌, List, length, leb}
use Rattle.numbers.specs.Walk.{pick}
use Rattle.formats.specs.Codes.{sample_bytes}
use Rattle.reel.specs.Causes.{most_samples}
use Rattle.reel.specs.NotNormal.{not_normal_in}

-- There are n words of the code from a place on, no more than a trace has.
abbrev pub words_fit : List ℕ → ℕ → ℕ → ℕ → Bool
words_fit s code n at = leb n most_samples && leb (at + n * sample_bytes code) (length s)

-- How many of n words from a place on are not normal; 0 where they aren't all there, or are more than a trace has.
unfoldable pub words_counted : List ℕ → ℕ → ℕ → ℕ → ℕ
words_counted s code n at = pick (words_fit s code n at) (not_normal_in s code n at) 0
