-- When a sample format holds a value: where some word of its code has that very value, as the user's demand asks, "whenever that format
-- holds every sample exactly".
use Rattle.std.specs.Prelude.{◌≡◌, List, false, ℕ, length, ℤ}
use Rattle.numbers.specs.Terms.{All, Bytes}
use Rattle.formats.specs.Codes.{word_length}
use Rattle.formats.specs.Value.{is_bad, word_number, exact_value}
use Rattle.reel.specs.Meaning.{Trace}

-- Some word of the code has the value v: four bytes, of which a sample has the first, that reading doesn't refuse by 9 or 19.
pub record HasWord (code : ℕ) (v : ℤ) : Type 0 where
  pub word : List ℕ
  pub size : length word ≡ word_length
  pub bytes : Bytes word
  pub good : is_bad code (word_number code word) ≡ false
  pub value : exact_value code word ≡ v

-- Each sample of a list of traces has a word under the code: the format holds every sample exactly.
abbrev pub Worded : ℕ → List Trace → Type 0
Worded code l = All (λ (t : Trace). All (HasWord code) t.values) l
