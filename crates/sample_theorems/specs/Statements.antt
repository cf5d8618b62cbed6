-- What the theorems say of a word that is written.
use Rattle.std.specs.Prelude.{ℕ, ◌^◌, ◌<◌, ◌≡◌, true, false, List, ℤ}
use Rattle.formats.specs.Codes.{sample_bytes}
use Rattle.formats.specs.Value.{is_bad, word_number, exact_value}
use Rattle.formats.specs.Words.{is_normal}
use Rattle.formats.specs.Written.{Word}
use Rattle.value.specs.Writing.{write_pair}
use Rattle.value.specs.declared.Pair.{Pair}
use Rattle.sample.specs.Calls.{single_word}

-- The number n, of as many bytes as a sample of the code has, is in the four bytes of a single word one that reading takes under the code,
-- and has the value v.
pub record Says (code : ℕ) (v : ℤ) (n : ℕ) : Type 0 where
  pub fit : n < 256 ^ sample_bytes code
  pub good : is_bad code (word_number code (single_word code n)) ≡ false
  pub value : exact_value code (single_word code n) ≡ v

-- The pair p of the word w is written under the same code as the word n: one of the same value, under code 1 the normal one.
pub record Back (code : ℕ) (w : List ℕ) (p : Pair) (n : ℕ) : Type 0 where
  pub word : write_pair code p ≡ Word n
  pub value : exact_value code (single_word code n) ≡ exact_value code w
  pub normal : code ≡ 1 → is_normal n ≡ true
