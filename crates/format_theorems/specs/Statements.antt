-- What the theorems say of a value and a word that has it.
use Rattle.std.specs.Prelude.{ℕ, ◌^◌, ◌<◌, ◌≡◌, true, ℤ}
use Rattle.formats.specs.Value.{ibm_value, value_in, is_word}
use Rattle.formats.specs.Words.{is_normal}

-- Some word of the code, as a number, has the value v.
pub record HasNumber (code : ℕ) (v : ℤ) : Type 0 where
  pub word : ℕ
  pub good : is_word code word ≡ true
  pub value : value_in code word ≡ v

-- The number n of 32 bits is a normal IBM word, and has the value v.
pub record NormalOf (v : ℤ) (n : ℕ) : Type 0 where
  pub fit : n < 2 ^ 32
  pub value : ibm_value n ≡ v
  pub normal : is_normal n ≡ true
