-- What a word that is written says of the pair. Assumes nothing.
use mathlib.Core.Path.{◌≡◌, refl}
use mathlib.Core.Bool.{Bool, true, false}
use Prim.Native.Nat.{ℕ}
use Rattle.numbers.specs.Walk.{pick}
use Rattle.formats.specs.Codes.{is_code}
use Rattle.formats.specs.Words.{word_of}
use Rattle.formats.specs.Written.{Word, Refused}
use Rattle.formats.proofs.WordLaws.{no_word}
use Rattle.value.specs.Pair.{value_of, is_canonical}
use Rattle.value.specs.Writing.{write_pair}
use Rattle.value.specs.declared.Pair.{Pair}

-- the pair was canonical, and the target code one of the codes
pub written_is : (code : ℕ) (p : Pair) (n : ℕ) → write_pair code p ≡ Word n → (is_code code ≡ true) × (is_canonical p ≡ true) × (word_of code (value_of p) ≡ Word n)
written_is code p n h = go (is_code code) (is_canonical p) refl refl h
  where
    go : (b c : Bool) → is_code code ≡ b → is_canonical p ≡ c → pick b (pick c (word_of code (value_of p)) (Refused 13)) (Refused 11) ≡ Word n
        → (is_code code ≡ true) × (is_canonical p ≡ true) × (word_of code (value_of p) ≡ Word n)
    go true true x y q = (x, y, q)
    go true false x y q = absurd (no_word q)
    go false c x y q = absurd (no_word q)
