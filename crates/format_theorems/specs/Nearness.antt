-- What the theorems about nearest writing say (document 02, CR 5).
use Rattle.std.specs.Prelude.{ℕ, ◌+◌, ◌-◌, ◌*◌, ◌^◌, ◌≤◌, ◌≡◌, true, List, [], ◌∷◌, eqb, ℤ, pos, nat_abs}
use Rattle.numbers.specs.Walk.{pick}
use Rattle.numbers.specs.SignMagnitude.{is_negative}
use Rattle.formats.specs.Codes.{denominator_power, format_of}
use Rattle.formats.specs.Value.{characteristic, gain_of, ieee_power, value_in, is_word}
use Rattle.formats.specs.Nearest.{range_end, distance}
use Rattle.format_theorems.specs.Statements.{HasNumber}

-- w is the nearest value of the code to v, by CR 5's words: some word of the code has it, every word of the code that has a value is at least
-- as far away, and of two equally near it is the one nearer zero.
pub record NearestOf (code : ℕ) (v w : ℤ) : Type 0 where
  pub has : HasNumber code w
  pub near : (n : ℕ) → is_word code n ≡ true → distance v w ≤ distance v (value_in code n)
  pub tie : (n : ℕ) → is_word code n ≡ true → distance v w ≡ distance v (value_in code n) → nat_abs w ≤ nat_abs (value_in code n)

-- v is inside the range of the code, from its least value to its greatest, both included: it isn't beyond the end on its side.
abbrev pub Inside : ℕ → ℤ → Type 0
Inside code v = nat_abs v ≤ range_end (format_of code) (is_negative v)

-- The codes of whole numbers.
abbrev pub whole_codes : List ℕ
whole_codes = 2 ∷ 3 ∷ 8 ∷ []

-- What the last place of a word is worth, over the denominator: under code 1 the sixth hexadecimal digit of F, 16 ^ (C - 70); under code 4
-- the last bit of d, 1 / 2 ^ g; under code 5 the last bit of the significand; under codes 2, 3 and 8 it is 1.
abbrev pub last_place : ℕ → ℕ → ℕ
last_place code n =
    pick (eqb code 1) (2 ^ (denominator_power - (4 * 64 + 24) + 4 * characteristic n))
    (pick (eqb code 4) (2 ^ (denominator_power - gain_of n))
    (pick (eqb code 5) (2 ^ ieee_power 8 23 n) (2 ^ denominator_power)))

-- The value of n halves.
abbrev pub halves : ℕ → ℤ
halves n = pos (n * 2 ^ (denominator_power - 1))
