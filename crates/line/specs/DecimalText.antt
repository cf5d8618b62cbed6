-- What the decimal text of a number is, apart from how it is made. Document 01: "Each number is printed most significant digit first,
-- without leading zeros."
use Rattle.std.specs.Prelude.{◌≡◌, List, [], ◌∷◌, ℕ, ◌+◌, ◌-◌, ◌*◌, ◌≤◌, ◌<◌, length, get_or}
use Rattle.numbers.specs.Terms.{All}

-- The number that a stands for with the digits of a text behind it, most significant first. 48 is `0` in ASCII, 57 is `9`.
abbrev pub value_after : ℕ → List ℕ → ℕ
value_after a [] = a
value_after a (d ∷ text) = value_after (a * 10 + (d - 48)) text

-- `text` is the decimal text of n.
pub record DecimalText (n : ℕ) (text : List ℕ) : Type 0 where
  -- There is at least one digit, and all are digits.
  pub some : 0 < length text
  pub digits : All (λ d. (48 ≤ d) × (d ≤ 57)) text
  -- They stand for n.
  pub value : value_after 0 text ≡ n
  -- The first is `0` only in the text `0`.
  pub leading : get_or text 0 0 ≡ 48 → text ≡ 48 ∷ []
