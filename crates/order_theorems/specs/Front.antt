-- The front of a record: what stands before its traces, as a record of its own.
use Rattle.std.specs.Prelude.{ℕ, List, [], ◌∷◌, ◌++◌, take, ℤ}
use Rattle.record.specs.Form.{traces_place}
use Rattle.compare.specs.Key.{card_key, binary_key}

-- Tag 05 with its length, 4, and the count of no traces.
unfoldable pub end_of_none : List ℕ
end_of_none = 5 ∷ 0 ∷ 4 ∷ 0 ∷ 0 ∷ 0 ∷ 0 ∷ []

-- The first 3,266 bytes of a record, tags 01 and 02 with their content, and that end behind them.
unfoldable pub front_of : List ℕ → List ℕ
front_of s = take traces_place s ++ end_of_none

-- The numbers that stand there: card bytes, then the 27 binary numbers.
abbrev pub front_key : List ℕ → List ℤ
front_key s = card_key s ++ binary_key s
