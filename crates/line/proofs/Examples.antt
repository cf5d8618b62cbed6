-- Worked lines. Assumes nothing.
use mathlib.Core.Path.{◌≡◌, refl}
use mathlib.Core.List.{[], ◌∷◌}
use Rattle.numbers.specs.Outcome.{taken, refused}
use Rattle.line.specs.Decimal.{digits_in, decimal_of}
use Rattle.line.specs.Line.{line_of}

-- `taken 1 2 3471 0`, the line of document 01's example.
pub taken_line : line_of (taken (1 ∷ 2 ∷ 3471 ∷ 0 ∷ []))
    ≡ 116 ∷ 97 ∷ 107 ∷ 101 ∷ 110 ∷ 32 ∷ 49 ∷ 32 ∷ 50 ∷ 32 ∷ 51 ∷ 52 ∷ 55 ∷ 49 ∷ 32 ∷ 48 ∷ 10 ∷ []
unfolding decimal_of digits_in
taken_line = refl

-- `refused 1 0`, the line of empty input.
pub refused_line : line_of (refused 1 0) ≡ 114 ∷ 101 ∷ 102 ∷ 117 ∷ 115 ∷ 101 ∷ 100 ∷ 32 ∷ 49 ∷ 32 ∷ 48 ∷ 10 ∷ []
unfolding decimal_of digits_in
refused_line = refl
