-- The first number that passes a test.
use Rattle.std.specs.Prelude.{ℕ, zero, suc, Bool}
use Rattle.numbers.specs.Walk.{pick}

-- The first of the n numbers from i on that passes a test; i + n where none does.
unfoldable pub first : (ℕ → Bool) → ℕ → ℕ → ℕ
first t zero i = i
first t (suc n) i = pick (t i) i (first t n (suc i))
