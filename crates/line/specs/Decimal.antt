-- A number as decimal text in ASCII: most significant digit first, without leading zeros.
use Rattle.std.specs.Prelude.{ℕ, zero, suc, ◌+◌, ◌/◌, ◌%◌, List, [], ◌∷◌, ◌++◌, ltb}
use Rattle.numbers.specs.Walk.{pick}

-- The ASCII code of a digit, of which `0` is 48.
abbrev pub digit : ℕ → ℕ
digit d = 48 + d

-- The text of n in at most k digits: a number below ten is one digit; any other ends with the digit n % 10, behind the text of n / 10.
unfoldable pub digits_in : ℕ → ℕ → List ℕ
digits_in zero n = []
digits_in (suc k) n = pick (ltb n 10) (digit n ∷ []) (digits_in k (n / 10) ++ digit (n % 10) ∷ [])

-- The text of a number below 2 ^ 64: 20 digits hold each of them.
unfoldable pub decimal_of : ℕ → List ℕ
decimal_of n = digits_in 20 n
