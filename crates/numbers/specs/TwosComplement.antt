-- Two's complement of w bits.
use Rattle.std.specs.Prelude.{ℕ, suc, ◌-◌, ◌^◌, ℤ, pos, negsuc, nat_lt}
use Rattle.std.proofs.Math.IntN.{sub_ℕ}
use Rattle.numbers.specs.Walk.{pick}

-- The number that the bits n, below 2 ^ w, stand for: n itself below 2 ^ (w - 1), from there on n - 2 ^ w.
abbrev pub signed_of : ℕ → ℕ → ℤ
signed_of w n = pick (nat_lt n (2 ^ (w - 1))) (pos n) (sub_ℕ n (2 ^ w))

-- The bits of a number of w bits: those of -(n + 1) are 2 ^ w - (n + 1).
abbrev pub bits_of : ℕ → ℤ → ℕ
bits_of w (pos n) = n
bits_of w (negsuc n) = 2 ^ w - suc n
