-- Big-endian numbers: the first byte stands highest.
use Rattle.std.specs.Prelude.{ℕ, zero, suc, ◌+◌, ◌*◌, ◌/◌, ◌%◌, ◌^◌, List, [], ◌∷◌}

-- The number of a and the bytes after it.
abbrev pub number_after : ℕ → List ℕ → ℕ
number_after a [] = a
number_after a (b ∷ l) = number_after (a * 256 + b) l

-- The number of a list of bytes.
abbrev pub number : List ℕ → ℕ
number l = number_after 0 l

-- The k lowest bytes of n, the highest of them first.
abbrev pub bytes_of : ℕ → ℕ → List ℕ
bytes_of zero n = []
bytes_of (suc k) n = n / 256 ^ k % 256 ∷ bytes_of k n
