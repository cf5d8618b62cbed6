-- The digest of bytes: 0 at first, and each byte b makes (digest × 31 + b) mod 2^32 of it.
use Rattle.std.specs.Prelude.{ℕ, ◌+◌, ◌*◌, ◌%◌, ◌^◌, List, [], ◌∷◌}

-- That of bytes behind others whose digest is d.
abbrev pub digest_from : ℕ → List ℕ → ℕ
digest_from d [] = d
digest_from d (b ∷ l) = digest_from ((d * 31 + b) % 2 ^ 32) l

abbrev pub digest_of : List ℕ → ℕ
digest_of l = digest_from 0 l
