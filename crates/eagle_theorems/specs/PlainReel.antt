-- The plain reel of an Eagle reel: what is left of it without its trailers and its check.
use Rattle.std.specs.Prelude.{List, ◌∷◌, ◌++◌, ℕ}
use Rattle.numbers.specs.Walk.{walk, flat, bytes_at}
use Rattle.eagle_theorems.specs.EagleTable.{bare_trace, eagle_length, eagle_count}

-- The card bytes with blanks in columns 79 and 80 of card 40, the binary header, and each trace without its trailer.
unfoldable pub plain_reel : List ℕ → List ℕ
plain_reel s =
    bytes_at s 0 3198
    ++ (0x40 ∷ 0x40
    ∷ (bytes_at s 3200 400 ++ flat (walk (λ at. bytes_at s at (bare_trace s)) (eagle_length s) (eagle_count s) 3600)))
