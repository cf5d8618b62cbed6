-- The cards of a reel: how many bytes they have, how a byte of them is taken, and what the card text of a record is.
use Rattle.std.specs.Prelude.{ℕ, Bool, true, not, ◌&&◌, List, [], ◌∷◌, map, eqb, length}
use Rattle.numbers.specs.Walk.{pick}

-- The card bytes, 40 cards of 80.
abbrev pub card_bytes : ℕ
card_bytes = 3200

-- A card byte 00 is taken as the EBCDIC blank 40, which is 64.
abbrev pub blank : ℕ → ℕ
blank b = pick (eqb b 0) 0x40 b

-- No byte is 00.
abbrev pub no_zero : List ℕ → Bool
no_zero [] = true
no_zero (b ∷ l) = not (eqb b 0) && no_zero l

-- Bytes that are the card text of a record: 3,200, and no byte is 00.
unfoldable pub is_card_text : List ℕ → Bool
is_card_text cards = eqb (length cards) card_bytes && no_zero cards

-- What a slice holds after card bytes were put into it: each as it is taken, where both have 3,200 bytes, else what it held.
unfoldable pub cards_put : List ℕ → List ℕ → List ℕ
cards_put cards out = pick (eqb (length cards) card_bytes && eqb (length out) card_bytes) (map blank cards) out
