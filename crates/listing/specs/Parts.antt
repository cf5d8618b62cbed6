-- Parts of both calls for the functions inside this crate, which are lent a table for either way: of the character of each code, or of the
-- card byte of each character.
use Rattle.std.specs.Prelude.{ℕ, List, [], ◌∷◌, ◌++◌, map, ltb, length, get_or}
use Rattle.numbers.specs.Walk.{pick, walk, flat, bytes_at}
use Rattle.numbers.specs.Outcome.{Outcome}
use Rattle.listing.specs.Listing.{card_count, card_length, line_length, line_feed}
use Rattle.listing.specs.Calls.{take_causes, take_end}

-- The entry of a table for a byte.
abbrev pub entry_of : List ℕ → ℕ → ℕ
entry_of table b = get_or table b 0

-- What stands behind the entries for 80 bytes in a part of so many bytes: a line feed, which a line has room for and a card has not.
abbrev pub closing : ℕ → List ℕ
closing size = pick (ltb card_length size) (line_feed ∷ []) []

-- A part of so many bytes, by a table: the entries for the 80 bytes of s from the place p on, and what stands behind them.
unfoldable pub part_by : List ℕ → ℕ → List ℕ → ℕ → List ℕ
part_by table size s p = map (entry_of table) (bytes_at s p card_length) ++ closing size

-- 40 such parts, of bytes that stand `from` apart: cards to lines, 80 apart to 81 each, and back, 81 apart to 80 each.
unfoldable pub parts_by : List ℕ → ℕ → ℕ → List ℕ → List ℕ
parts_by table from size s = flat (map (part_by table size s) (walk (λ p. p) from card_count 0))

-- The text of a listing by a table of card bytes.
abbrev pub text_by : List ℕ → List ℕ → List ℕ
text_by bytes listing = parts_by bytes line_length card_length listing

-- The outcome of taking a listing back by a table of card bytes.
abbrev pub take_by : List ℕ → List ℕ → List ℕ → List ℕ → Outcome
take_by bytes r listing out = take_end r (text_by bytes listing) out (take_causes r listing (length out))
