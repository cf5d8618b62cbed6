-- The listing of cards by a table, and the way back. Document 02: "Print a record's text as 40 lines of 80 characters, each closed by a line
-- feed (0A), 3,240 bytes in all." "A corrected listing and the record give a new record with that text by the inverse, a card byte 00
-- becoming 40 as on reading, and all else as it was."
use Rattle.std.specs.Prelude.{ℕ, List, [], ◌∷◌, ◌++◌, map, not, eqb, length, get_or}
use Rattle.numbers.specs.Walk.{walk, flat, bytes_at, overwritten}
use Rattle.numbers.specs.Cause.{refuse_if, then, first_of}
use Rattle.numbers.specs.Cause.{Check}
use Rattle.reel.specs.Meaning.{blank}
use Rattle.record.specs.Form.{field_head}
use Rattle.code_page.specs.Page.{char_of, code_in}

-- ## Lengths

-- A record's text is 40 cards of 80 bytes. A line of a listing is the 80 characters of a card and a line feed, 81 bytes, and a listing
-- is 40 lines.
abbrev pub card_count : ℕ
card_count = 40

abbrev pub card_length : ℕ
card_length = 80

abbrev pub line_length : ℕ
line_length = 81

abbrev pub listing_length : ℕ
listing_length = 3240

-- The line feed, 0A.
abbrev pub line_feed : ℕ
line_feed = 0x0A

-- Where the cards begin in a text, and the lines in a listing.
abbrev pub card_starts : List ℕ
card_starts = walk (λ p. p) card_length card_count 0

abbrev pub line_starts : List ℕ
line_starts = walk (λ p. p) line_length card_count 0

-- ## The listing

-- The line of the card that begins at p in a text: its 80 characters by the table t, closed by a line feed.
unfoldable pub card_line : List ℕ → List ℕ → ℕ → List ℕ
card_line t text p = map (char_of t) (bytes_at text p card_length) ++ line_feed ∷ []

-- The listing of a text by the table t: the lines of its 40 cards.
unfoldable pub listing_of : List ℕ → List ℕ → List ℕ
listing_of t text = flat (map (card_line t text) card_starts)

-- ## The way back

-- The card byte of the character c by the inverse of the table t: its code, 40 for the code 00.
abbrev pub card_byte : List ℕ → ℕ → ℕ
card_byte t c = blank (code_in t c)

-- The card of the line that begins at p in a listing: the card bytes of its 80 characters.
unfoldable pub card_of : List ℕ → List ℕ → ℕ → List ℕ
card_of t listing p = map (card_byte t) (bytes_at listing p card_length)

-- The text of a listing by the table t: the cards of its 40 lines.
unfoldable pub text_of : List ℕ → List ℕ → List ℕ
text_of t listing = flat (map (card_of t listing) line_starts)

-- The record r with another text, which stands behind tag 01 and its length; all else is as it was.
abbrev pub with_text : List ℕ → List ℕ → List ℕ
with_text r text = overwritten r field_head text

-- ## The cause 17

-- 17: an 81st byte other than a line feed, at its place in the listing.
abbrev pub line_cause : List ℕ → ℕ → Check
line_cause listing at = refuse_if (not (eqb (get_or listing at 0) line_feed)) 17 at

-- "Number 17: a listing of another length, returning the length, or else without 0A at some 81st byte, returning the first such place". The
-- first 81st byte stands at the place 80.
unfoldable pub listing_causes : List ℕ → Check
listing_causes listing =
    then (refuse_if (not (eqb (length listing) listing_length)) 17 (length listing))
    (first_of (walk (line_cause listing) line_length card_count card_length))
