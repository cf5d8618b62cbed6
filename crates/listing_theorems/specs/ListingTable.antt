-- The table of causes for both calls on listings, of which document 02 sets 17 and document 01 the others, in the order in which they are
-- looked for. A row says in which case it applies, its number, and what stands beside it; as the order sets, it applies only where no row
-- before it does.
use Rattle.std.specs.Prelude.{◌≡◌, List, ℕ, ◌+◌, ◌*◌, ◌<◌, length, get_or}
use Rattle.demands.specs.Tables.{FormRow}

-- A valid record: no row of 12 and 13 applies to it. `no_form_cause`, in `FormRefusals` of `demands`, shows that this is where `form_causes`
-- finds nothing.
abbrev pub Valid : List ℕ → Type 0
Valid r = (number place : ℕ) → ¬ (FormRow r number place)

-- The place in a listing of byte i of line j, both counted from 0: its 80 characters are 0 to 79, and its 81st byte is 80. So the first 81st
-- byte stands at the place 80, and each other 81 on.
abbrev pub line_place : ℕ → ℕ → ℕ
line_place j i = j * 81 + i

-- The 81st byte of line j is a line feed.
abbrev pub Closed : List ℕ → ℕ → Type 0
Closed listing j = get_or listing (line_place j 80) 0 ≡ 0x0A

-- A listing of the right form: 3,240 bytes, and each of its 40 lines is closed by a line feed.
pub record ListingRight (listing : List ℕ) : Type 0 where
  pub size : length listing ≡ 3240
  pub closed : (j : ℕ) → j < 40 → Closed listing j

-- Listing: 12 and 13, then 10. The output has `room` bytes.
pub data ListRow (r : List ℕ) (room : ℕ) : ℕ → ℕ → Type 0 where
  -- 12 and 13: a row of their table applies to the record
  by_form : {number place : ℕ} → FormRow r number place → ListRow r room number place
  -- 10: the output is too short for the listing, with the listing's length
  short_output : Valid r → room < 3240 → ListRow r room 10 3240

-- Taking a listing back: "Number 17: a listing of another length, returning the length, or else without 0A at some 81st byte, returning
-- the first such place; after 12 and 13 for the record, before 10". The output has `room` bytes.
pub data TakeRow (r listing : List ℕ) (room : ℕ) : ℕ → ℕ → Type 0 where
  -- 12 and 13: a row of their table applies to the record
  by_form : {number place : ℕ} → FormRow r number place → TakeRow r listing room number place
  -- 17: the listing has another length, which stands beside it
  other_length : Valid r → ¬ (length listing ≡ 3240) → TakeRow r listing room 17 (length listing)
  -- 17: a line, the first such, isn't closed by a line feed, with the place of its 81st byte in the listing
  open_line : (j : ℕ) → Valid r → length listing ≡ 3240 → j < 40 → ((i : ℕ) → i < j → Closed listing i) → ¬ (Closed listing j)
      → TakeRow r listing room 17 (line_place j 80)
  -- 10: the output is too short for the record, with the record's length
  short_output : Valid r → ListingRight listing → room < length r → TakeRow r listing room 10 (length r)
