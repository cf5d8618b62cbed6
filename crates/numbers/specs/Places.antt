-- Byte numbers and places, document 01's own terms. A byte number is the standard's, counted from 1; a place is an offset in the input,
-- counted from 0.
use Rattle.std.specs.Prelude.{ℕ, ◌+◌, ◌-◌, ◌^◌, ◌&&◌, nat_le, nat_lt, Option, Some, None}
use Rattle.numbers.specs.Walk.{pick}
use Rattle.numbers.specs.declared.Place.{Place}
use Rattle.numbers.specs.declared.ByteNo.{ByteNo}

-- The number that a place holds, and that a byte number holds: a place is no byte number, nor the other way round.
abbrev pub place_no : Place → ℕ
place_no p = p.0

abbrev pub byte_no : ByteNo → ℕ
byte_no b = b.0

-- The one conversion: where byte number b stands, from 1 on, where byte number 1 stands at the place `start`.
abbrev pub byte_place : ℕ → ℕ → ℕ
byte_place start b = start + (b - 1)

-- The same as a place, or nowhere: no byte has number 0, and a place is a number of 64 bits.
abbrev pub located : Place → ByteNo → Option Place
located start b =
    pick (nat_le 1 (byte_no b) && nat_lt (byte_place (place_no start) (byte_no b)) (2 ^ 64))
    (Some (record { 0 = byte_place (place_no start) (byte_no b) }))
    None

-- The place of what was located; where it stands nowhere the last number of 64 bits, a place at which no input has a byte.
abbrev pub place_or : Option Place → Place
place_or (Some p) = p
place_or None = record { 0 = 2 ^ 64 - 1 }

-- The place of a field of a header whose byte number 1 stands at the place `start`.
abbrev pub field_place : Place → ByteNo → Place
field_place start b = place_or (located start b)
