-- Where a field stands that has a place. Assumes nothing.
use Rattle.std.proofs.Common.{◌≡◌, Some, ◌+◌, ◌-◌, ◌^◌, ◌<◌, ◌≤◌, ap, arith, lt-ltb, le-leb}
use Rattle.numbers.specs.Places.{place_no, byte_no, located, place_or, field_place}
use Rattle.numbers.specs.declared.Place.{Place}
use Rattle.numbers.specs.declared.ByteNo.{ByteNo}

-- a byte number from 1 on, where byte number 1 stands at `start`
pub located_at : (start : Place) (b : ByteNo) → 1 ≤ byte_no b → place_no start + byte_no b < 2 ^ 64 → located start b ≡ Some (record { 0 = place_no start + (byte_no b - 1) })
located_at start b h l = rw (le-leb 1 (byte_no b) h, lt-ltb (place_no start + (byte_no b - 1)) (2 ^ 64) (omega arith))

pub field_place_lem : (start : Place) (b : ByteNo) → 1 ≤ byte_no b → place_no start + byte_no b < 2 ^ 64 → field_place start b ≡ record { 0 = place_no start + (byte_no b - 1) }
field_place_lem start b h l = ap place_or (located_at start b h l)
