-- A trace header as a record holds it, as document 01 sets it and document 02 changes it (CR 2): its 71 numbers and their 180 bytes, and
-- the causes 13 against the two scalars.
use Rattle.std.specs.Prelude.{ℕ, ◌+◌, ◌*◌, Bool, not, ◌&&◌, List, [], ◌∷◌, ◌++◌, map, leb, eqb, length, take, drop, ℤ}
use Rattle.numbers.specs.Walk.{pick}
use Rattle.numbers.specs.BigEndian.{bytes_of}
use Rattle.numbers.specs.TwosComplement.{bits_of}
use Rattle.numbers.specs.Places.{byte_place}
use Rattle.numbers.specs.Cause.{refuse_if, then}
use Rattle.numbers.specs.Cause.{Check}
use Rattle.numbers.specs.Cause.{Fine}
use Rattle.scalars.specs.Scalar.{group_numbers, group_scalar, is_smallest}
use Rattle.reel.specs.Layout.{Field, trace_widths, elevation_scalar, coordinate_scalar, field_number}
use Rattle.reel.specs.Meaning.{trace_number, elevation_fields, coordinate_fields, Header, header_of}

-- ## Its numbers and bytes

-- Header numbers, each in its field's bytes.
abbrev pub number_bytes : List ℕ → List ℤ → List ℕ
number_bytes [] zs = []
number_bytes (w ∷ ws) [] = []
number_bytes (w ∷ ws) (z ∷ zs) = bytes_of w (bits_of (8 * w) z) ++ number_bytes ws zs

-- The 71 numbers of a trace header in a record, in the order of the fields: the 12 unscaled numbers before field 41; the elevations at their
-- smallest power; fields 69 and 71, each the scalar of its group's smallest power; the coordinates at theirs; and the 46 unscaled numbers
-- behind field 85.
unfoldable pub record_numbers : Header → List ℤ
record_numbers h =
    take 12 h.numbers
    ++ (group_numbers h.elevations
    ++ (group_scalar h.elevations
    ∷ group_scalar h.coordinates
    ∷ (group_numbers h.coordinates ++ drop 12 h.numbers)))

-- Their bytes.
unfoldable pub header_bytes : Header → List ℕ
header_bytes h = number_bytes trace_widths (record_numbers h)

-- The bytes of a trace's 71 fields, 1 to 180.
abbrev pub header_size : ℕ
header_size = 180

-- ## Its scalars in a record

-- 13: "any scalar but that of this smallest power", at that scalar, for the group of these fields. Byte number 1 stands at the place
-- `start`.
abbrev pub smallest_cause : List ℕ → ℕ → List Field → Field → Check
smallest_cause s start fields scalar =
    refuse_if (not (is_smallest (map (field_number s start) fields) (field_number s start scalar))) 13 (byte_place start scalar.begins)

-- Field 69, then field 71.
unfoldable pub smallest_causes : List ℕ → ℕ → Check
smallest_causes s start = then (smallest_cause s start elevation_fields elevation_scalar) (smallest_cause s start coordinate_fields coordinate_scalar)

-- ## The calls

-- A header stands whole from the place `start` on.
abbrev pub is_header : List ℕ → ℕ → Bool
is_header s start = leb (start + header_size) (length s)

-- 13 against the scalars of a header that stands whole; none where it doesn't, as the field it stands in is refused before.
unfoldable pub header_judged : List ℕ → ℕ → Check
header_judged s start = pick (is_header s start) (smallest_causes s start) Fine

-- An output after the header of the trace at the place `at` was read into it, in a reel of n samples a trace and interval i: the header's
-- bytes in the record, or what it was where the header doesn't stand whole or the output isn't as long.
unfoldable pub header_read : List ℕ → ℕ → ℕ → ℕ → List ℕ → List ℕ
header_read s n i at out = pick (is_header s at && eqb (length out) header_size) (header_bytes (header_of (trace_number s n i at))) out
