-- The layout of a reel: 3,200 card bytes, 400 binary header bytes, then traces of 240 header bytes and N samples each; on an Eagle reel
-- each trace ends with a trailer of 960 bytes. A reel is given as the list of its bytes.
use Rattle.std.specs.Prelude.{ℕ, ◌+◌, ◌-◌, ◌*◌, ◌/◌, ◌%◌, List, [], ◌∷◌, ◌++◌, length, replicate, ℤ}
use Rattle.numbers.specs.Walk.{bytes_at}
use Rattle.numbers.specs.BigEndian.{number}
use Rattle.numbers.specs.TwosComplement.{signed_of}
use Rattle.numbers.specs.Places.{byte_place}
use Rattle.formats.specs.Codes.{sample_bytes}
use Rattle.reel.specs.declared.Layout.{Layout}
use Rattle.reel.specs.declared.Layout.TheVariants.{Plain, Eagle}
-- The card bytes, 40 cards of 80, which `Cards` defines: 3,200.
pub use Rattle.cards.specs.Cards.{card_bytes}

-- The place of the first trace, behind both headers.
abbrev pub first_trace : ℕ
first_trace = 3600

-- The bytes of a trace header.
abbrev pub trace_header : ℕ
trace_header = 240

-- ## Fields

-- An assigned header field: the byte number where it begins, and its bytes.
pub record Field : Type 0 where
  pub begins : ℕ
  pub width : ℕ

-- Fields of these widths, one after the other from a byte number on.
abbrev pub fields_from : ℕ → List ℕ → List Field
fields_from b [] = []
fields_from b (w ∷ ws) = record { begins = b; width = w } ∷ fields_from (b + w) ws

-- The 27 assigned fields of the binary header: 3201, 3205 and 3209 with four bytes, then 24 of two bytes from 3213 to 3260.
unfoldable pub binary_widths : List ℕ
binary_widths = replicate 3 4 ++ replicate 24 2

unfoldable pub binary_fields : List Field
binary_fields = fields_from 3201 binary_widths

-- The 71 assigned fields of a trace header: four bytes at 1, 5 .. 25; two at 29, 31, 33, 35; four at 37, 41 .. 65; two at 69 and 71;
-- four at 73, 77, 81, 85; two at 89, 91 .. 179.
unfoldable pub trace_widths : List ℕ
trace_widths =
    replicate 7 4 ++ (replicate 4 2 ++ (replicate 8 4 ++ (replicate 2 2 ++ (replicate 4 4 ++ replicate 46 2))))

unfoldable pub trace_fields : List Field
trace_fields = fields_from 1 trace_widths

-- Field 69, the scalar of the elevations, and field 71, that of the coordinates.
abbrev pub elevation_scalar : Field
elevation_scalar = record { begins = 69; width = 2 }

abbrev pub coordinate_scalar : Field
coordinate_scalar = record { begins = 71; width = 2 }

-- The signed number in a field of a header whose byte number 1 stands at the place `start`.
abbrev pub field_number : List ℕ → ℕ → Field → ℤ
field_number s start f = signed_of (8 * f.width) (number (bytes_at s (byte_place start f.begins) f.width))

-- The number in two bytes, without sign. Of a reel's own numbers below, from 1 to 32,767 or refused, the sign plays no part; the length of
-- a record's field, up to 48,000, and FFFF at the end of a trailer have none.
abbrev pub number16 : List ℕ → ℕ → ℕ
number16 s at = number (bytes_at s at 2)

-- ## The reel's own numbers

-- Field 3217, the sample interval in microseconds.
abbrev pub interval_of : List ℕ → ℕ
interval_of s = number16 s (byte_place 0 3217)

-- Field 3221, N, the samples of a trace.
abbrev pub samples_of : List ℕ → ℕ
samples_of s = number16 s (byte_place 0 3221)

-- Field 3225, the format code.
abbrev pub code_of : List ℕ → ℕ
code_of s = number16 s (byte_place 0 3225)

-- A trace's header and its n samples of v bytes: on a plain reel that is all from one trace to the next.
abbrev pub stride : ℕ → ℕ → ℕ
stride n v = trace_header + n * v

-- The bytes of a trailer: "Each trace is followed by a 960-byte trailer" (document 02, CR 7), on an Eagle reel.
abbrev pub trailer_bytes : ℕ
trailer_bytes = 960

-- From one trace to the next in a layout, plain or Eagle, with the trailer as part of the trace.
abbrev pub stride_in : Layout → ℕ → ℕ → ℕ
stride_in Plain n v = stride n v
stride_in Eagle n v = stride n v + trailer_bytes

-- The same of a reel, by its own numbers; and of a plain reel.
abbrev pub stride_by : Layout → List ℕ → ℕ
stride_by k s = stride_in k (samples_of s) (sample_bytes (code_of s))

abbrev pub stride_of : List ℕ → ℕ
stride_of s = stride_by Plain s

-- In a reel of `size` bytes: the whole traces of w bytes behind the headers, and the bytes behind the last whole trace.
abbrev pub whole_in : ℕ → ℕ → ℕ
whole_in size w = (size - first_trace) / w

abbrev pub over_in : ℕ → ℕ → ℕ
over_in size w = (size - first_trace) % w

-- T, the whole traces of a reel by its own numbers; and of a plain reel.
abbrev pub traces_by : Layout → List ℕ → ℕ
traces_by k s = whole_in (length s) (stride_by k s)

abbrev pub traces_of : List ℕ → ℕ
traces_of s = traces_by Plain s
