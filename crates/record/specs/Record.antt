-- The record of a meaning: tagged fields in the order that document 01 sets. The bytes of a trace header, which document 02 changes (CR 2),
-- are those of `Header` in `headers`.
use Rattle.std.specs.Prelude.{ℕ, ◌+◌, ◌*◌, List, ◌∷◌, ◌++◌, map, length, take, drop, ℤ, pos}
use Rattle.numbers.specs.Walk.{flat}
use Rattle.numbers.specs.BigEndian.{bytes_of}
use Rattle.fields.specs.Fields.{fields_length, shares}
use Rattle.reel.specs.Layout.{binary_widths}
use Rattle.reel.specs.Meaning.{Trace, Meaning, meaning_by}
use Rattle.reel.specs.declared.Layout.{Layout}
use Rattle.reel.specs.declared.Layout.TheVariants.{Plain}
use Rattle.headers.specs.Header.{number_bytes, header_size, header_bytes}
use Rattle.record.specs.Kind.{Kind, tag04}

-- A tagged field: one byte of tag, two bytes of length, the content.
unfoldable pub field : ℕ → List ℕ → List ℕ
field tag l = tag ∷ (bytes_of 2 (length l) ++ l)

-- The 27 binary numbers, with a format code: it is the tenth of them, and its number is not among the 26 of a meaning.
abbrev pub with_code : ℕ → List ℤ → List ℤ
with_code code zs = take 9 zs ++ (pos code ∷ drop 9 zs)

-- The binary fields, with a format code. In a record it is replaced by 0.
unfoldable pub binary_bytes : ℕ → List ℤ → List ℕ
binary_bytes code zs = number_bytes binary_widths (with_code code zs)

-- The samples of a field, but for the last of a trace, which has "the remaining 1 to 6,000" (document 02, CR 8).
abbrev pub field_samples : ℕ
field_samples = 6000

module _ (k : Kind) where
  -- Samples in one field: the bytes of their pairs behind the kind's tag.
  unfoldable pub samples_field_in : List ℤ → List ℕ
  samples_field_in vs = field k.tag (flat (map k.bytes vs))

  -- The samples of a trace, in fields of 6,000.
  unfoldable pub samples_fields_in : List ℤ → List ℕ
  samples_fields_in vs = flat (map samples_field_in (shares field_samples vs))

  -- A trace: tag 03 with the 180 bytes of its header, then its samples.
  unfoldable pub trace_bytes_in : Trace → List ℕ
  trace_bytes_in t = field 3 (header_bytes t.header) ++ samples_fields_in t.values

  -- The record of a meaning: tag 01 with the card bytes, tag 02 with the binary fields, the traces, and tag 05 with their count.
  unfoldable pub record_of_in : Meaning → List ℕ
  record_of_in m =
      field 1 m.cards
      ++ (field 2 (binary_bytes 0 m.binary) ++ (flat (map trace_bytes_in m.traces) ++ field 5 (bytes_of 4 (length m.traces))))

  -- The bytes of a trace of n samples: 183 of tag 03, then its samples with the tags and lengths of their fields.
  abbrev pub trace_length_in : ℕ → ℕ
  trace_length_in n = 3 + header_size + fields_length k.width field_samples n

  -- A record of t traces of n samples is 3273 + t × (183 + 3F + 6n) bytes, with F fields of samples a trace: 3,266 bytes of tags 01 and 02 stand
  -- before the traces, 7 of tag 05 behind them.
  abbrev pub record_length_in : ℕ → ℕ → ℕ
  record_length_in t n = 3273 + t * trace_length_in n

-- The record of a meaning as reading gives it, and its length.
abbrev pub trace_bytes : Trace → List ℕ
trace_bytes = trace_bytes_in tag04

abbrev pub record_of : Meaning → List ℕ
record_of m = record_of_in tag04 m

abbrev pub trace_length : ℕ → ℕ
trace_length n = trace_length_in tag04 n

abbrev pub record_length : ℕ → ℕ → ℕ
record_length t n = record_length_in tag04 t n

-- The record of a reel of a layout, and of a plain reel, is that of what it means.
abbrev pub record_by : Layout → List ℕ → List ℕ
record_by k s = record_of (meaning_by k s)

abbrev pub reel_record : List ℕ → List ℕ
reel_record s = record_by Plain s
