-- A reel's record as the code writes it, by copying what can be copied: for the functions inside this crate.
use Rattle.std.specs.Prelude.{ℕ, ◌+◌, ◌*◌, List, ◌∷◌, ◌++◌, map}
use Rattle.numbers.specs.Walk.{walk, flat, bytes_at, overwritten}
use Rattle.numbers.specs.Places.{byte_place}
use Rattle.numbers.specs.BigEndian.{bytes_of}
use Rattle.formats.specs.Codes.{sample_bytes, word_length}
use Rattle.formats.specs.Value.{exact_value}
use Rattle.value.specs.Pair.{pair_length}
use Rattle.reel.specs.Layout.{card_bytes, first_trace, trace_header}
use Rattle.reel.specs.Meaning.{card_text_by, trace_number, header_of}
use Rattle.reel.specs.declared.Layout.{Layout}
use Rattle.headers.specs.Header.{header_size, header_bytes}
use Rattle.record.specs.Kind.{tag04}
use Rattle.record.specs.Record.{samples_fields_in}
use Rattle.record.specs.Form.{binary_size, code_place}
use Rattle.read_samples.specs.Samples.{places, sample_pairs}

-- A field's tag, and the length of its content.
abbrev pub tag_bytes : ℕ → ℕ → List ℕ
tag_bytes tag size = tag ∷ bytes_of 2 size

-- The first two fields of the record: the card text, and the binary fields, from 3201 on, as they are on the reel.
unfoldable pub fields_copied : Layout → List ℕ → List ℕ
fields_copied k s = tag_bytes 1 card_bytes ++ (card_text_by k s ++ (tag_bytes 2 binary_size ++ bytes_at s (byte_place 0 3201) binary_size))

-- The same with 0 in place of the format code.
unfoldable pub head_copied : Layout → List ℕ → List ℕ
head_copied k s = overwritten (fields_copied k s) code_place (bytes_of 2 0)

-- A field of samples, and n samples from a place on in their fields.
unfoldable pub field_copied : List ℕ → ℕ → ℕ → ℕ → List ℕ
field_copied s code count at = tag_bytes 4 (count * pair_length) ++ sample_pairs s code count at

unfoldable pub samples_copied : List ℕ → ℕ → ℕ → ℕ → List ℕ
samples_copied s code n at = samples_fields_in tag04 (walk (λ p. exact_value code (bytes_at s p word_length)) (sample_bytes code) n at)

-- A trace.
unfoldable pub record_trace_copied : List ℕ → ℕ → ℕ → ℕ → ℕ → List ℕ
record_trace_copied s code n i at =
    tag_bytes 3 header_size ++ (header_bytes (header_of (trace_number s n i at)) ++ samples_copied s code n (at + trace_header))

-- The record of t traces of w bytes each.
unfoldable pub record_copied : Layout → List ℕ → ℕ → ℕ → ℕ → ℕ → ℕ → List ℕ
record_copied k s code n i w t =
    head_copied k s ++ (flat (map (record_trace_copied s code n i) (places w t first_trace)) ++ (tag_bytes 5 4 ++ bytes_of 4 t))
