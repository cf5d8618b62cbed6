-- A field of a header as the layout of a reel names it.
use Rattle.std.specs.Prelude.{ℕ}
use Rattle.numbers.specs.Places.{byte_no}
use Rattle.reel.specs.Layout as layout
use Rattle.header_fields.specs.declared.header_field.Width.{Width}
use Rattle.header_fields.specs.declared.header_field.Width.TheVariants.{Two, Four}
use Rattle.header_fields.specs.declared.header_field.Field.{Field}

-- the bytes of a width
abbrev pub bytes_of : Width → ℕ
bytes_of Two = 2
bytes_of Four = 4

-- the field of the layout, by the byte number where it begins, and its bytes
abbrev pub field_of : Field → layout.Field
field_of f = record { begins = byte_no f.begins; width = bytes_of f.width }
