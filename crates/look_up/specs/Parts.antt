-- What the parts of the call find, and what they need.
use Rattle.std.specs.Prelude.{ℕ, ◌-◌, ◌%◌, ◌≡◌, List, [], ◌∷◌, ◌&&◌, leb, ltb, eqb, Option, Some, None}
use Rattle.numbers.specs.Walk.{pick}
use Rattle.numbers.specs.Cause.{Fine}
use Rattle.reel.specs.Layout as layout
use Rattle.reel.specs.Layout.{samples_of, interval_of, stride_of}
use Rattle.reel.specs.Causes.{causes_of}
use Rattle.header_fields.specs.HeaderField.{bytes_of, field_of}
use Rattle.header_fields.specs.declared.header_field.Width.{Width}
use Rattle.header_fields.specs.declared.header_field.Field.{Field}
use Rattle.look_up.specs.declared.Row.{Row}
use Rattle.look_up.specs.LookUp.{Found, found, none}

-- The width w, where b is one of the byte numbers first, first + w and so on; elsewhere 0.
abbrev pub in_row : ℕ → ℕ → ℕ → ℕ
in_row first w b = pick (leb first b && eqb ((b - first) % w) 0) w 0

-- The width of the field that begins at byte number b, in a header of such rows; 0 where none begins there.
abbrev pub in_rows : List Row → ℕ → ℕ
in_rows [] b = 0
in_rows (r ∷ rs) b = pick (ltb b r.0.end) (in_row r.0.start (bytes_of r.1) b) (in_rows rs b)

-- The bytes of the width that was found; 0 where none was.
abbrev pub bytes_or_none : Option Width → ℕ
bytes_or_none (Some w) = bytes_of w
bytes_or_none None = 0

-- The bytes of the field that was found; 0 where none was.
abbrev pub width_of : Found → ℕ
width_of (found f) = f.width
width_of none = 0

-- The field of w bytes at byte number b.
abbrev pub the_field : ℕ → ℕ → layout.Field
the_field b w = record { begins = b; width = w }

-- The field that was found, as the layout names it.
abbrev pub found_field : Option Field → Found
found_field (Some f) = found (field_of f)
found_field None = none

-- A reel to which none of 1 to 9, 18 and 19 applies, with its own numbers: N, the interval, and the bytes from trace to trace.
pub record Own (s : List ℕ) (n i w : ℕ) : Type 0 where
  pub fine : causes_of s ≡ Fine
  pub samples : n ≡ samples_of s
  pub interval : i ≡ interval_of s
  pub stride : w ≡ stride_of s
