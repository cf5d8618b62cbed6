-- The fields of a trace header around fields 115 and 117, their counts and their bytes. Assumes nothing.
use mathlib.Core.Path.{◌≡◌, refl}
use mathlib.Core.List.{List, ◌∷◌, ◌++◌, map}
use Prim.Native.Nat.{ℕ}
use lib.ListN.{length, replicate}
use Rattle.reel.specs.Layout.{Field, fields_from, trace_widths, trace_fields, field_number}
use Rattle.reel.specs.Meaning.{filled, trace_number}
use Rattle.headers.proofs.NumberLaws.{total}

-- the widths before field 115 and behind field 117
unfoldable pub trace_front : List ℕ
trace_front = replicate 7 4 ++ (replicate 4 2 ++ (replicate 8 4 ++ (replicate 2 2 ++ (replicate 4 4 ++ replicate 13 2))))

unfoldable pub trace_back : List ℕ
trace_back = replicate 31 2

pub trace_widths_lem : trace_widths ≡ trace_front ++ (2 ∷ 2 ∷ trace_back)
unfolding trace_widths trace_front trace_back
trace_widths_lem = refl

-- fields 115 and 117
abbrev pub count_field : Field
count_field = record { begins = 115; width = 2 }

abbrev pub interval_field : Field
interval_field = record { begins = 117; width = 2 }

pub trace_numbers_lem : (s : List ℕ) (n i at : ℕ)
    → map (trace_number s n i at) trace_fields
    ≡ map (field_number s at) (fields_from 1 trace_front)
    ++ (filled n (field_number s at count_field) ∷ filled i (field_number s at interval_field) ∷ map (field_number s at) (fields_from 119 trace_back))
unfolding trace_fields trace_widths trace_front trace_back
trace_numbers_lem s n i at = refl

-- 71 fields in 180 bytes
pub trace_counts : (length trace_fields ≡ 71) × (total trace_widths ≡ 180)
unfolding trace_fields trace_widths
trace_counts = (refl, refl)
