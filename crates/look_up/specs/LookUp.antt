-- Looking up one header field: it takes a reel, a trace number (0 means the binary header, 1 the first trace) and a byte number.
use Rattle.std.specs.Prelude.{ℕ, ◌+◌, ◌-◌, ◌*◌, List, [], ◌∷◌, Bool, true, false, eqb, ltb, ℤ, pos, Result, Ok, Err}
use Rattle.numbers.specs.Walk.{pick}
use Rattle.numbers.specs.Places.{place_no, byte_no}
use Rattle.numbers.specs.Cause.{refuse_if, then, first_of, cause_no}
use Rattle.numbers.specs.Outcome.{Said, taken, refused}
use Rattle.numbers.specs.declared.ByteNo.{ByteNo}
use Rattle.numbers.specs.declared.Refusal.{Refusal}
use Rattle.numbers.specs.Cause.{Check, Fine, Refused}
use Rattle.reel.specs.Layout.{Field, first_trace, binary_fields, trace_fields, field_number, samples_of, interval_of, stride_of, traces_of}
use Rattle.reel.specs.Meaning.{trace_number}
use Rattle.reel.specs.Causes.{causes_of}

-- ## The field

-- What begins at a byte number: an assigned field, or none.
pub data Found : Type 0 where
  found : Field → Found
  none : Found

-- Whether no field begins there.
abbrev pub is_none : Found → Bool
is_none (found f) = false
is_none none = true

-- The field that begins at byte number b, among the fields of a header.
unfoldable pub field_in : ℕ → List Field → Found
field_in b [] = none
field_in b (f ∷ fs) = pick (eqb f.begins b) (found f) (field_in b fs)

-- The assigned fields of header k: of the binary header for 0, of a trace's from 1 on.
abbrev pub header_fields : ℕ → List Field
header_fields k = pick (eqb k 0) binary_fields trace_fields

-- The field that begins at byte number b of header k.
abbrev pub field_at : ℕ → ByteNo → Found
field_at k b = field_in (byte_no b) (header_fields k)

-- ## Its number

-- The signed number of a field of header k: of the binary header as on the reel, of a trace with 115 and 117 filled in. k - 1 traces
-- stand before trace k.
abbrev pub header_number : List ℕ → ℕ → Field → ℤ
header_number s k f =
    pick (eqb k 0) (field_number s 0 f)
    (trace_number s (samples_of s) (interval_of s) (first_trace + (k - 1) * stride_of s) f)

-- The number of what was found: of the field; 0 where there is none.
abbrev pub found_number : List ℕ → ℕ → Found → ℤ
found_number s k (found f) = header_number s k f
found_number s k none = pos 0

-- ## The call

-- 15, a reel of t traces has no trace k; then 16, no assigned field of that header begins at the byte number.
abbrev pub field_causes : ℕ → ℕ → Bool → Check
field_causes t k missing = first_of (refuse_if (ltb t k) 15 0 ∷ refuse_if missing 16 0 ∷ [])

-- 1 to 9, 18 and 19; then 15 and 16.
abbrev pub look_up_causes : List ℕ → ℕ → ByteNo → Check
look_up_causes s k b = then (causes_of s) (field_causes (traces_of s) k (is_none (field_at k b)))

-- The complete outcome: what the call says, and the number.
pub record NumberOutcome : Type 0 where
  pub said : Said
  pub value : ℤ

-- Beside a refusal the number is 0.
abbrev pub number_said : Check → ℤ → NumberOutcome
number_said Fine z = record { said = taken []; value = z }
number_said (Refused number place) z = record { said = refused number (place_no place); value = pos 0 }

-- The outcome for a reel s, header k and byte number b.
unfoldable pub look_up_outcome : List ℕ → ℕ → ByteNo → NumberOutcome
look_up_outcome s k b = number_said (look_up_causes s k b) (found_number s k (field_at k b))

-- Document 01's number and values for each case of the answer: taken with the signed number; or refused with the number and what stands
-- beside it, and then the looked-up number is 0.
abbrev pub looked_up : Result ℤ Refusal → NumberOutcome
looked_up (Ok z) = record { said = taken []; value = z }
looked_up (Err r) = record { said = refused (cause_no r.cause) (place_no r.place); value = pos 0 }
