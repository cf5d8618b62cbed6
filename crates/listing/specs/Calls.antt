-- The complete outcome of listing a record's cards, and of taking a corrected listing back, by a table.
use Rattle.std.specs.Prelude.{ℕ, List, [], ◌∷◌, ◌++◌, ltb, length, drop, Result, Ok, Err}
use Rattle.numbers.specs.Cause.{refuse_if, then, cause_no}
use Rattle.numbers.specs.Outcome.{Said, taken, refused, Outcome}
use Rattle.numbers.specs.Places.{place_no}
use Rattle.numbers.specs.Cause.{Check}
use Rattle.numbers.specs.Cause as check
use Rattle.record.specs.Form.{held_samples, held_count, form_causes}
use Rattle.record.specs.Held.{held_by}
use Rattle.listing.specs.Listing.{listing_length, listing_of, text_of, with_text, listing_causes}
use Rattle.numbers.specs.declared.Refusal.{Refusal}

-- ## Listing

-- The papers' number and values for each case of the answer: taken with the listing's length; refused with the number and what stands
-- beside it.
abbrev pub said_by : Result ℕ Refusal → Said
said_by (Ok l) = taken (l ∷ [])
said_by (Err r) = refused (cause_no r.cause) (place_no r.place)

-- What the call says and leaves in its output.
abbrev pub listed : Result ℕ Refusal → List ℕ → Outcome
listed r out = record { said = said_by r; bytes = out }

-- The record front to back by 12 and 13; then 10: the output is too short.
abbrev pub list_causes : List ℕ → ℕ → Check
list_causes r room = then (form_causes r) (refuse_if (ltb room listing_length) 10 listing_length)

-- Taken, the listing of the record's text by the table t stands at the output's front, and the rest keeps its content; refused, the
-- output is left as it was.
abbrev pub list_end : List ℕ → List ℕ → List ℕ → Check → Outcome
list_end t r out check.Fine =
    record {
      said = taken (listing_length ∷ []);
      bytes = listing_of t (held_by r).cards ++ drop listing_length out;
    }
list_end t r out (check.Refused number place) = record { said = refused number (place_no place); bytes = out }

-- The outcome of listing the cards of a record r by the table t into an output.
abbrev pub list_outcome : List ℕ → List ℕ → List ℕ → Outcome
list_outcome t r out = list_end t r out (list_causes r (length out))

-- ## Taking back

-- The record front to back by 12 and 13; the listing by 17; then 10: the output is too short, with the length of the record.
abbrev pub take_causes : List ℕ → List ℕ → ℕ → Check
take_causes r listing room = then (form_causes r) (then (listing_causes listing) (refuse_if (ltb room (length r)) 10 (length r)))

-- The numbers that taking back returns: T and N as the record holds them, and its length.
abbrev pub taken_numbers : List ℕ → List ℕ
taken_numbers r = held_count r (held_samples r) ∷ held_samples r ∷ length r ∷ []

-- Taken, the record with the text x stands at the output's front, and the rest keeps its content; refused, the output is left as it was.
abbrev pub take_end : List ℕ → List ℕ → List ℕ → Check → Outcome
take_end r x out check.Fine =
    record {
      said = taken (taken_numbers r);
      bytes = with_text r x ++ drop (length r) out;
    }
take_end r x out (check.Refused number place) = record { said = refused number (place_no place); bytes = out }

-- The outcome of taking a listing back by the table t, into the record r, in an output.
abbrev pub take_outcome : List ℕ → List ℕ → List ℕ → List ℕ → Outcome
take_outcome t r listing out = take_end r (text_of t listing) out (take_causes r listing (length out))
