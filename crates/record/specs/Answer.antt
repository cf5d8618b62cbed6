-- What the calls on whole reels answer, in document 01's terms.
use Rattle.std.specs.Prelude.{List, [], ◌∷◌, ℕ, Result, Ok, Err}
use Rattle.numbers.specs.Outcome.{Said, taken, refused, Outcome}
use Rattle.numbers.specs.Places.{place_no}
use Rattle.numbers.specs.Cause.{cause_no}
use Rattle.numbers.specs.declared.Refusal.{Refusal}
use Rattle.record.specs.declared.Taken.{Taken}
use Rattle.record.specs.declared.Counted.{Counted}

-- Document 01's number and values for each case of the answer: taken with T, N and the length; refused with the number and what stands
-- beside it.
abbrev pub said_by : Result Taken Refusal → Said
said_by (Ok a) = taken (a.traces ∷ a.samples ∷ a.length ∷ [])
said_by (Err r) = refused (cause_no r.cause) (place_no r.place)

-- The same of an answer with a count, which comes last.
abbrev pub counted_by : Result Counted Refusal → Said
counted_by (Ok a) = taken (a.traces ∷ a.samples ∷ a.length ∷ a.count ∷ [])
counted_by (Err r) = refused (cause_no r.cause) (place_no r.place)

-- What a call says and leaves in its output.
abbrev pub outcome : Result Taken Refusal → List ℕ → Outcome
outcome r out = record { said = said_by r; bytes = out }

abbrev pub counted_outcome : Result Counted Refusal → List ℕ → Outcome
counted_outcome r out = record { said = counted_by r; bytes = out }
