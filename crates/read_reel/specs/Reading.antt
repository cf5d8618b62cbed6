-- The complete outcome of reading a reel into an output. A name that ends in `By` takes the layout of the reel, plain or Eagle; the same name
-- without it, or with `Of`, is that of plain reels.
use Rattle.std.specs.Prelude.{ℕ, List, [], ◌∷◌, ◌++◌, length, drop, ltb}
use Rattle.numbers.specs.Cause.{refuse_if, then}
use Rattle.numbers.specs.Outcome.{taken, refused, Outcome}
use Rattle.numbers.specs.Places.{place_no}
use Rattle.numbers.specs.Cause.{Check}
use Rattle.numbers.specs.Cause as check
use Rattle.reel.specs.Layout.{samples_of, traces_by}
use Rattle.reel.specs.Causes.{causes_by}
use Rattle.reel.specs.NotNormal.{not_normal_by}
use Rattle.reel.specs.declared.Layout.{Layout}
use Rattle.reel.specs.declared.Layout.TheVariants.{Plain}
use Rattle.record.specs.Record.{record_by, record_length}

-- The length of a reel's record.
abbrev pub record_length_by : Layout → List ℕ → ℕ
record_length_by k s = record_length (traces_by k s) (samples_of s)

abbrev pub record_length_of : List ℕ → ℕ
record_length_of s = record_length_by Plain s

-- The numbers that reading returns: T, N, the record's length, and how many words of the reel are not normal.
abbrev pub read_numbers_by : Layout → List ℕ → List ℕ
read_numbers_by k s = traces_by k s ∷ samples_of s ∷ record_length_by k s ∷ not_normal_by k s ∷ []

abbrev pub read_numbers : List ℕ → List ℕ
read_numbers s = read_numbers_by Plain s

-- 1 to 9, 18, 19 and 20, then 10: the output is too short.
abbrev pub read_causes_by : Layout → List ℕ → ℕ → Check
read_causes_by k s room = then (causes_by k s) (refuse_if (ltb room (record_length_by k s)) 10 (record_length_by k s))

abbrev pub read_causes : List ℕ → ℕ → Check
read_causes s room = read_causes_by Plain s room

-- Taken, the record stands at the output's front, and the rest keeps its content; refused, the output is left as it was.
abbrev pub read_end_by : Layout → List ℕ → List ℕ → Check → Outcome
read_end_by k s out check.Fine =
    record { said = taken (read_numbers_by k s); bytes = record_by k s ++ drop (record_length_by k s) out }
read_end_by k s out (check.Refused number place) = record { said = refused number (place_no place); bytes = out }

abbrev pub read_end : List ℕ → List ℕ → Check → Outcome
read_end = read_end_by Plain

-- The outcome of reading a reel s into an output.
abbrev pub read_outcome_by : Layout → List ℕ → List ℕ → Outcome
read_outcome_by k s out = read_end_by k s out (read_causes_by k s (length out))

abbrev pub read_outcome : List ℕ → List ℕ → Outcome
read_outcome s out = read_outcome_by Plain s out
