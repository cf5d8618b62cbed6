-- Nearest writing (document 02, CR 5): what a meaning becomes, and the complete outcome of writing a record so into an output.
use Rattle.std.specs.Prelude.{ℕ, not, List, [], ◌∷◌, ◌++◌, map, length, drop, ltb}
use Rattle.numbers.specs.Walk.{sum}
use Rattle.numbers.specs.Cause.{refuse_if, then}
use Rattle.numbers.specs.Outcome.{taken, refused, Outcome}
use Rattle.numbers.specs.Places.{place_no}
use Rattle.numbers.specs.Cause.{Check}
use Rattle.numbers.specs.Cause as check
use Rattle.formats.specs.Codes.{is_code}
use Rattle.formats.specs.Nearest.{nearest_value, changes}
use Rattle.reel.specs.Meaning.{Trace, Meaning}
use Rattle.record.specs.Form.{held_samples, held_count, form_causes}
use Rattle.record.specs.Held.{held_by}
use Rattle.write_reel.specs.Reel.{reel_of}
use Rattle.write_reel.specs.Writing.{reel_length_of}

-- A trace whose samples each became the nearest value of a code; its header is as it was.
abbrev pub nearest_trace : ℕ → Trace → Trace
nearest_trace code t = record { header = t.header; values = map (nearest_value code) t.values }

-- A meaning whose samples each became the nearest value of a code; all else is as it was.
abbrev pub nearest_meaning : ℕ → Meaning → Meaning
nearest_meaning code m = record { cards = m.cards; binary = m.binary; traces = map (nearest_trace code) m.traces }

-- How many samples of a trace have another value then,
abbrev pub trace_changes : ℕ → Trace → ℕ
trace_changes code t = sum (map (changes code) t.values)

-- and how many of a meaning.
abbrev pub meaning_changes : ℕ → Meaning → ℕ
meaning_changes code m = sum (map (trace_changes code) m.traces)

-- The numbers that nearest writing returns: T and N as the record holds them, the reel's length, and the count of the samples whose value
-- changed.
abbrev pub nearest_numbers : List ℕ → ℕ → List ℕ
nearest_numbers s code =
    held_count s (held_samples s) ∷ held_samples s ∷ reel_length_of s code ∷ meaning_changes code (held_by s) ∷ []

-- 11; the record front to back by 12 and 13; then 10: the output is too short. "number 14 doesn't occur in this call".
abbrev pub nearest_causes : List ℕ → ℕ → ℕ → Check
nearest_causes s code room =
    then (refuse_if (not (is_code code)) 11 0)
    (then (form_causes s) (refuse_if (ltb room (reel_length_of s code)) 10 (reel_length_of s code)))

-- Taken, the reel of what the record holds, each sample the nearest value of the code, stands at the output's front, and the rest keeps
-- its content; refused, the output is left as it was.
abbrev pub nearest_end : List ℕ → ℕ → List ℕ → Check → Outcome
nearest_end s code out check.Fine =
    record {
      said = taken (nearest_numbers s code);
      bytes = reel_of code (nearest_meaning code (held_by s)) ++ drop (reel_length_of s code) out;
    }
nearest_end s code out (check.Refused number place) = record { said = refused number (place_no place); bytes = out }

-- The outcome of writing a record s under a code into an output, each sample as the nearest value of the code.
abbrev pub nearest_outcome : List ℕ → ℕ → List ℕ → Outcome
nearest_outcome s code out = nearest_end s code out (nearest_causes s code (length out))
