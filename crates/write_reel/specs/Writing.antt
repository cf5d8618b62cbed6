-- The complete outcome of writing a record as a reel into an output.
use Rattle.std.specs.Prelude.{ℕ, List, [], ◌∷◌, ◌++◌, length, drop, ltb}
use Rattle.numbers.specs.Cause.{refuse_if, then}
use Rattle.numbers.specs.Outcome.{taken, refused, Outcome}
use Rattle.numbers.specs.Places.{place_no}
use Rattle.numbers.specs.Cause.{Check}
use Rattle.numbers.specs.Cause as check
use Rattle.record.specs.Form.{held_samples, held_count}
use Rattle.record.specs.Held.{held_by}
use Rattle.fit.specs.Target.{target_causes}
use Rattle.write_reel.specs.Reel.{reel_of, reel_length}

-- The length of the reel of a record s under a code.
abbrev pub reel_length_of : List ℕ → ℕ → ℕ
reel_length_of s code = reel_length code (held_count s (held_samples s)) (held_samples s)

-- The numbers that writing returns: T and N as the record holds them, and the reel's length.
abbrev pub written_numbers : List ℕ → ℕ → List ℕ
written_numbers s code = held_count s (held_samples s) ∷ held_samples s ∷ reel_length_of s code ∷ []

-- 11; the record front to back by 12 and 13; 14; then 10: the output is too short.
abbrev pub write_causes : List ℕ → ℕ → ℕ → Check
write_causes s code room = then (target_causes s code) (refuse_if (ltb room (reel_length_of s code)) 10 (reel_length_of s code))

-- Taken, the reel of what the record holds stands at the output's front, and the rest keeps its content; refused, the output is left as
-- it was.
abbrev pub write_end : List ℕ → ℕ → List ℕ → Check → Outcome
write_end s code out check.Fine =
    record {
      said = taken (written_numbers s code);
      bytes = reel_of code (held_by s) ++ drop (reel_length_of s code) out;
    }
write_end s code out (check.Refused number place) = record { said = refused number (place_no place); bytes = out }

-- The outcome of writing a record s under a code into an output.
abbrev pub write_outcome : List ℕ → ℕ → List ℕ → Outcome
write_outcome s code out = write_end s code out (write_causes s code (length out))
