-- The causes against writing a record under a target code, but for the output's length: 11, then 12 and 13, then 14.
use Rattle.std.specs.Prelude.{ℕ, ◌+◌, List, Bool, true, false, not}
use Rattle.fields.specs.Fields.{each, pair_place}
use Rattle.numbers.specs.Cause.{refuse_if, then, first_of}
use Rattle.numbers.specs.Cause.{Check}
use Rattle.formats.specs.Codes.{is_code}
use Rattle.value.specs.Pair.{pair_length}
use Rattle.formats.specs.Words.{word_of}
use Rattle.formats.specs.Written.{Written}
use Rattle.formats.specs.Written as written
use Rattle.record.specs.Kind.{tag04}
use Rattle.record.specs.Form.{to_samples, held_samples, share_in, trace_place, held_count, form_causes, record_found}
use Rattle.record.specs.Held.{held_value}
use Rattle.record.specs.Judged.{Judged}

-- There is no word.
abbrev pub is_unfit : Written → Bool
is_unfit (written.Word n) = false
is_unfit (written.Refused number) = true

-- 14: a sample doesn't fit the target, at the place of its pair.
abbrev pub fit_cause : List ℕ → ℕ → ℕ → Check
fit_cause s code at = refuse_if (is_unfit (word_of code (held_value s at))) 14 at

-- The n samples whose first field stands at a place, first sample first.
unfoldable pub samples_fit : List ℕ → ℕ → ℕ → ℕ → Check
samples_fit s code n at = first_of (each (λ j. fit_cause s code (pair_place pair_length (share_in tag04 s n at) at j)) n)

-- The n samples of the trace at a place.
abbrev pub trace_fit : List ℕ → ℕ → ℕ → ℕ → Check
trace_fit s code n at = samples_fit s code n (at + to_samples)

-- The samples of t traces.
unfoldable pub fit_causes : List ℕ → ℕ → ℕ → ℕ → Check
fit_causes s code n t = first_of (each (λ j. trace_fit s code n (trace_place s n j)) t)

-- 11; then the record front to back by 12 and 13; then 14.
unfoldable pub target_causes : List ℕ → ℕ → Check
target_causes s code =
    then (refuse_if (not (is_code code)) 11 0)
    (then (form_causes s)
    (fit_causes s code (held_samples s) (held_count s (held_samples s))))

-- A record that can be written under a code, with its N and T; or the first cause.
abbrev pub fit_judged : List ℕ → ℕ → Judged
fit_judged s code = record_found s (target_causes s code)
