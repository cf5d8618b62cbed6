-- The causes 1 to 9, 18, 19 and 20 against a reel, in the order of document 01's table and, for 18, 19 and 20, of document 02 (CR 2, CR 4,
-- CR 7), each with what stands beside it. A name that ends in `By` takes the layout of the reel, plain or Eagle; the same name without it, or
-- with `Of`, is that of plain reels, and so is `reel_judged`. 20 doesn't apply to plain reels, nor 9 and 19 to Eagle reels, which have code 1.
use Rattle.std.specs.Prelude.{ℕ, ◌+◌, ◌-◌, ◌*◌, List, [], ◌∷◌, Bool, not, ◌&&◌, length, leb, ltb, eqb}
use Rattle.numbers.specs.Walk.{walk, bytes_at}
use Rattle.numbers.specs.Cause.{refuse_if, then, first_of}
use Rattle.numbers.specs.Places.{byte_place}
use Rattle.numbers.specs.Cause.{Check, Fine, Refused}
use Rattle.reel.specs.declared.Layout.{Layout}
use Rattle.reel.specs.declared.Layout.TheVariants.{Plain, Eagle}
use Rattle.reel.specs.Judged.{Judged}
use Rattle.reel.specs.Judged as variant
use Rattle.formats.specs.Codes.{word_length, is_code, sample_bytes}
use Rattle.scalars.specs.Scalar.{is_allowed}
use Rattle.formats.specs.Value.{is_bad, word_number}
use Rattle.sample.specs.Reading.{bad_number}
use Rattle.reel.specs.Layout.{Field, first_trace, trace_header, elevation_scalar, coordinate_scalar, field_number, number16, interval_of, samples_of, code_of, stride, trailer_bytes, stride_by, whole_in, over_in, traces_by}

-- The most samples of a trace, and the most traces of a reel.
abbrev pub most_samples : ℕ
most_samples = 32767

abbrev pub most_traces : ℕ
most_traces = 100000

-- The longest sample interval, in microseconds.
abbrev pub most_interval : ℕ
most_interval = 32767

-- n is from a to b.
abbrev pub within : ℕ → ℕ → ℕ → Bool
within a b n = leb a n && leb n b

-- n is neither 0 nor m.
abbrev pub neither : ℕ → ℕ → Bool
neither n m = not (eqb n 0) && not (eqb n m)

-- The format codes of a layout: 1, 2, 3, 4, 5, 8; on an Eagle reel "Format code 1 is the only one allowed" (document 02, CR 7).
abbrev pub allows : Layout → ℕ → Bool
allows Plain code = is_code code
allows Eagle code = eqb code 1

-- 2, 3, 4: format code not allowed, place 3224; N not 1 to 32,767, place 3220; interval not 1 to 32,767, place 3216.
abbrev pub limit_causes_by : Layout → ℕ → ℕ → ℕ → Check
limit_causes_by k code n i =
    first_of
    (refuse_if (not (allows k code)) 2 (byte_place 0 3225)
    ∷ refuse_if (not (within 1 most_samples n)) 3 (byte_place 0 3221)
    ∷ refuse_if (not (within 1 most_interval i)) 4 (byte_place 0 3217)
    ∷ [])

abbrev pub limit_causes : ℕ → ℕ → ℕ → Check
limit_causes code n i = limit_causes_by Plain code n i

-- 5, 6, of a reel of `size` bytes with t whole traces of w bytes and `over` bytes behind them: bytes after the last whole trace, at the
-- first of them; more than 100,000 traces, at trace 100,001.
abbrev pub size_causes : ℕ → ℕ → ℕ → ℕ → Check
size_causes size w t over =
    first_of
    (refuse_if (ltb 0 over) 5 (size - over)
    ∷ refuse_if (ltb most_traces t) 6 (first_trace + most_traces * w)
    ∷ [])

-- 18: a scalar, the field f of the trace at the place `at`, that isn't allowed.
abbrev pub scalar_cause : List ℕ → ℕ → Field → Check
scalar_cause s at f = refuse_if (not (is_allowed (field_number s at f))) 18 (byte_place at f.begins)

-- 9: the first byte of a gain word not 00; 19: an IEEE word that is an infinity or a not-a-number.
abbrev pub word_cause : List ℕ → ℕ → ℕ → Check
word_cause s code at = refuse_if (is_bad code (word_number code (bytes_at s at word_length))) (bad_number code) at

-- 7, 8, 18 for field 69, 18 for field 71, then 9 or 19 at the first such word, of the trace at the place `at`, in a reel of n samples a trace,
-- interval i and code `code`.
unfoldable pub trace_causes : List ℕ → ℕ → ℕ → ℕ → ℕ → Check
trace_causes s code n i at =
    then (refuse_if (neither (number16 s (byte_place at 115)) n) 7 (byte_place at 115))
    (then (refuse_if (neither (number16 s (byte_place at 117)) i) 8 (byte_place at 117))
    (then (scalar_cause s at elevation_scalar)
    (then (scalar_cause s at coordinate_scalar)
    (first_of (walk (word_cause s code) (sample_bytes code) n (at + trace_header))))))

-- 20: "a trailer's last two bytes differ from FFFF, their place" (document 02, CR 7), of the trailer at the place `at`: the place of the first
-- of the two, whichever differs.
abbrev pub trailer_cause : List ℕ → ℕ → Check
trailer_cause s at = refuse_if (not (eqb (number16 s (at + (trailer_bytes - 2))) 0xFFFF)) 20 (at + (trailer_bytes - 2))

-- The causes of the trace at a place; on an Eagle reel then 20, "in each trace after its samples", of the trailer that stands there.
abbrev pub trace_causes_by : Layout → List ℕ → ℕ → ℕ → ℕ → ℕ → Check
trace_causes_by Plain = trace_causes
trace_causes_by Eagle = λ s code n i at. then (trace_causes s code n i at) (trailer_cause s (at + stride n (sample_bytes code)))

-- 5 and 6, then trace by trace 7, 8, 18, then 9 or 19, then 20, of traces of w bytes.
unfoldable pub behind_causes_by : Layout → List ℕ → ℕ → ℕ → ℕ → ℕ → Check
behind_causes_by k s code n i w =
    then (size_causes (length s) w (whole_in (length s) w) (over_in (length s) w))
    (first_of (walk (trace_causes_by k s code n i) w (whole_in (length s) w) first_trace))

abbrev pub behind_causes : List ℕ → ℕ → ℕ → ℕ → ℕ → Check
behind_causes s code n i w = behind_causes_by Plain s code n i w

-- 1 to 6 in that order; then trace by trace 7, 8, 18, then 9 or 19, then 20.
unfoldable pub causes_by : Layout → List ℕ → Check
causes_by k s =
    then (refuse_if (ltb (length s) first_trace) 1 (length s))
    (then (limit_causes_by k (code_of s) (samples_of s) (interval_of s))
    (behind_causes_by k s (code_of s) (samples_of s) (interval_of s) (stride_by k s)))

abbrev pub causes_of : List ℕ → Check
causes_of s = causes_by Plain s

-- A reel to which no cause applies, with its own numbers; or the first cause.
abbrev pub found_by : Layout → List ℕ → Check → Judged
found_by k s Fine = variant.Fine (code_of s) (samples_of s) (interval_of s) (sample_bytes (code_of s)) (stride_by k s) (traces_by k s)
found_by k s (Refused number place) = variant.Refused number place

abbrev pub judged_by : Layout → List ℕ → Judged
judged_by k s = found_by k s (causes_by k s)

abbrev pub reel_judged : List ℕ → Judged
reel_judged s = judged_by Plain s
