-- A record's reel as the code writes it, exactly or to the nearest, by copying what can be copied and storing the format code over it: for
-- the functions inside this crate.
use Rattle.std.specs.Prelude.{ℕ, ◌+◌, ◌-◌, Bool, List, [], ◌∷◌, ◌++◌, map, ltb, length, replicate, drop}
use Rattle.numbers.specs.Walk.{pick, walk, flat, sum, bytes_at, overwritten}
use Rattle.numbers.specs.Outcome.{taken, refused, Outcome}
use Rattle.numbers.specs.Places.{byte_place}
use Rattle.numbers.specs.BigEndian.{bytes_of}
use Rattle.reel.specs.Layout.{card_bytes, trace_header}
use Rattle.write_samples.specs.Samples.{sample_words}
use Rattle.write_samples.specs.Nearest.{nearest_words, pairs_changed}
use Rattle.headers.specs.Header.{header_size}
use Rattle.fields.specs.Fields.{in_fields}
use Rattle.value.specs.Pair.{pair_length}
use Rattle.record.specs.Kind.{tag04}
use Rattle.record.specs.Form.{field_head, binary_size, binary_start, to_samples, share_in, trace_place}
use Rattle.write_reel.specs.Reel.{binary_header, reel_length}

-- Unassigned bytes in place of a slice's content.
unfoldable pub zeros_for : List ℕ → List ℕ
zeros_for out = replicate (length out) 0

-- A header of so many bytes: its assigned ones, and behind them the unassigned.
unfoldable pub reel_header_copied : ℕ → List ℕ → List ℕ
reel_header_copied size assigned = assigned ++ replicate (size - length assigned) 0

-- The words of n samples whose pairs stand from a place on: to the nearest where `near` is set, else exactly;
unfoldable pub samples_copied : Bool → List ℕ → ℕ → ℕ → ℕ → List ℕ
samples_copied near s code n at = pick near (nearest_words s code n at) (sample_words s code n at)

-- and how many have another value than their pairs.
unfoldable pub samples_changed_at : Bool → List ℕ → ℕ → ℕ → ℕ → ℕ
samples_changed_at near s code n at = pick near (pairs_changed s code n at) 0

-- The words of n samples in fields of c, whose first field stands at a place, and how many changed.
unfoldable pub fields_words : Bool → List ℕ → ℕ → ℕ → ℕ → ℕ → List ℕ
fields_words near s code c n at = flat (in_fields (λ count p. samples_copied near s code count (p + field_head)) pair_length c n at)

unfoldable pub fields_changed_at : Bool → List ℕ → ℕ → ℕ → ℕ → ℕ → ℕ
fields_changed_at near s code c n at = sum (in_fields (λ count p. samples_changed_at near s code count (p + field_head)) pair_length c n at)

-- The trace whose tag 03 stands at the place `at`, by its own form;
unfoldable pub reel_trace_copied : Bool → List ℕ → ℕ → ℕ → ℕ → List ℕ
reel_trace_copied near s code n at =
    reel_header_copied trace_header (bytes_at s (at + field_head) header_size) ++ fields_words near s code (share_in tag04 s n (at + to_samples)) n (at + to_samples)

-- and how many of its samples changed.
unfoldable pub trace_changed_at : Bool → List ℕ → ℕ → ℕ → ℕ → ℕ
trace_changed_at near s code n at = fields_changed_at near s code (share_in tag04 s n (at + to_samples)) n (at + to_samples)

-- k traces from trace j on, and how many of their samples changed.
unfoldable pub traces_copied : Bool → List ℕ → ℕ → ℕ → ℕ → ℕ → List ℕ
traces_copied near s code n k j = flat (map (reel_trace_copied near s code n) (walk (trace_place s n) 1 k j))

unfoldable pub traces_changed_at : Bool → List ℕ → ℕ → ℕ → ℕ → ℕ → ℕ
traces_changed_at near s code n k j = sum (walk (λ i. trace_changed_at near s code n (trace_place s n i)) 1 k j)

-- The reel of t traces of n samples, but for its format code, which a record has as 0.
unfoldable pub parts_copied : Bool → List ℕ → ℕ → ℕ → ℕ → List ℕ
parts_copied near s code n t =
    bytes_at s field_head card_bytes
    ++ (reel_header_copied binary_header (bytes_at s (byte_place binary_start 3201) binary_size)
    ++ traces_copied near s code n t 0)

-- The reel of t traces of n samples.
unfoldable pub reel_copied : Bool → List ℕ → ℕ → ℕ → ℕ → List ℕ
reel_copied near s code n t = overwritten (parts_copied near s code n t) (byte_place 0 3225) (bytes_of 2 code)

-- The outcome of writing it into an output: refused by 10 where that is too short, else taken with T, N, the length and the count.
abbrev pub copied_outcome : Bool → List ℕ → ℕ → ℕ → ℕ → List ℕ → Outcome
copied_outcome near s code n t out =
    pick (ltb (length out) (reel_length code t n))
    (record { said = refused 10 (reel_length code t n); bytes = out })
    (record {
      said = taken (t ∷ n ∷ reel_length code t n ∷ traces_changed_at near s code n t 0 ∷ []);
      bytes = reel_copied near s code n t ++ drop (reel_length code t n) out;
    })
