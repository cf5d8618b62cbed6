-- The length of a written reel: 3600 + T × (240 + N × the bytes of a sample), whatever the record holds. Assumes nothing.
use mathlib.Core.Path.{◌≡◌, refl, ◌∙◌}
use mathlib.Core.List.{List, ◌++◌, map}
use Prim.Native.Nat.{ℕ, ◌+◌}
use native.Mathlib.Omega.{arith}
use lib.ListN.{length, replicate, length-append}
use lib.IntN.{ℤ}
use Rattle.numbers.specs.Walk.{flat, bytes_at}
use Rattle.numbers.proofs.WalkLaws.{flat_length, size_bytes}
use Rattle.value.specs.Pair.{pair_length}
use Rattle.formats.specs.Words.{word_of}
use Rattle.reel.specs.Layout.{binary_widths, binary_fields, card_bytes, field_number, stride}
use Rattle.formats.specs.Codes.{sample_bytes}
use Rattle.reel.specs.Meaning.{other_than, header_of}
use Rattle.headers.specs.Header.{header_bytes}
use Rattle.headers.proofs.Ranges.{numbers_size}
use Rattle.headers.proofs.HeaderBytes.{size_header}
use Rattle.record.specs.Record.{with_code, binary_bytes}
use Rattle.fields.specs.Fields.{each, pair_place}
use Rattle.record.specs.Kind.{tag04}
use Rattle.record.specs.Form.{held_samples, share_in, trace_place, held_count}
use Rattle.record.specs.Held.{held_value, held_values_in, held_trace_in, held_by_in, held_by}
use Rattle.record.proofs.HeaderLaws.{counts}
use Rattle.write_samples.proofs.CallLaws.{size_word}
use Rattle.write_reel.specs.Reel.{sample_written, trace_written, reel_of}
use Rattle.write_reel.specs.Writing.{reel_length_of}

-- There are as many binary numbers, with the format code, as binary fields.
binary_count : (s : List ℕ) (code : ℕ) → length binary_widths ≡ length (with_code code (map (field_number s 6) (other_than 3225 binary_fields)))
unfolding binary_fields binary_widths
binary_count s code = refl

-- The binary fields are 60 bytes.
binary_size_lem : (s : List ℕ) (code : ℕ) → length (binary_bytes code (map (field_number s 6) (other_than 3225 binary_fields))) ≡ 60
unfolding binary_bytes
binary_size_lem s code = numbers_size binary_widths _ (binary_count s code) ∙ counts.1

-- A sample takes the bytes of a sample under the code.
pub sample_size : (code : ℕ) (v : ℤ) → length (sample_written code v) ≡ sample_bytes code
sample_size code v = size_word code (word_of code v)

-- A trace takes 240 bytes and those of its n samples.
trace_size : (s : List ℕ) (code n at : ℕ) → length (trace_written code (held_trace_in tag04 s n at)) ≡ stride n (sample_bytes code)
unfolding trace_written held_trace_in held_values_in
trace_size s code n at =
    let held : ℕ → ℤ = λ j. held_value s (pair_place pair_length (share_in tag04 s n (at + 183)) (at + 183) j) in
    let values = flat (map (sample_written code) (each held n)) in
    let a = length-append (header_bytes (header_of (field_number s (at + 3)))) (replicate 60 0 ++ values) in
    let b = length-append (replicate 60 0) values in
    let c = flat_length (sample_written code) held (sample_bytes code) (λ j. sample_size code (held j)) 1 n 0 in
    let d : length {A = ℕ} (replicate 60 0) ≡ 60 = refl in
    omega (arith, a, b, c, d, size_header (field_number s (at + 3)))

-- LAW. The reel that is written is as long as the length returned: 3600 + T × (240 + N × the bytes of a sample).
pub reel_size : (s : List ℕ) (code : ℕ) → length (reel_of code (held_by s)) ≡ reel_length_of s code
unfolding reel_of held_by_in
reel_size s code =
    let n = held_samples s in
    let binary = binary_bytes code (map (field_number s 6) (other_than 3225 binary_fields)) in
    let traces = flat (map (trace_written code) (each (λ j. held_trace_in tag04 s n (trace_place s n j)) (held_count s n))) in
    let a = length-append (bytes_at s 3 card_bytes) (binary ++ (replicate 340 0 ++ traces)) in
    let b = length-append binary (replicate 340 0 ++ traces) in
    let c = length-append (replicate 340 0) traces in
    let d : length {A = ℕ} (replicate 340 0) ≡ 340 = refl in
    let e = flat_length (trace_written code) (λ j. held_trace_in tag04 s n (trace_place s n j)) (stride n (sample_bytes code)) (λ j. trace_size s code n (trace_place s n j)) 1 (held_count s n) 0 in
    omega (arith, a, b, c, d, e, binary_size_lem s code, size_bytes s 3 card_bytes)
