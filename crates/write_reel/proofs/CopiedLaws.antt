-- The pieces of a reel as the code writes them: how long each is, and how many samples changed. Assumes nothing.
use mathlib.Core.Path.{◌≡◌, sym, ap, ap₂, ◌∙◌}
use mathlib.Core.Bool.{Bool, true, false}
use mathlib.Core.List.{List, [], ◌++◌}
use Prim.Native.Nat.{ℕ, ◌+◌, ◌-◌, ◌*◌, ◌≤◌, ◌<◌, min}
use native.Mathlib.Nat.{zero-mul}
use native.Mathlib.Omega.{arith}
use lib.ListN.{length, replicate, length-append, length-replicate}
use Rattle.numbers.specs.Walk.{pick, flat, sum, bytes_at}
use Rattle.fields.proofs.FieldsLaws.{by_fields, in_none, in_next, times_parts}
use Rattle.numbers.specs.Places.{byte_place}
use Rattle.numbers.specs.BigEndian.{bytes_of}
use Rattle.numbers.proofs.WalkLaws.{flat_length, flat_none, flat_more, size_bytes, sum_none, sum_more}
use Rattle.numbers.proofs.Filling.{size_over}
use Rattle.reel.specs.Layout.{first_trace, stride}
use Rattle.formats.specs.Codes.{sample_bytes}
use Rattle.write_samples.specs.Samples.{sample_words}
use Rattle.write_samples.specs.Nearest.{nearest_words, pairs_changed}
use Rattle.write_samples.proofs.CallLaws.{size_samples}
use Rattle.write_samples.proofs.CallLaws.{size_nearest, pairs_most}
use Rattle.record.specs.Kind.{tag04}
use Rattle.record.specs.Form.{share_in, trace_place}
use Rattle.record.proofs.FormLaws.{share_some}
use Rattle.write_reel.specs.Copied.{zeros_for, reel_header_copied, samples_copied, samples_changed_at, fields_words, fields_changed_at, reel_trace_copied, trace_changed_at, traces_copied, traces_changed_at, parts_copied, reel_copied}

-- unassigned bytes in a slice of k bytes
pub zeroed : (out : List ℕ) (k : ℕ) {ys : List ℕ} → ys ≡ zeros_for out → length out ≡ k → ys ≡ replicate k 0
unfolding zeros_for
zeroed out k p e = p ∙ ap (λ (n : ℕ). replicate n 0) e

-- a header whose assigned bytes are k bytes of a record
pub header_bytes_lem : (size : ℕ) (s : List ℕ) (at k : ℕ) → reel_header_copied size (bytes_at s at k) ≡ bytes_at s at k ++ replicate (size - k) 0
unfolding reel_header_copied
header_bytes_lem size s at k = ap (λ (n : ℕ). bytes_at s at k ++ replicate (size - n) 0) (size_bytes s at k)

pub size_header : (size : ℕ) (l : List ℕ) → length l ≤ size → length (reel_header_copied size l) ≡ size
unfolding reel_header_copied
size_header size l h = simp (length-append, length-replicate) (omega arith)

-- a header is as long as it is to be, where k bytes of a record are assigned
pub size_bytes_header : (size : ℕ) (s : List ℕ) (at k : ℕ) → k ≤ size → length (reel_header_copied size (bytes_at s at k)) ≡ size
size_bytes_header size s at k h = size_header size (bytes_at s at k) (omega (arith, size_bytes s at k))

module _ (near : Bool) (s : List ℕ) (code : ℕ) where
  pub size_samples_copied : (n at : ℕ) → length (samples_copied near s code n at) ≡ n * sample_bytes code
  unfolding samples_copied
  size_samples_copied n at = go near
    where
      go : (near : Bool) → length (pick near (nearest_words s code n at) (sample_words s code n at)) ≡ n * sample_bytes code
      go true = size_nearest s code n at
      go false = size_samples s code n at

  pub samples_most : (n at : ℕ) → samples_changed_at near s code n at ≤ n
  unfolding samples_changed_at
  samples_most n at = go near
    where
      go : (near : Bool) → pick near (pairs_changed s code n at) 0 ≤ n
      go true = pairs_most s code n at
      go false = omega arith

  -- samples in fields of c, a field at a time
  module _ (c : ℕ) (some : 0 < c) where
    pub words_none : (n at : ℕ) → n ≤ 0 → fields_words near s code c n at ≡ []
    unfolding fields_words
    words_none n at h = ap flat (in_none c some 6 (λ count p. samples_copied near s code count (p + 3)) n at h)

    pub words_more : (n at : ℕ) → 0 < n → fields_words near s code c n at ≡ samples_copied near s code (min c n) (at + 3) ++ fields_words near s code c (n - c) (at + (3 + min c n * 6))
    unfolding fields_words
    words_more n at h = ap flat (in_next c some 6 (λ count p. samples_copied near s code count (p + 3)) n at h)

    pub changed_none : (n at : ℕ) → n ≤ 0 → fields_changed_at near s code c n at ≡ 0
    unfolding fields_changed_at
    changed_none n at h = ap sum (in_none c some 6 (λ count p. samples_changed_at near s code count (p + 3)) n at h)

    pub changed_more : (n at : ℕ) → 0 < n → fields_changed_at near s code c n at ≡ samples_changed_at near s code (min c n) (at + 3) + fields_changed_at near s code c (n - c) (at + (3 + min c n * 6))
    unfolding fields_changed_at
    changed_more n at h = ap sum (in_next c some 6 (λ count p. samples_changed_at near s code count (p + 3)) n at h)

    pub size_words : (n at : ℕ) → length (fields_words near s code c n at) ≡ n * sample_bytes code
    size_words =
        by_fields c some (λ n. (at : ℕ) → length (fields_words near s code c n at) ≡ n * sample_bytes code)
        (λ n h at. let z : n ≡ 0 = omega arith in ap length (words_none n at h) ∙ sym (ap (λ (x : ℕ). x * sample_bytes code) z ∙ zero-mul (sample_bytes code)))
        (λ n h rest at.
        ap length (words_more n at h) ∙ length-append (samples_copied near s code (min c n) (at + 3)) _
        ∙ ap₂ (λ (x y : ℕ). x + y) (size_samples_copied (min c n) (at + 3)) (rest (at + (3 + min c n * 6)))
        ∙ sym (times_parts c n (sample_bytes code)))

    pub changed_most : (n at : ℕ) → fields_changed_at near s code c n at ≤ n
    changed_most =
        by_fields c some (λ n. (at : ℕ) → fields_changed_at near s code c n at ≤ n) (λ n h at. omega (arith, changed_none n at h))
        (λ n h rest at. omega (arith, changed_more n at h, samples_most (min c n) (at + 3), rest (at + (3 + min c n * 6))))

module _ (near : Bool) (s : List ℕ) (code n : ℕ) where
  pub size_trace : (at : ℕ) → length (reel_trace_copied near s code n at) ≡ stride n (sample_bytes code)
  unfolding reel_trace_copied
  size_trace at =
      let c = share_in tag04 s n (at + 183) in
      simp length-append (omega (arith, size_bytes_header 240 s (at + 3) 180 (omega arith), size_words near s code c (share_some tag04 s n (at + 183)) n (at + 183)))

  pub size_traces : (k j : ℕ) → length (traces_copied near s code n k j) ≡ k * stride n (sample_bytes code)
  unfolding traces_copied
  size_traces k j = flat_length (reel_trace_copied near s code n) (trace_place s n) (stride n (sample_bytes code)) (λ i. size_trace (trace_place s n i)) 1 k j

  pub size_parts : (t : ℕ) → length (parts_copied near s code n t) ≡ first_trace + t * stride n (sample_bytes code)
  unfolding parts_copied
  size_parts t = simp (length-append, size_bytes, size_traces) (omega (arith, size_bytes_header 400 s 3206 60 (omega arith)))

  pub size_reel : (t : ℕ) → length (reel_copied near s code n t) ≡ first_trace + t * stride n (sample_bytes code)
  unfolding reel_copied
  size_reel t = size_over (parts_copied near s code n t) (bytes_of 2 code) (byte_place 0 3225) (omega (arith, size_parts t)) ∙ size_parts t

  -- traces, one at a time
  pub copied_none : (k j : ℕ) → k ≤ 0 → traces_copied near s code n k j ≡ []
  unfolding traces_copied
  copied_none k j h = flat_none (reel_trace_copied near s code n) (trace_place s n) 1 k j h

  pub copied_more : (k j : ℕ) → 0 < k → traces_copied near s code n k j ≡ reel_trace_copied near s code n (trace_place s n j) ++ traces_copied near s code n (k - 1) (j + 1)
  unfolding traces_copied
  copied_more k j h = flat_more (reel_trace_copied near s code n) (trace_place s n) 1 k j h

  -- ## The count

  -- no more of a trace than it has samples
  pub trace_most : (at : ℕ) → trace_changed_at near s code n at ≤ n
  unfolding trace_changed_at
  trace_most at = changed_most near s code (share_in tag04 s n (at + 183)) (share_some tag04 s n (at + 183)) n (at + 183)

  pub traces_none : (k j : ℕ) → k ≤ 0 → traces_changed_at near s code n k j ≡ 0
  unfolding traces_changed_at
  traces_none k j h = sum_none (λ i. trace_changed_at near s code n (trace_place s n i)) 1 k j h

  pub traces_more : (k j : ℕ) → 0 < k → traces_changed_at near s code n k j ≡ trace_changed_at near s code n (trace_place s n j) + traces_changed_at near s code n (k - 1) (j + 1)
  unfolding traces_changed_at
  traces_more k j h = sum_more (λ i. trace_changed_at near s code n (trace_place s n i)) 1 k j h
