-- The pieces of a record as the code writes them: how long each is. Assumes nothing.
use mathlib.Core.Path.{◌≡◌, sym, ap, ap₂, ◌∙◌}
use mathlib.Core.List.{List, [], ◌∷◌, ◌++◌, map, append-nil, map-append}
use Prim.Native.Nat.{ℕ, ◌+◌, ◌-◌, ◌*◌, ◌≤◌, ◌<◌, min}
use native.Mathlib.Omega.{arith}
use lib.ListN.{length, take, drop, length-append, length-map}
use lib.IntN.{ℤ}
use Rattle.numbers.specs.Walk.{walk, flat, bytes_at, overwritten}
use Rattle.numbers.specs.BigEndian.{bytes_of}
use Rattle.numbers.proofs.WalkLaws.{flat_length, size_bytes, size_walk, map_walk}
use mathlib.Core.Logic.{⊎_elim}
use Rattle.numbers.proofs.SignLaws.{below_or}
use Rattle.fields.specs.Fields.{fields_length, shares}
use Rattle.fields.proofs.FieldsLaws.{by_fields, length_none, length_more, walk_parts, take_parts, shares_none, shares_more}
use Rattle.formats.specs.Codes.{sample_bytes, word_length}
use Rattle.formats.specs.Value.{exact_value}
use Rattle.value.specs.Pair.{value_bytes}
use Rattle.numbers.proofs.ByteLaws.{bytes_append}
use Rattle.numbers.proofs.Filling.{size_over, over_part}
use Rattle.headers.proofs.HeaderBytes.{size_header}
use Rattle.reel.specs.Layout.{card_bytes}
use Rattle.reel.specs.Meaning.{blank, card_text_by}
use Rattle.reel.specs.declared.Layout.{Layout}
use Rattle.reel.specs.declared.Layout.TheVariants.{Eagle}
use Rattle.record.specs.Kind.{tag04}
use Rattle.record.specs.Form.{traces_place, code_place}
use Rattle.record.specs.Record.{field, field_samples, samples_field_in, samples_fields_in, trace_length, record_length}
use Rattle.record.proofs.HeaderLaws.{size_text}
use Rattle.read_samples.specs.Samples.{sample_copied, places, sample_pairs}
use Rattle.read_samples.proofs.SampleLaws.{size_samples}
use Rattle.read_reel.specs.Copied.{tag_bytes, fields_copied, head_copied, field_copied, samples_copied, record_trace_copied, record_copied}

-- where the last two card bytes are overwritten by blanks, the card text is an Eagle reel's
pub checks_blank : (s : List ℕ) → overwritten (map blank (bytes_at s 0 card_bytes)) (card_bytes - 2) (bytes_of 2 0x4040) ≡ card_text_by Eagle s
unfolding card_text_by
checks_blank s =
    let front = map blank (bytes_at s 0 3198) in
    let checks = map blank (bytes_at s 3198 2) in
    let parts : map blank (bytes_at s 0 3200) ≡ front ++ (checks ++ []) = ap (map blank) (bytes_append s 0 3198 2) ∙ map-append blank (bytes_at s 0 3198) (bytes_at s 3198 2) ∙ ap (λ (l : List ℕ). front ++ l) (sym (append-nil checks)) in
    ap (λ (l : List ℕ). overwritten l 3198 (bytes_of 2 0x4040)) parts
    ∙ over_part front checks [] (bytes_of 2 0x4040) 3198 (simp (length-map, size_bytes)) (simp (length-map, size_bytes))

pub size_fields : (k : Layout) (s : List ℕ) → length (fields_copied k s) ≡ traces_place
unfolding fields_copied
size_fields k s = simp (length-append, size_text, size_bytes)

pub size_head : (k : Layout) (s : List ℕ) → length (head_copied k s) ≡ traces_place
unfolding head_copied
size_head k s = size_over (fields_copied k s) (bytes_of 2 0) code_place (omega (arith, size_fields k s)) ∙ size_fields k s

-- a field whose content has k bytes
pub field_is : (tag k : ℕ) (l : List ℕ) → length l ≡ k → field tag l ≡ tag_bytes tag k ++ l
unfolding field
field_is tag k l e = ap (λ (x : ℕ). tag ∷ (bytes_of 2 x ++ l)) e

-- ## Samples in their fields

-- the first c of a walk, and the others
walk_first : {A : Type 0} (f : ℕ → A) (w c n at : ℕ)
    → (take c (walk f w n at) ≡ walk f w (min c n) at) × (drop c (walk f w n at) ≡ walk f w (n - c) (at + c * w))
walk_first {A} f w c n at =
    let e : n ≡ min c n + (n - c) = omega arith in
    let parts = ap (λ (x : ℕ). walk f w x at) e ∙ walk_parts f w (min c n) (n - c) at in
    let x = walk f w (min c n) at in
    let y = walk f w (n - c) (at + min c n * w) in
    let long : length x ≡ min c n = size_walk f w (min c n) at in
    let p = take_parts c n x y long (λ l. none (at + min c n * w) l) in
    (ap (take c) parts ∙ p.0, ap (drop c) parts ∙ p.1 ∙ behind)
  where
    -- no walk is behind the first c where there are no more,
    none : (p : ℕ) → n ≤ c → walk f w (n - c) p ≡ []
    none p l = let z : n - c ≡ 0 = omega arith in ap (λ (j : ℕ). walk f w j p) z

    -- wherever it would begin
    behind : walk f w (n - c) (at + min c n * w) ≡ walk f w (n - c) (at + c * w)
    behind =
        ⊎_elim (λ (l : c < n). let z : min c n ≡ c = omega arith in ap (λ (j : ℕ). walk f w (n - c) (at + j * w)) z)
        (λ (l : n ≤ c). none (at + min c n * w) l ∙ sym (none (at + c * w) l)) (below_or c n)

module _ (s : List ℕ) (code : ℕ) where
  -- the value of the sample at a place
  abbrev value_at : ℕ → ℤ
  value_at p = exact_value code (bytes_at s p word_length)

  -- the samples of a field are the pairs of their values
  pub samples_are : (n at : ℕ) → flat (map value_bytes (walk (λ p. exact_value code (bytes_at s p word_length)) (sample_bytes code) n at)) ≡ sample_pairs s code n at
  unfolding sample_pairs
  samples_are n at = ap flat (map_walk value_bytes value_at (sample_bytes code) n at ∙ sym (map_walk (sample_copied s code) (λ p. p) (sample_bytes code) n at))

  field_samples_lem : (n at : ℕ) → samples_field_in tag04 (walk value_at (sample_bytes code) n at) ≡ field_copied s code n at
  unfolding samples_field_in field_copied
  field_samples_lem n at =
      let is = samples_are n at in
      field_is 4 (n * 6) _ (ap length is ∙ size_samples s code n at) ∙ ap (λ (l : List ℕ). tag_bytes 4 (n * 6) ++ l) is

  pub size_field : (n at : ℕ) → length (field_copied s code n at) ≡ 3 + n * 6
  unfolding field_copied
  size_field n at = length-append (tag_bytes 4 (n * 6)) (sample_pairs s code n at) ∙ ap (λ (x : ℕ). 3 + x) (size_samples s code n at)

  -- no samples are no fields; others are a field of the first 6,000, and then those behind them
  pub samples_none : (n at : ℕ) → n ≤ 0 → samples_copied s code n at ≡ []
  unfolding samples_copied samples_fields_in
  samples_none n at h = ap (λ (x : List (List ℤ)). flat (map (samples_field_in tag04) x)) (shares_none field_samples (omega arith) (walk value_at (sample_bytes code) n at) (omega (arith, size_walk value_at (sample_bytes code) n at)))

  pub samples_more : (n at : ℕ) → 0 < n → samples_copied s code n at ≡ field_copied s code (min field_samples n) at ++ samples_copied s code (n - field_samples) (at + field_samples * sample_bytes code)
  unfolding samples_copied samples_fields_in
  samples_more n at h =
      let w = sample_bytes code in
      let p = walk_first value_at w field_samples n at in
      ap (λ (x : List (List ℤ)). flat (map (samples_field_in tag04) x)) (shares_more field_samples (omega arith) (walk value_at w n at) (omega (arith, size_walk value_at w n at)))
      ∙ ap₂ (λ (x y : List ℤ). samples_field_in tag04 x ++ flat (map (samples_field_in tag04) (shares field_samples y))) p.0 p.1
      ∙ ap (λ (x : List ℕ). x ++ flat (map (samples_field_in tag04) (shares field_samples (walk value_at w (n - field_samples) (at + field_samples * w))))) (field_samples_lem (min field_samples n) at)

  pub size_in_fields : (n at : ℕ) → length (samples_copied s code n at) ≡ fields_length 6 field_samples n
  size_in_fields =
      by_fields field_samples (omega arith) (λ n. (at : ℕ) → length (samples_copied s code n at) ≡ fields_length 6 field_samples n)
      (λ n h at. ap length (samples_none n at h) ∙ sym (length_none field_samples (omega arith) 6 n h))
      (λ n h rest at.
      ap length (samples_more n at h) ∙ length-append (field_copied s code (min field_samples n) at) _
      ∙ ap₂ (λ (x y : ℕ). x + y) (size_field (min field_samples n) at) (rest (at + field_samples * sample_bytes code))
      ∙ sym (length_more field_samples (omega arith) 6 n h))

-- ## Traces

module _ (s : List ℕ) (code n i : ℕ) where
  pub size_trace : (at : ℕ) → length (record_trace_copied s code n i at) ≡ trace_length n
  unfolding record_trace_copied
  size_trace at = simp (length-append, size_header, size_in_fields) (omega arith)

  pub size_traces : (w t at : ℕ) → length (flat (map (record_trace_copied s code n i) (places w t at))) ≡ t * trace_length n
  size_traces w t at = flat_length (record_trace_copied s code n i) (λ p. p) (trace_length n) size_trace w t at

  pub size_record : (k : Layout) (w t : ℕ) → length (record_copied k s code n i w t) ≡ record_length t n
  unfolding record_copied
  size_record k w t = simp (length-append, size_head, size_traces) (omega arith)
