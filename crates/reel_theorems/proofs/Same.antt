-- # Records are equal exactly when the reels mean the same
--
-- The first half of the user's third demand: for any two reels, each in any code, to which no cause of 1 to 9, 18 and 19 applies, the records are
-- equal byte for byte exactly when the reels mean the same. Each byte of a reel is below 256; nothing else is assumed.
use mathlib.Core.Path.{◌≡◌, refl, sym, ap, ap₂, ◌∙◌, subst}
use mathlib.Core.List.{List, [], ◌∷◌, ◌++◌, map}
use mathlib.Core.Bool.{Bool, true, false}
use Prim.Native.Nat.{ℕ, suc, ◌+◌, ◌*◌, ◌^◌, ◌<◌}
use native.Mathlib.Nat.{eq_of_mul-eq-mul_right}
use native.Mathlib.Omega.{arith}
use lib.Dec.{eqb}
use lib.ListN.{length, get_or, drop, length-append, length-map}
use lib.IntN.{ℤ, pos, nat_abs}
use lib.Signed.{mag}
use Rattle.numbers.specs.Walk.{pick, walk, flat, bytes_at}
use Rattle.numbers.specs.BigEndian.{bytes_of}
use Rattle.numbers.specs.TwosComplement.{signed_of, bits_of}
use Rattle.numbers.specs.Cause.{Fine}
use Rattle.numbers.specs.Terms.{All, Bytes}
use Rattle.numbers.specs.Iff.{Iff}
use Rattle.numbers.proofs.WalkLaws.{all_at, split, cons_eq, flat_size, flat_inj, size_walk}
use Rattle.numbers.proofs.ByteLaws.{bytes_at_lem, number_at_lem}
use Rattle.numbers.proofs.SignLaws.{bits_signed}
use Rattle.formats.specs.Value.{exact_value}
use Rattle.value.specs.Pair.{pair_of, is_canonical}
use Rattle.sample_theorems.proofs.Pairs.{value_canonical}
use Rattle.reel.specs.Layout.{fields_from, binary_widths, binary_fields, trace_widths, trace_fields, field_number, first_trace, trace_header, samples_of, interval_of, code_of, stride_of, traces_of}
use Rattle.formats.specs.Codes.{is_code, sample_bytes, word_length}
use Rattle.reel.specs.Causes.{causes_of}
use Rattle.reel.specs.Meaning.{card_text, binary_numbers, filled, trace_number, Header, header_of, Trace, trace_meaning, meaning_by, meaning_of, MeanTheSame}
use Rattle.reel.proofs.CheckLaws.{reel_fine}
use Rattle.headers.specs.Header.{header_bytes}
use Rattle.headers.proofs.TraceLaws.{trace_front, trace_back, trace_widths_lem, trace_numbers_lem, count_field, interval_field}
use Rattle.headers.proofs.Ranges.{Fit, Some, all_some, some_of, fit_append, size_numbers, numbers_inj, number_fits, fields_fit}
use Rattle.headers.proofs.Listed.{header_listed}
use Rattle.headers.proofs.HeaderBytes.{HeaderFits, listed_fits, header_size_lem, bytes_only}
use Rattle.record.specs.Kind.{tag04}
use Rattle.record.specs.Record.{field, with_code, binary_bytes, samples_fields_in, trace_bytes_in, trace_bytes, trace_length, record_of_in, reel_record, record_length}
use Rattle.reel_theorems.proofs.KindLaws.{tag04_writes}
use Rattle.reel_theorems.proofs.SampleFields.{field_split, samples_size, samples_inj}
pub use Rattle.reel_theorems.proofs.SampleFields.{size_field}
use Rattle.fields.specs.Fields.{fields_length}
use Rattle.record.proofs.HeaderLaws.{binary_front, binary_back, binary_widths_lem, binary_numbers_lem, with_code_lem, counts, size_cards}

-- ## Header numbers

pub binary_front_some : Some binary_front
unfolding all_some binary_front
binary_front_some = some_of binary_front refl

pub binary_back_some : Some binary_back
unfolding all_some binary_back
binary_back_some = some_of binary_back refl

trace_front_some : Some trace_front
unfolding all_some trace_front
trace_front_some = some_of trace_front refl

trace_back_some : Some trace_back
unfolding all_some trace_back
trace_back_some = some_of trace_back refl

two : 0 < 2
two = omega arith

binary_fit : (s : List ℕ) → Bytes s → Fit binary_widths (with_code 0 (binary_numbers s))
binary_fit s h =
    rw (binary_widths_lem, with_code_lem 0 s)
    (fit_append binary_front (2 ∷ binary_back) (map (field_number s 0) (fields_from 3201 binary_front)) (pos 0 ∷ map (field_number s 0) (fields_from 3227 binary_back)) (fields_fit s h 0 3201 binary_front binary_front_some) (two, omega arith, fields_fit s h 0 3227 binary_back binary_back_some))

filled_fits : (own : ℕ) (z : ℤ) → own < 2 ^ 15 → mag z < 2 ^ 15 → mag (filled own z) < 2 ^ 15
filled_fits own z h l = go (eqb (nat_abs z) 0)
  where
    go : (b : Bool) → mag (pick b (pos own) z) < 2 ^ 15
    go true = h
    go false = l

trace_fit_lem : (s : List ℕ) → Bytes s → (n i at : ℕ) → n < 2 ^ 15 → i < 2 ^ 15 → Fit trace_widths (map (trace_number s n i at) trace_fields)
trace_fit_lem s h n i at p q =
    rw (trace_widths_lem, trace_numbers_lem s n i at)
    (fit_append trace_front (2 ∷ 2 ∷ trace_back) (map (field_number s at) (fields_from 1 trace_front)) _ (fields_fit s h at 1 trace_front trace_front_some)
    (two, filled_fits n (field_number s at count_field) p (number_fits s h (at + 114) 2 two), (two, filled_fits i (field_number s at interval_field) q (number_fits s h (at + 116) 2 two), fields_fit s h at 119 trace_back trace_back_some)))

-- the header of a trace fits
header_fits : (s : List ℕ) → Bytes s → (n i at : ℕ) → n < 2 ^ 15 → i < 2 ^ 15 → HeaderFits (header_of (trace_number s n i at))
header_fits s h n i at p q = rw (header_listed (trace_number s n i at)) (listed_fits (map (trace_number s n i at) trace_fields) (trace_fit_lem s h n i at p q))

-- ## Traces

-- what the traces of a reel are like
pub record Like (n : ℕ) (t : Trace) : Type 0 where
  pub header : HeaderFits t.header
  pub count : length t.values ≡ n
  pub canonical : All (λ v. is_canonical (pair_of v) ≡ true) t.values

trace_size : (n : ℕ) (t : Trace) → Like n t → length (trace_bytes t) ≡ trace_length n
unfolding trace_bytes_in
trace_size n t h =
    let a = header_size_lem t.header h.header in
    let b = samples_size tag04 tag04_writes t.values h.canonical ∙ ap (fields_length 6 6000) h.count in
    simp (length-append, size_field) (omega (arith, a, b))

pub trace_eq : {a b : Trace} → a.header ≡ b.header → a.values ≡ b.values → a ≡ b
trace_eq {a} {b} p q = ap₂ made p q
  where
    made : Header → List ℤ → Trace
    made x y = record { header = x; values = y }

trace_inj : (n : ℕ) (t u : Trace) → Like n t → Like n u → trace_bytes t ≡ trace_bytes u → t ≡ u
unfolding trace_bytes_in
trace_inj n t u p q e =
    let h = field_split 3 (header_bytes t.header) (header_bytes u.header) (samples_fields_in tag04 t.values) (samples_fields_in tag04 u.values) (header_size_lem t.header p.header ∙ sym (header_size_lem u.header q.header)) e in
    trace_eq (bytes_only t.header u.header p.header q.header h.0)
    (samples_inj tag04 tag04_writes n t.values u.values p.count q.count p.canonical q.canonical h.1)

pub trace_like : (s : List ℕ) → Bytes s → (code n i at : ℕ) → is_code code ≡ true → n < 2 ^ 15 → i < 2 ^ 15 → Like n (trace_meaning s code n i at)
unfolding trace_meaning
trace_like s h code n i at c p q =
    record {
      header = header_fits s h n i at p q;
      count = size_walk (λ k. exact_value code (bytes_at s k word_length)) (sample_bytes code) n (at + trace_header);
      canonical = all_at (λ v. is_canonical (pair_of v) ≡ true) (λ k. exact_value code (bytes_at s k word_length)) (λ k. value_canonical code (bytes_at s k word_length) c (bytes_at_lem s h k word_length)) (sample_bytes code) n (at + trace_header);
    }

-- ## Reels

-- a reel's header numbers are within their limits
record Limits (s : List ℕ) : Type 0 where
  n_fits : samples_of s < 2 ^ 15
  i_fits : interval_of s < 2 ^ 15
  is_code_lem : is_code (code_of s) ≡ true

limits : (s : List ℕ) → causes_of s ≡ Fine → Limits s
limits s e =
    let k = (reel_fine s e).numbers in
    record { n_fits = omega (arith, k.n_high); i_fits = omega (arith, k.i_high); is_code_lem = k.is_code_lem }

traces_in : List ℕ → List Trace
traces_in s = walk (trace_meaning s (code_of s) (samples_of s) (interval_of s)) (stride_of s) (traces_of s) first_trace

traces_like : (s : List ℕ) → Bytes s → Limits s → All (Like (samples_of s)) (traces_in s)
unfolding traces_in
traces_like s h l =
    all_at (Like (samples_of s)) (trace_meaning s (code_of s) (samples_of s) (interval_of s)) (λ at. trace_like s h (code_of s) (samples_of s) (interval_of s) at l.is_code_lem l.n_fits l.i_fits) (stride_of s) (traces_of s) first_trace

traces_count : (s : List ℕ) → length (traces_in s) ≡ traces_of s
unfolding traces_in
traces_count s = size_walk (trace_meaning s (code_of s) (samples_of s) (interval_of s)) (stride_of s) (traces_of s) first_trace

-- the record's four pieces
record_parts : (s : List ℕ)
    → reel_record s ≡ field 1 (card_text s) ++ (field 2 (binary_bytes 0 (binary_numbers s)) ++ (flat (map trace_bytes (traces_in s)) ++ field 5 (bytes_of 4 (length (traces_in s)))))
unfolding record_of_in meaning_by traces_in
record_parts s = refl

size_binary : (s : List ℕ) → Bytes s → length (binary_bytes 0 (binary_numbers s)) ≡ 60
unfolding binary_bytes
size_binary s h = size_numbers binary_widths (with_code 0 (binary_numbers s)) (binary_fit s h) ∙ counts.1

size_traces : (n : ℕ) (l : List Trace) → All (Like n) l → length (flat (map trace_bytes l)) ≡ length l * trace_length n
size_traces n l h = flat_size trace_bytes (Like n) (trace_length n) (trace_size n) l h

size_count : (k : ℕ) → length (field 5 (bytes_of 4 k)) ≡ 7
size_count k = size_field 5 (bytes_of 4 k)

-- THEOREM. A record of T traces of N samples is 3273 + T × (183 + 3F + 6N) bytes, with F fields of samples a trace.
pub record_size : (s : List ℕ) → Bytes s → causes_of s ≡ Fine → length (reel_record s) ≡ record_length (traces_of s) (samples_of s)
record_size s h e =
    let n = samples_of s in
    let t = size_traces n (traces_in s) (traces_like s h (limits s e)) ∙ ap (λ (k : ℕ). k * trace_length n) (traces_count s) in
    ap length (record_parts s) ∙ simp (length-append, size_field, size_cards) (omega (arith, size_binary s h, t, size_count (length (traces_in s))))

-- the 26 numbers, by the 27
binary_same : (s₁ s₂ : List ℕ) → with_code 0 (binary_numbers s₁) ≡ with_code 0 (binary_numbers s₂) → binary_numbers s₁ ≡ binary_numbers s₂
binary_same s₁ s₂ e =
    let h = split (front s₁) (front s₂) (pos 0 ∷ back s₁) (pos 0 ∷ back s₂) (length-map (fields_from 3201 binary_front) (field_number s₁ 0) ∙ sym (length-map (fields_from 3201 binary_front) (field_number s₂ 0))) (sym (with_code_lem 0 s₁) ∙ e ∙ with_code_lem 0 s₂) in
    binary_numbers_lem s₁ ∙ ap₂ (λ (x y : List ℤ). x ++ y) h.0 (ap (drop 1) h.1) ∙ sym (binary_numbers_lem s₂)
  where
    front : List ℕ → List ℤ
    front s = map (field_number s 0) (fields_from 3201 binary_front)

    back : List ℕ → List ℤ
    back s = map (field_number s 0) (fields_from 3227 binary_back)

-- N, by the binary numbers: field 3221 is the eighth
pub eighth : (s : List ℕ) → get_or (binary_numbers s) 7 (pos 0) ≡ signed_of 16 (samples_of s)
unfolding binary_numbers binary_fields binary_widths
eighth s = refl

pub samples_same : (s₁ s₂ : List ℕ) → Bytes s₁ → Bytes s₂ → binary_numbers s₁ ≡ binary_numbers s₂ → samples_of s₁ ≡ samples_of s₂
samples_same s₁ s₂ h₁ h₂ e =
    let same : signed_of 16 (samples_of s₁) ≡ signed_of 16 (samples_of s₂) = sym (eighth s₁) ∙ ap (λ (l : List ℤ). get_or l 7 (pos 0)) e ∙ eighth s₂ in
    sym (bits_signed 16 (samples_of s₁) (omega arith) (number_at_lem s₁ h₁ 3220 2)) ∙ ap (bits_of 16) same ∙ bits_signed 16 (samples_of s₂) (omega arith) (number_at_lem s₂ h₂ 3220 2)

-- the traces of two records, of n samples each, behind equal headers
traces_same : (n : ℕ) (l₁ l₂ : List Trace) → All (Like n) l₁ → All (Like n) l₂
    → flat (map trace_bytes l₁) ++ field 5 (bytes_of 4 (length l₁)) ≡ flat (map trace_bytes l₂) ++ field 5 (bytes_of 4 (length l₂)) → l₁ ≡ l₂
traces_same n l₁ l₂ p q e =
    let m = trace_length n in
    let sum : length l₁ * m ≡ length l₂ * m =
    omega (arith, simp length-append at (ap length e), size_traces n l₁ p, size_traces n l₂ q, size_count (length l₁), size_count (length l₂)) in
    let t : length l₁ ≡ length l₂ = eq_of_mul-eq-mul_right m (omega arith) (length l₁) (length l₂) sum in
    let h = split (flat (map trace_bytes l₁)) (flat (map trace_bytes l₂)) _ _ (size_traces n l₁ p ∙ sum ∙ sym (size_traces n l₂ q)) e in
    flat_inj trace_bytes (Like n) m (trace_size n) (trace_inj n) l₁ l₂ t p q h.0

-- a header, by its numbers, its elevations and its coordinates
header_eq : {a b : Header} → a.numbers ≡ b.numbers → a.elevations ≡ b.elevations → a.coordinates ≡ b.coordinates → a ≡ b
header_eq {a} {b} p q r = ap₂ (λ (x y : List ℤ). made x y a.coordinates) p q ∙ ap (made b.numbers b.elevations) r
  where
    made : List ℤ → List ℤ → List ℤ → Header
    made x y z = record { numbers = x; elevations = y; coordinates = z }

-- a list of traces, by what each list of a trace's numbers and values is
traces_eq : (l₁ l₂ : List Trace) → length l₁ ≡ length l₂
    → map (λ (t : Trace). t.header.numbers) l₁ ≡ map (λ (t : Trace). t.header.numbers) l₂
    → map (λ (t : Trace). t.header.elevations) l₁ ≡ map (λ (t : Trace). t.header.elevations) l₂
    → map (λ (t : Trace). t.header.coordinates) l₁ ≡ map (λ (t : Trace). t.header.coordinates) l₂
    → map (λ (t : Trace). t.values) l₁ ≡ map (λ (t : Trace). t.values) l₂ → l₁ ≡ l₂
traces_eq [] [] n p e c q = refl
traces_eq [] (u ∷ k) n p e c q = absurd (let z : 0 ≡ suc (length k) = n in omega arith)
traces_eq (t ∷ l) [] n p e c q = absurd (let z : suc (length l) ≡ 0 = n in omega arith)
traces_eq (t ∷ l) (u ∷ k) n p e c q =
    let a : t.header.numbers ≡ u.header.numbers = cc in
    let x : t.header.elevations ≡ u.header.elevations = cc in
    let y : t.header.coordinates ≡ u.header.coordinates = cc in
    let b : t.values ≡ u.values = cc in
    cons_eq (trace_eq (header_eq a x y) b) (traces_eq l k (omega arith) (ap (drop 1) p) (ap (drop 1) e) (ap (drop 1) c) (ap (drop 1) q))

-- what a meaning is
meaning_cards : (s : List ℕ) → (meaning_of s).cards ≡ card_text s
unfolding meaning_by
meaning_cards s = refl

meaning_binary : (s : List ℕ) → (meaning_of s).binary ≡ binary_numbers s
unfolding meaning_by
meaning_binary s = refl

meaning_traces : (s : List ℕ) → (meaning_of s).traces ≡ traces_in s
unfolding meaning_by traces_in
meaning_traces s = refl

module _ (s₁ s₂ : List ℕ) (b₁ : Bytes s₁) (b₂ : Bytes s₂) (f₁ : causes_of s₁ ≡ Fine) (f₂ : causes_of s₂ ≡ Fine) where
  same_means : reel_record s₁ ≡ reel_record s₂ → MeanTheSame s₁ s₂
  unfolding binary_bytes
  same_means e =
      let a = field_split 1 (card_text s₁) (card_text s₂) _ _ (size_cards s₁ ∙ sym (size_cards s₂)) (sym (record_parts s₁) ∙ e ∙ record_parts s₂) in
      let b = field_split 2 (binary_bytes 0 (binary_numbers s₁)) (binary_bytes 0 (binary_numbers s₂)) _ _ (size_binary s₁ b₁ ∙ sym (size_binary s₂ b₂)) a.1 in
      let z = binary_same s₁ s₂ (numbers_inj binary_widths (with_code 0 (binary_numbers s₁)) (with_code 0 (binary_numbers s₂)) (binary_fit s₁ b₁) (binary_fit s₂ b₂) b.0) in
      let n : samples_of s₂ ≡ samples_of s₁ = sym (samples_same s₁ s₂ b₁ b₂ z) in
      let like₂ = subst (λ (k : ℕ). All (Like k) (traces_in s₂)) n (traces_like s₂ b₂ (limits s₂ f₂)) in
      let t : traces_in s₁ ≡ traces_in s₂ = traces_same (samples_of s₁) (traces_in s₁) (traces_in s₂) (traces_like s₁ b₁ (limits s₁ f₁)) like₂ b.1 in
      let m : (meaning_of s₁).traces ≡ (meaning_of s₂).traces = meaning_traces s₁ ∙ t ∙ sym (meaning_traces s₂) in
      record {
        cards = meaning_cards s₁ ∙ a.0 ∙ sym (meaning_cards s₂);
        binary = meaning_binary s₁ ∙ z ∙ sym (meaning_binary s₂);
        count = ap length m;
        numbers = ap (map (λ (x : Trace). x.header.numbers)) m;
        elevations = ap (map (λ (x : Trace). x.header.elevations)) m;
        coordinates = ap (map (λ (x : Trace). x.header.coordinates)) m;
        values = ap (map (λ (x : Trace). x.values)) m;
      }

  means_same : MeanTheSame s₁ s₂ → reel_record s₁ ≡ reel_record s₂
  means_same h =
      let t : traces_in s₁ ≡ traces_in s₂ = sym (meaning_traces s₁) ∙ traces_eq (meaning_of s₁).traces (meaning_of s₂).traces h.count h.numbers h.elevations h.coordinates h.values ∙ meaning_traces s₂ in
      let cards : card_text s₁ ≡ card_text s₂ = sym (meaning_cards s₁) ∙ h.cards ∙ meaning_cards s₂ in
      let binary : binary_numbers s₁ ≡ binary_numbers s₂ = sym (meaning_binary s₁) ∙ h.binary ∙ meaning_binary s₂ in
      record_parts s₁
      ∙ ap₂ (λ (x y : List ℕ). x ++ y) (ap (field 1) cards) (ap₂ (λ (x y : List ℕ). x ++ y) (ap (λ (l : List ℤ). field 2 (binary_bytes 0 l)) binary) (ap (λ (l : List Trace). flat (map trace_bytes l) ++ field 5 (bytes_of 4 (length l))) t))
      ∙ sym (record_parts s₂)

  -- THEOREM. The records are equal byte for byte exactly when the reels mean the same.
  pub same_records : Iff (reel_record s₁ ≡ reel_record s₂) (MeanTheSame s₁ s₂)
  same_records = (same_means, means_same)
