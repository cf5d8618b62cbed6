-- What a reel's checks find, and what follows where they find nothing. Assumes nothing.
use mathlib.Core.Path.{◌≡◌, refl, sym, ap, ◌∙◌, subst}
use mathlib.Core.List.{List}
use mathlib.Core.Bool.{Bool, true, false, not, ◌&&◌}
use Prim.Native.Nat.{ℕ, zero, suc, ◌+◌, ◌-◌, ◌*◌, ◌≤◌, ◌<◌}
use native.Mathlib.Nat.{mul-le-mul, div-mul-le_self}
use native.Mathlib.Omega.{arith}
use borrow.Author.Tests.{leb-true, eqb-true, ne_eqb, ltb-false, not-false}
use lib.Dec.{T, leb, ltb}
use lib.ListN.{length}
use Rattle.numbers.specs.Walk.{pick, walk}
use Rattle.numbers.specs.Cause.{refuse_if, then, first_of}
use Rattle.numbers.specs.Places.{byte_place}
use Rattle.numbers.specs.Cause.{Fine}
use Rattle.numbers.proofs.CauseLaws.{then_assoc, passed, then_fine}
use Rattle.formats.specs.Codes.{is_code, sample_bytes}
use Rattle.formats.specs.Value.{is_bad, word_number, exact_value}
use Rattle.sample.specs.Reading.{bad_number, pair_taken, read_word}
use Rattle.sample.specs.Reading as sample
use Rattle.numbers.proofs.SignLaws.{below_or}
use mathlib.Core.Logic.{⊎_elim}
use Rattle.formats.proofs.CodeLaws.{width_high}
use Rattle.reel.specs.Layout.{first_trace, trace_header, elevation_scalar, coordinate_scalar, number16, samples_of, code_of, interval_of, stride, trailer_bytes, stride_in, stride_by, over_in, traces_by, traces_of, stride_of}
use Rattle.reel.specs.Parts.{word_refused, trace_header_causes}
use Rattle.reel.specs.Causes.{most_samples, most_traces, within, neither, allows, limit_causes_by, size_causes, scalar_cause, word_cause, trace_causes, trace_causes_by, behind_causes_by, causes_by, causes_of}
use Rattle.reel.specs.declared.Layout.{Layout}
use Rattle.reel.specs.declared.Layout.TheVariants.{Plain, Eagle}

-- ## Rows

-- codes 4 and 5 have words of four bytes
pub four_bytes_long : (code : ℕ) → 4 ≤ code → code < 6 → (is_code code ≡ true) × (sample_bytes code ≡ 4)
four_bytes_long code h l = ⊎_elim (λ (p : code < 5). at (let e : code ≡ 4 = omega arith in e) refl refl) (λ (p : 5 ≤ code). at (let e : code ≡ 5 = omega arith in e) refl refl) (below_or code 5)
  where
    at : {k : ℕ} → code ≡ k → is_code k ≡ true → sample_bytes k ≡ 4 → (is_code code ≡ true) × (sample_bytes code ≡ 4)
    at e i b = (ap is_code e ∙ i, ap sample_bytes e ∙ b)

-- a word's refusal under a code
pub word_refused_lem : (code : ℕ) (w : List ℕ) (at : ℕ) → is_code code ≡ true → word_refused (read_word code w) at ≡ refuse_if (is_bad code (word_number code w)) (bad_number code) at
word_refused_lem code w at h = rw h (go (is_bad code (word_number code w)) (exact_value code w))
  where
    go : (b : Bool) (v : _) → word_refused (pick b (sample.Refused (bad_number code)) (pair_taken v)) at ≡ refuse_if b (bad_number code) at
    go true v = refl
    go false v = refl

-- under codes other than 4 and 5 no word is refused
pub none_bad : (s : List ℕ) (code : ℕ) → (code ≡ 4 → ⊥) → (code ≡ 5 → ⊥) → (w k at : ℕ) → first_of (walk (word_cause s code) w k at) ≡ Fine
none_bad s code h l w zero at = refl
none_bad s code h l w (suc k) at = rw (ne_eqb code 4 h, ne_eqb code 5 l) (none_bad s code h l w k (at + w))

-- ## A trace

-- its causes are those of its header, and then those of its words
pub trace_parts : (s : List ℕ) (code n i at : ℕ) → trace_causes s code n i at ≡ then (trace_header_causes s n i at) (first_of (walk (word_cause s code) (sample_bytes code) n (at + trace_header)))
unfolding trace_causes trace_header_causes
trace_parts s code n i at =
    let a = refuse_if (neither (number16 s (byte_place at 115)) n) 7 (byte_place at 115) in
    let b = refuse_if (neither (number16 s (byte_place at 117)) i) 8 (byte_place at 117) in
    let c = scalar_cause s at elevation_scalar in
    let d = scalar_cause s at coordinate_scalar in
    let w = first_of (walk (word_cause s code) (sample_bytes code) n (at + trace_header)) in
    sym (then_assoc a (then b (then c d)) w ∙ ap (then a) (then_assoc b (then c d) w ∙ ap (then b) (then_assoc c d w)))

-- so where it has none, its words have none
pub words_fine : (s : List ℕ) (code n i at : ℕ) → trace_causes s code n i at ≡ Fine → first_of (walk (word_cause s code) (sample_bytes code) n (at + trace_header)) ≡ Fine
words_fine s code n i at e = (then_fine (trace_header_causes s n i at) _ (sym (trace_parts s code n i at) ∙ e)).1

-- ## Where nothing is found

pub both_true : (a b : Bool) → not (a && b) ≡ false → (a ≡ true) × (b ≡ true)
both_true true true e = (refl, refl)
both_true true false e = absurd (subst T e tt)
both_true false b e = absurd (subst T e tt)

pub in_limits : (a b n number place : ℕ) → refuse_if (not (within a b n)) number place ≡ Fine → (a ≤ n) × (n ≤ b)
in_limits a b n number place e =
    let t = both_true (leb a n) (leb n b) (passed (not (within a b n)) number place e) in
    (leb-true a n t.0, leb-true n b t.1)

-- the header's numbers are within their limits
pub record Numbers (code n i : ℕ) : Type 0 where
  pub is_code_lem : is_code code ≡ true
  pub n_low : 1 ≤ n
  pub n_high : n ≤ most_samples
  pub i_low : 1 ≤ i
  pub i_high : i ≤ 32767

-- what a layout allows is a code; on an Eagle reel it is 1
pub allowed_code : (k : Layout) (code : ℕ) → allows k code ≡ true → is_code code ≡ true
allowed_code Plain code e = e
allowed_code Eagle code e = ap is_code (eqb-true code 1 e)

pub header_fine : (k : Layout) (code n i : ℕ) → limit_causes_by k code n i ≡ Fine → Numbers code n i
header_fine k code n i e =
    let a = then_fine (refuse_if (not (allows k code)) 2 3224) _ e in
    let b = then_fine (refuse_if (not (within 1 most_samples n)) 3 3220) _ a.1 in
    let c = then_fine (refuse_if (not (within 1 32767 i)) 4 3216) _ b.1 in
    let y = in_limits 1 most_samples n 3 3220 b.0 in
    let z = in_limits 1 32767 i 4 3216 c.0 in
    record { is_code_lem = allowed_code k code (not-false (allows k code) (passed (not (allows k code)) 2 3224 a.0)); n_low = y.0; n_high = y.1; i_low = z.0; i_high = z.1 }

-- a trace is from 240 to 131,308 bytes, and with a trailer 960 more
pub stride_high : (code n : ℕ) → n ≤ most_samples → stride n (sample_bytes code) ≤ 131308
stride_high code n h = let l = mul-le-mul h (width_high code) in omega arith

-- in either layout it has its header and its samples
pub stride_holds : (k : Layout) (n v : ℕ) → stride n v ≤ stride_in k n v
stride_holds Plain n v = omega arith
stride_holds Eagle n v = omega arith

-- and at most a trailer more
pub stride_most : (k : Layout) (n v : ℕ) → stride_in k n v ≤ stride n v + trailer_bytes
stride_most Plain n v = omega arith
stride_most Eagle n v = omega arith

-- what a reel of a layout is to which no cause applies
pub record SoundBy (k : Layout) (s : List ℕ) : Type 0 where
  pub long : first_trace ≤ length s
  pub numbers : Numbers (code_of s) (samples_of s) (interval_of s)
  pub allowed : allows k (code_of s) ≡ true
  pub whole : over_in (length s) (stride_by k s) ≡ 0
  pub few : traces_by k s ≤ most_traces
  pub traces : first_of (walk (trace_causes_by k s (code_of s) (samples_of s) (interval_of s)) (stride_by k s) (traces_by k s) first_trace) ≡ Fine

pub fine_by : (k : Layout) (s : List ℕ) → causes_by k s ≡ Fine → SoundBy k s
unfolding causes_by behind_causes_by
fine_by k s e =
    let a = then_fine (refuse_if (ltb (length s) first_trace) 1 (length s)) _ e in
    let b = then_fine (limit_causes_by k (code_of s) (samples_of s) (interval_of s)) _ a.1 in
    let c = then_fine (size_causes (length s) (stride_by k s) (traces_by k s) (over_in (length s) (stride_by k s))) _ b.1 in
    let d = then_fine (refuse_if (ltb 0 (over_in (length s) (stride_by k s))) 5 (length s - over_in (length s) (stride_by k s))) _ c.0 in
    let f = then_fine (refuse_if (ltb most_traces (traces_by k s)) 6 (first_trace + most_traces * stride_by k s)) _ d.1 in
    let g = then_fine (refuse_if (not (allows k (code_of s))) 2 3224) _ b.0 in
    record {
      long = ltb-false (length s) first_trace (passed _ _ _ a.0);
      numbers = header_fine k (code_of s) (samples_of s) (interval_of s) b.0;
      allowed = not-false (allows k (code_of s)) (passed (not (allows k (code_of s))) 2 3224 g.0);
      whole = none (ltb-false 0 (over_in (length s) (stride_by k s)) (passed _ _ _ d.0));
      few = ltb-false most_traces (traces_by k s) (passed _ _ _ f.0);
      traces = c.1;
    }
  where
    none : {n : ℕ} → n ≤ 0 → n ≡ 0
    none h = omega arith

-- the traces end where the reel ends
pub inside_by : (k : Layout) (s : List ℕ) → SoundBy k s → first_trace + traces_by k s * stride_by k s ≤ length s
inside_by k s h = omega (arith, h.long, div-mul-le_self (length s - first_trace) (stride_by k s))

-- the same of a plain reel
abbrev pub Sound : List ℕ → Type 0
Sound s = SoundBy Plain s

pub reel_fine : (s : List ℕ) → causes_of s ≡ Fine → Sound s
reel_fine = fine_by Plain

pub inside : (s : List ℕ) → Sound s → first_trace + traces_of s * stride_of s ≤ length s
inside = inside_by Plain
