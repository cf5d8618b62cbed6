-- What readings and writings that are taken need and give. Where each byte of a reel or of a record must be below 256, the law says so;
-- nothing else is assumed.
use mathlib.Core.Path.{◌≡◌, refl, sym, ap, ap₂, ◌∙◌}
use mathlib.Core.List.{List, [], ◌∷◌, ◌++◌, map}
use mathlib.Core.Bool.{Bool, true, not}
use Prim.Native.Nat.{ℕ, ◌≤◌}
use borrow.Author.Tests.{le-ltb, not-false}
use lib.Dec.{ltb}
use lib.ListN.{length, drop}
use lib.IntN.{ℤ}
use Rattle.numbers.specs.Walk.{walk, bytes_at}
use Rattle.numbers.specs.Cause.{refuse_if, then}
use Rattle.numbers.specs.Outcome.{Said, taken, Outcome}
use Rattle.numbers.specs.Cause.{Check}
use Rattle.numbers.specs.Cause.{Fine}
use Rattle.numbers.specs.Terms.{All, Bytes}
use Rattle.numbers.proofs.WalkLaws.{cons_eq, size_walk, map_walk}
use Rattle.numbers.proofs.CauseLaws.{passed, then_fine, at_most}
use Rattle.numbers.proofs.SaidLaws.{says_fine}
use Rattle.numbers.proofs.AllLaws.{all_with}
use Rattle.formats.specs.Codes.{is_code, sample_bytes}
use Rattle.headers.specs.Header.{header_size, header_bytes}
use Rattle.reel.specs.Layout.{first_trace, stride, interval_of, samples_of, code_of, stride_of, traces_of}
use Rattle.reel.specs.Causes.{causes_of}
use Rattle.reel.specs.NotNormal.{not_normal_of}
use Rattle.reel.specs.Meaning.{Trace, trace_meaning, Meaning, meaning_by, meaning_of}
use Rattle.record.specs.Record.{record_of, reel_record}
use Rattle.record.specs.Kind.{tag04}
use Rattle.record.specs.Form.{held_interval, held_samples, trace_place, held_count, form_causes}
use Rattle.record.specs.Held.{held_trace_in, held_by_in, held_by, renewed}
use Rattle.fit.specs.Target.{fit_causes, target_causes}
use Rattle.read_reel.specs.Reading.{record_length_of, read_end, read_outcome}
use Rattle.write_reel.specs.Reel.{reel_of}
use Rattle.write_reel.specs.Writing.{reel_length_of, write_causes, write_end, write_outcome}
use Rattle.reel_theorems.proofs.Same.{record_size}
use Rattle.demands.proofs.Proper.{ProperTrace, Proper}
use Rattle.demands.proofs.ProperLaws.{held_proper}
use Rattle.demands.proofs.Renewed.{held_count_lem}
use Rattle.demands.proofs.Fitting.{FittingTrace, Fitting, fit_is, fits_is}
use Rattle.demands.proofs.ReelBack.{reel_bytes, reel_code, reel_samples, reel_traces, reel_no_cause, reel_again, reel_count, reel_headers}
use Rattle.demands.specs.Words.{HasWord, Worded}

-- ## Words for every sample

-- The samples of a proper meaning fit a code exactly when each has a word under it.
module _ (code n i : ℕ) (m : Meaning) (p : Proper n i m) (c : is_code code ≡ true) where
  pub fitting_words : Fitting code m → Worded code m.traces
  fitting_words f =
      all_with (ProperTrace n i) (FittingTrace code) (λ (t : Trace). All (HasWord code) t.values)
      (λ t h g. all_with _ _ (HasWord code) (λ (v : ℤ) k e. (fits_is code v c k).0 e) t.values h.canonical g) m.traces p.traces f

  words_fitting : Worded code m.traces → Fitting code m
  words_fitting f =
      all_with (ProperTrace n i) (λ (t : Trace). All (HasWord code) t.values) (FittingTrace code)
      (λ t h g. all_with _ (HasWord code) _ (λ (v : ℤ) k e. (fits_is code v c k).1 e) t.values h.canonical g) m.traces p.traces f

-- ## Readings

-- Where no cause of 1 to 9, 18 and 19 applies to a reel, and the output is long enough, its reading is taken.
pub read_taken : (s out : List ℕ) → causes_of s ≡ Fine → record_length_of s ≤ length out → read_outcome s out ≡ read_end s out Fine
read_taken s out f h =
    let k = record_length_of s in
    ap (λ (c : Check). read_end s out (then c (refuse_if (ltb (length out) k) 10 k))) f
    ∙ ap (λ (b : Bool). read_end s out (refuse_if b 10 k)) (le-ltb (length out) k h)

-- The traces of what a reel means are the whole traces of the reel.
pub meant_count : (s : List ℕ) → length (meaning_of s).traces ≡ traces_of s
unfolding meaning_by
meant_count s = size_walk (trace_meaning s (code_of s) (samples_of s) (interval_of s)) (stride_of s) (traces_of s) first_trace

-- ## Writings

-- What a writing needs: a code, a record to which neither 12 nor 13 applies, no cause of 14, and an output that is long enough.
pub record Writable (r : List ℕ) (code : ℕ) (out : List ℕ) : Type 0 where
  pub code_is : is_code code ≡ true
  pub form : form_causes r ≡ Fine
  pub fit : fit_causes r code (held_samples r) (held_count r (held_samples r)) ≡ Fine
  pub room : reel_length_of r code ≤ length out

module _ (r : List ℕ) (code : ℕ) (out : List ℕ) where
  -- A writing that is taken has no cause of 10 to 14.
  written_fine : (numbers : List ℕ) → (write_outcome r code out).said ≡ taken numbers → write_causes r code (length out) ≡ Fine
  written_fine numbers e =
      says_fine (λ (c : Check). (write_end r code out c).said) _ refl (λ n p. refl) (write_causes r code (length out)) numbers e

  -- It has what it needs,
  pub written_needs : (numbers : List ℕ) → (write_outcome r code out).said ≡ taken numbers → Writable r code out
  unfolding target_causes
  written_needs numbers e =
      let a = then_fine (target_causes r code) _ (written_fine numbers e) in
      let b = then_fine (refuse_if (not (is_code code)) 11 0) _ a.0 in
      let c = then_fine (form_causes r) _ b.1 in
      record {
        code_is = not-false (is_code code) (passed _ _ _ b.0);
        form = c.0;
        fit = c.1;
        room = at_most (length out) (reel_length_of r code) 10 (reel_length_of r code) a.1;
      }

  -- and a writing that has what it needs is taken.
  pub write_taken : Writable r code out → write_outcome r code out ≡ write_end r code out Fine
  unfolding target_causes
  write_taken w =
      let k = reel_length_of r code in
      let f = fit_causes r code (held_samples r) (held_count r (held_samples r)) in
      let room = ap (λ (b : Bool). refuse_if b 10 k) (le-ltb (length out) k w.room) in
      ap (λ (b : Bool). write_end r code out (then (then (refuse_if (not b) 11 0) (then (form_causes r) f)) (refuse_if (ltb (length out) k) 10 k))) w.code_is
      ∙ ap (λ (c : Check). write_end r code out (then (then c f) (refuse_if (ltb (length out) k) 10 k))) w.form
      ∙ ap (λ (c : Check). write_end r code out (then c (refuse_if (ltb (length out) k) 10 k))) w.fit
      ∙ ap (write_end r code out) room

-- A valid record, a code that has a word for each of its samples and an output long enough are what a writing needs.
pub needs : (r : List ℕ) (code : ℕ) (out : List ℕ) → Bytes r → form_causes r ≡ Fine → is_code code ≡ true → Worded code (held_by r).traces
    → reel_length_of r code ≤ length out → Writable r code out
needs r code out b v c f h =
    let p : Proper (held_samples r) (held_interval r) (held_by r) = held_proper r b v in
    record {
      code_is = c;
      form = v;
      fit = (fit_is r code).1 (words_fitting code (held_samples r) (held_interval r) (held_by r) p c f);
      room = h;
    }

-- ## The reel of a record

-- The headers of what a record holds, one behind the other.
held_headers : (r : List ℕ) → map (λ (t : Trace). header_bytes t.header) (held_by r).traces
    ≡ walk (λ k. header_bytes (held_trace_in tag04 r (held_samples r) (trace_place r (held_samples r) k)).header) 1 (held_count r (held_samples r)) 0
unfolding held_by_in
held_headers r =
    let n = held_samples r in
    map_walk (λ (t : Trace). header_bytes t.header) (λ j. held_trace_in tag04 r n (trace_place r n j)) 1 (held_count r n) 0

-- A record that is written.
module _ (r : List ℕ) (b : Bytes r) (code : ℕ) (out : List ℕ) (w : Writable r code out) where
  -- What the record holds is proper, and each of its samples fits the code.
  proper : Proper (held_samples r) (held_interval r) (held_by r)
  proper = held_proper r b w.form

  fitting : Fitting code (held_by r)
  fitting = (fit_is r code).0 w.fit

  -- Its reel is a list of bytes.
  pub written_bytes : Bytes (reel_of code (held_by r))
  written_bytes = reel_bytes code (held_samples r) (held_interval r) (held_by r) proper w.code_is fitting

  -- No cause of 1 to 9, 18 and 19 applies to it.
  pub written_no_cause : causes_of (reel_of code (held_by r)) ≡ Fine
  written_no_cause = reel_no_cause code (held_samples r) (held_interval r) (held_by r) proper w.code_is fitting

  -- Its format code is the target code.
  pub written_code : code_of (reel_of code (held_by r)) ≡ code
  written_code = reel_code code (held_samples r) (held_interval r) (held_by r) proper w.code_is fitting

  -- Its N and its T are those of the record.
  pub written_samples : samples_of (reel_of code (held_by r)) ≡ held_samples r
  written_samples = reel_samples code (held_samples r) (held_interval r) (held_by r) proper w.code_is fitting

  pub written_traces : traces_of (reel_of code (held_by r)) ≡ held_count r (held_samples r)
  written_traces = reel_traces code (held_samples r) (held_interval r) (held_by r) proper w.code_is fitting ∙ held_count_lem r

  -- Its record is the record, renewed.
  pub written_record : reel_record (reel_of code (held_by r)) ≡ renewed r
  written_record =
      ap record_of (reel_again code (held_samples r) (held_interval r) (held_by r) proper w.code_is fitting)

  -- The length of its record is that of the record, renewed.
  pub written_length : record_length_of (reel_of code (held_by r)) ≡ length (renewed r)
  written_length = sym (record_size (reel_of code (held_by r)) written_bytes written_no_cause) ∙ ap length written_record

  -- None of its words counts: under code 1 each is normal.
  pub written_count : not_normal_of (reel_of code (held_by r)) ≡ 0
  written_count = reel_count code (held_samples r) (held_interval r) (held_by r) proper w.code_is fitting

  -- Reading it into an output long enough gives the record, renewed, with the record's T and N and the count 0.
  pub written_read : (out₂ : List ℕ) → length (renewed r) ≤ length out₂
      → read_outcome (reel_of code (held_by r)) out₂ ≡ record { said = taken (held_count r (held_samples r) ∷ held_samples r ∷ length (renewed r) ∷ 0 ∷ []); bytes = renewed r ++ drop (length (renewed r)) out₂ }
  written_read out₂ h = read_taken s out₂ written_no_cause (rw written_length h) ∙ ap₂ made said bytes
    where
      s : List ℕ
      s = reel_of code (held_by r)

      made : Said → List ℕ → Outcome
      made x y = record { said = x; bytes = y }

      said : taken (traces_of s ∷ samples_of s ∷ record_length_of s ∷ not_normal_of s ∷ []) ≡ taken (held_count r (held_samples r) ∷ held_samples r ∷ length (renewed r) ∷ 0 ∷ [])
      said = ap taken (cons_eq written_traces (cons_eq written_samples (cons_eq written_length (cons_eq written_count refl))))

      bytes : reel_record s ++ drop (record_length_of s) out₂ ≡ renewed r ++ drop (length (renewed r)) out₂
      bytes = ap₂ (λ (x : List ℕ) (k : ℕ). x ++ drop k out₂) written_record written_length

  -- The headers of its traces are those of the record's, one behind the other.
  pub written_headers_all : walk (λ at. bytes_at (reel_of code (held_by r)) at header_size) (stride (held_samples r) (sample_bytes code)) (held_count r (held_samples r)) first_trace
      ≡ walk (λ k. header_bytes (held_trace_in tag04 r (held_samples r) (trace_place r (held_samples r) k)).header) 1 (held_count r (held_samples r)) 0
  written_headers_all =
      let n = held_samples r in
      ap (λ (k : ℕ). walk (λ at. bytes_at (reel_of code (held_by r)) at header_size) (stride n (sample_bytes code)) k first_trace) (sym (held_count_lem r))
      ∙ reel_headers code n (held_interval r) (held_by r) proper w.code_is fitting ∙ held_headers r
