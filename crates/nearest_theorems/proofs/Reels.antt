-- What nearest writing needs, and the reel that it writes: what that means and holds, sample by sample, and what reading it gives. Where each
-- byte of a record must be below 256, the law says so; nothing else is assumed.
use mathlib.Core.Path.{◌≡◌, refl, sym, ap, ap₂, ◌∙◌}
use mathlib.Core.List.{List, [], ◌∷◌, ◌++◌, map}
use mathlib.Core.Bool.{Bool, true, not}
use Prim.Native.Nat.{ℕ, ◌+◌, ◌*◌, ◌≤◌, ◌<◌}
use native.Mathlib.Omega.{arith}
use borrow.Author.Tests.{le-ltb, not-false}
use lib.Dec.{ltb}
use lib.ListN.{length, take, drop, length-map}
use lib.Seq.{take_at}
use lib.IntN.{ℤ}
use Rattle.numbers.specs.Walk.{walk, sum, bytes_at}
use Rattle.numbers.specs.Cause.{refuse_if, then}
use Rattle.numbers.specs.Outcome.{Said, taken, Outcome}
use Rattle.numbers.specs.Terms.{Bytes}
use Rattle.numbers.specs.Cause.{Check}
use Rattle.numbers.specs.Cause.{Fine}
use Rattle.numbers.proofs.CauseLaws.{passed, then_fine, at_most}
use Rattle.numbers.proofs.WalkLaws.{cons_eq, walk_each, walk_same, map_walk}
use Rattle.formats.specs.Codes.{is_code, sample_bytes, word_length}
use Rattle.formats.specs.Value.{exact_value}
use Rattle.formats.specs.Words.{word_of}
use Rattle.formats.specs.Nearest.{nearest_value, changes, differs}
use Rattle.formats.specs.Written.{Written}
use Rattle.format_theorems.proofs.NearestTheorems.{nearest_means}
use Rattle.reel.specs.Layout.{first_trace, trace_header, stride, interval_of, samples_of, code_of, traces_of}
use Rattle.reel.specs.Meaning.{Trace, trace_meaning, Meaning, meaning_by, meaning_of}
use Rattle.reel.specs.NotNormal.{not_normal_of}
use Rattle.record.specs.Record.{record_of, reel_record, record_length}
use Rattle.fields.proofs.FieldsLaws.{step_is}
use Rattle.fields.specs.Fields.{fields_in}
use Rattle.record.specs.Kind.{tag04}
use Rattle.record.specs.Form.{held_interval, held_samples, held_count, form_causes}
use Rattle.record.specs.Held.{held_values_in, held_trace_in, held_by_in, held_by, IsNewest, renewed}
use Rattle.read_reel.specs.Reading.{record_length_of, read_outcome}
use Rattle.write_reel.specs.Reel.{reel_of}
use Rattle.write_reel.specs.Writing.{reel_length_of}
use Rattle.write_reel.specs.Nearest.{nearest_trace, nearest_meaning, trace_changes, meaning_changes, nearest_causes, nearest_end, nearest_outcome}
use Rattle.reel_theorems.specs.ReelTable.{sample_at}
use Rattle.demands.specs.ValidRecord.{trace_place}
use Rattle.demands.specs.Results.{sample_value}
use Rattle.demands.proofs.Proper.{Proper}
use Rattle.demands.proofs.ProperLaws.{held_proper}
use Rattle.demands.proofs.Renewed.{renewed_length}
use Rattle.demands.proofs.Fitting.{Fitting}
use Rattle.demands.proofs.Renewed.{held_count_lem}
use Rattle.demands.proofs.Taken.{read_taken}
use Rattle.demands.proofs.ReelBack.{reel_bytes, reel_code, reel_samples, reel_interval, reel_traces, reel_no_cause, reel_again, reel_count}
use Rattle.demands.proofs.RecordBack.{record_length_lem, record_bytes, record_samples, record_traces, record_no_cause, record_newest, record_again}
use Rattle.nearest_theorems.specs.Results.{held_sample, samples_changed, SamplesNearest, NearestRead}
use Rattle.nearest_theorems.proofs.Meanings.{nearest_fitting, nearest_proper}
use Rattle.nearest_theorems.proofs.WrittenWords.{word_in, reel_words_lem}

-- ## What it needs

-- A code, a valid record, and an output that is long enough.
pub record Needs (s : List ℕ) (code : ℕ) (out : List ℕ) : Type 0 where
  pub code_is : is_code code ≡ true
  pub form : form_causes s ≡ Fine
  pub room : reel_length_of s code ≤ length out

module _ (s : List ℕ) (code : ℕ) (out : List ℕ) where
  -- Where its checks find nothing, it has what it needs,
  pub fine_needs : nearest_causes s code (length out) ≡ Fine → Needs s code out
  fine_needs e =
      let a = then_fine (refuse_if (not (is_code code)) 11 0) _ e in
      let b = then_fine (form_causes s) _ a.1 in
      record {
        code_is = not-false (is_code code) (passed _ _ _ a.0);
        form = b.0;
        room = at_most (length out) (reel_length_of s code) 10 (reel_length_of s code) b.1;
      }

  -- and where it has, it is taken.
  pub needs_taken : Needs s code out → nearest_outcome s code out ≡ nearest_end s code out Fine
  needs_taken w =
      let k = reel_length_of s code in
      let room = ap (λ (b : Bool). refuse_if b 10 k) (le-ltb (length out) k w.room) in
      ap (λ (b : Bool). nearest_end s code out (then (refuse_if (not b) 11 0) (then (form_causes s) (refuse_if (ltb (length out) k) 10 k)))) w.code_is
      ∙ ap (λ (c : Check). nearest_end s code out (then c (refuse_if (ltb (length out) k) 10 k))) w.form
      ∙ ap (nearest_end s code out) room

-- ## The reel

-- A valid record, written to the nearest under a code.
module _ (s : List ℕ) (b : Bytes s) (code : ℕ) (c : is_code code ≡ true) (v : form_causes s ≡ Fine) where
  -- What it becomes, and its reel.
  abbrev meant : Meaning
  meant = nearest_meaning code (held_by s)

  abbrev reel : List ℕ
  reel = reel_of code meant

  abbrev n : ℕ
  n = held_samples s

  abbrev i : ℕ
  i = held_interval s

  abbrev t : ℕ
  t = held_count s n

  -- It is proper, and each of its samples has a word.
  proper : Proper n i meant
  proper = nearest_proper code c n i (held_by s) (held_proper s b v)

  fitting : Fitting code meant
  fitting = nearest_fitting code c (held_by s)

  -- It has the record's T.
  count : length meant.traces ≡ t
  count = length-map (held_by s).traces (nearest_trace code) ∙ held_count_lem s

  -- The reel means it.
  means : meaning_of reel ≡ meant
  means = reel_again code n i meant proper c fitting

  traces : traces_of reel ≡ t
  traces = reel_traces code n i meant proper c fitting ∙ count

  samples : samples_of reel ≡ n
  samples = reel_samples code n i meant proper c fitting

  code_is : code_of reel ≡ code
  code_is = reel_code code n i meant proper c fitting

  interval : interval_of reel ≡ i
  interval = reel_interval code n i meant proper c fitting

  -- ## Its record

  -- The record is as long as the record s, renewed.
  size : length (renewed s) ≡ record_length t n
  unfolding fields_in
  size = renewed_length s b v

  nearest_length : length (record_of meant) ≡ length (renewed s)
  nearest_length = record_length_lem n i meant proper ∙ ap (λ (k : ℕ). record_length k n) count ∙ sym size

  -- It is valid, holds what the record became, and has the T and N of the record s.
  nearest_bytes : Bytes (record_of meant)
  nearest_bytes = record_bytes n i meant proper

  pub nearest_valid : form_causes (record_of meant) ≡ Fine
  nearest_valid = record_no_cause n i meant proper

  nearest_newest : IsNewest (record_of meant)
  nearest_newest = record_newest n i meant proper

  pub nearest_held : held_by (record_of meant) ≡ meant
  nearest_held = record_again n i meant proper

  pub nearest_samples_held : held_samples (record_of meant) ≡ n
  nearest_samples_held = record_samples n i meant proper

  pub nearest_count_held : held_count (record_of meant) (held_samples (record_of meant)) ≡ t
  nearest_count_held = ap (held_count (record_of meant)) nearest_samples_held ∙ record_traces n i meant proper ∙ count

  -- Reading the reel into an output long enough gives that record.
  read_outcome_lem : (out : List ℕ) → length (renewed s) ≤ length out
      → read_outcome reel out ≡ record { said = taken (t ∷ n ∷ length (renewed s) ∷ 0 ∷ []); bytes = record_of meant ++ drop (length (renewed s)) out }
  read_outcome_lem out h = read_taken reel out (reel_no_cause code n i meant proper c fitting) (rw long h) ∙ ap₂ made said bytes
    where
      long : record_length_of reel ≡ length (renewed s)
      long = ap₂ record_length traces samples ∙ sym size

      made : Said → List ℕ → Outcome
      made x y = record { said = x; bytes = y }

      said : taken (traces_of reel ∷ samples_of reel ∷ record_length_of reel ∷ not_normal_of reel ∷ []) ≡ taken (t ∷ n ∷ length (renewed s) ∷ 0 ∷ [])
      said = ap taken (cons_eq traces (cons_eq samples (cons_eq long (cons_eq (reel_count code n i meant proper c fitting) refl))))

      bytes : reel_record reel ++ drop (record_length_of reel) out ≡ record_of meant ++ drop (length (renewed s)) out
      bytes = ap₂ (λ (x : List ℕ) (k : ℕ). x ++ drop k out) (ap record_of means) long

  -- It stands at the output's front.
  pub nearest_record : (out : List ℕ) → length (renewed s) ≤ length out → take (length (renewed s)) (read_outcome reel out).bytes ≡ record_of meant
  nearest_record out h =
      ap (λ (o : Outcome). take (length (renewed s)) o.bytes) (read_outcome_lem out h) ∙ take_at (record_of meant) (drop (length (renewed s)) out) (length (renewed s)) nearest_length

  -- LAW. The reel is read, and its record is valid and holds what it means.
  pub nearest_reads : (out : List ℕ) → length (renewed s) ≤ length out → NearestRead s code t n reel out
  nearest_reads out h =
      record {
        bytes = reel_bytes code n i meant proper c fitting;
        no_cause = reel_no_cause code n i meant proper c fitting;
        means = means;
        read = read_outcome_lem out h;
        holds =
            rw (nearest_record out h)
            (record {
              bytes = nearest_bytes;
              valid = nearest_valid;
              newest = nearest_newest;
              holds = nearest_held ∙ sym means;
              traces = nearest_count_held;
              samples = nearest_samples_held;
            });
      }

  -- ## Sample by sample

  -- Each trace of the reel is that of the record, its samples the nearest.
  each_trace : (k : ℕ) → k < t → trace_meaning reel code n i (first_trace + k * stride n (sample_bytes code)) ≡ nearest_trace code (held_trace_in tag04 s n (trace_place s k))
  unfolding meaning_by held_by_in
  each_trace k l =
      let held : ℕ → Trace = λ j. held_trace_in tag04 s n (trace_place s j) in
      let all : walk (trace_meaning reel code n i) (stride n (sample_bytes code)) t first_trace ≡ walk (λ j. nearest_trace code (held j)) 1 t 0 =
      ap (λ (m : Meaning). m.traces) (rw (traces, code_is, samples, interval) at means) ∙ map_walk (nearest_trace code) held 1 t 0 in
      walk_each (trace_meaning reel code n i) (λ j. nearest_trace code (held j)) (stride n (sample_bytes code)) 1 t t first_trace 0 all k l ∙ ap (λ (j : ℕ). nearest_trace code (held j)) (step_is k)

  -- LAW. Sample j of trace k has the nearest value to that of the record's.
  each_sample : (k j : ℕ) → k < t → j < n → sample_value reel k j ≡ nearest_value code (held_sample s k j)
  unfolding trace_meaning held_trace_in held_values_in
  each_sample k j l m =
      let at = first_trace + k * stride n (sample_bytes code) in
      let word : ℕ → ℤ = λ p. exact_value code (bytes_at reel p word_length) in
      let held : ℕ → ℤ = λ j. held_sample s k j in
      let all : walk word (sample_bytes code) n (at + trace_header) ≡ walk (λ j. nearest_value code (held j)) 1 n 0 =
      ap (λ (x : Trace). x.values) (each_trace k l) ∙ map_walk (nearest_value code) held 1 n 0 in
      rw (code_is, samples) (walk_each word (λ j. nearest_value code (held j)) (sample_bytes code) 1 n n (at + trace_header) 0 all j m ∙ ap (λ (x : ℕ). nearest_value code (held x)) (step_is j))

  -- LAW. Its word is that of this value.
  each_word : (k j : ℕ) → k < t → j < n → word_of code (nearest_value code (held_sample s k j)) ≡ word_in reel code (sample_at reel k j)
  unfolding held_by_in held_trace_in held_values_in
  each_word k j l m =
      let w = sample_bytes code in
      let at = first_trace + k * stride n w in
      let words : ℕ → List Written = λ p. walk (word_in reel code) w n (p + trace_header) in
      let written : Trace → List Written = λ x. map (word_of code) x.values in
      let trace : ℕ → Trace = λ k. held_trace_in tag04 s n (trace_place s k) in
      let held : ℕ → List Written = λ k. written (nearest_trace code (trace k)) in
      let nearest : ℕ → Written = λ j. word_of code (nearest_value code (held_sample s k j)) in
      let all : walk words (stride n w) t first_trace ≡ walk held 1 t 0 =
      ap (λ (x : ℕ). walk words (stride n w) x first_trace) (sym count) ∙ reel_words_lem code c n i meant proper fitting
      ∙ ap (map written) (map_walk (nearest_trace code) trace 1 t 0)
      ∙ map_walk written (λ k. nearest_trace code (trace k)) 1 t 0 in
      let one : walk (word_in reel code) w n (at + trace_header) ≡ walk nearest 1 n 0 =
      walk_each words held (stride n w) 1 t t first_trace 0 all k l ∙ ap held (step_is k)
      ∙ ap (map (word_of code)) (map_walk (nearest_value code) (held_sample s k) 1 n 0)
      ∙ map_walk (word_of code) (λ j. nearest_value code (held_sample s k j)) 1 n 0 in
      rw (code_is, samples) (sym (walk_each (word_in reel code) nearest w 1 n n (at + trace_header) 0 one j m ∙ ap nearest (step_is j)))

  -- A walk by ones from 0 on comes to each number.
  by_ones : (j : ℕ) → j ≡ 0 + j * 1
  by_ones j = omega arith

  -- The changes of each trace are those that its samples show.
  trace_counted : (k : ℕ) → k < t → trace_changes code (held_trace_in tag04 s n (trace_place s k)) ≡ sum (walk (λ j. differs (held_sample s k j) (sample_value reel k j)) 1 n 0)
  unfolding held_trace_in held_values_in
  trace_counted k l =
      let shown : ℕ → ℕ = λ j. differs (held_sample s k j) (sample_value reel k j) in
      let change : ℕ → ℕ = λ j. changes code (held_sample s k j) in
      ap sum
      (map_walk (changes code) (held_sample s k) 1 n 0
      ∙ walk_same change shown 1 1 n 0 0
      (λ j m. ap change (sym (by_ones j)) ∙ ap (differs (held_sample s k j)) (sym (each_sample k j l m)) ∙ ap shown (by_ones j)))

  -- LAW. The count is that of the samples whose value in the reel is another than in the record.
  counted : meaning_changes code (held_by s) ≡ samples_changed s reel t n
  unfolding held_by_in
  counted =
      let shown : ℕ → ℕ = λ k. sum (walk (λ j. differs (held_sample s k j) (sample_value reel k j)) 1 n 0) in
      let trace : ℕ → Trace = λ k. held_trace_in tag04 s n (trace_place s k) in
      let change : ℕ → ℕ = λ k. trace_changes code (trace k) in
      ap sum
      (map_walk (trace_changes code) trace 1 t 0
      ∙ walk_same change shown 1 1 t 0 0 (λ k l. ap change (sym (by_ones k)) ∙ trace_counted k l ∙ ap shown (by_ones k)))

  -- LAW. So the reel is, sample by sample, the nearest to the record.
  pub nearest_by_sample : SamplesNearest s code t n (meaning_changes code (held_by s)) reel
  nearest_by_sample =
      record {
        code_is = code_is;
        traces = traces;
        samples = samples;
        value = each_sample;
        near = λ k j l m. (nearest_means code (held_sample s k j) (sample_value reel k j) c).0 (each_sample k j l m);
        word = each_word;
        count = counted;
      }
