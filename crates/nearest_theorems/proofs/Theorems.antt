-- # Nearest writing
--
-- Document 02, CR 5: "Beside exact writing, add writing where each sample becomes the nearest value of the target code". Its clauses on whole
-- records stand over the theorems that say them, and demand 1's over those that say it of this call. What the nearest value of a code is,
-- "Every other word of that code that has a value is at least as far away" and the sentences after it, is said of single values:
-- `NearestTheorems` of `format_theorems`.
--
-- The theorems are over the outcome that the contract of the call gives, `nearest_outcome`. "A record or a written reel is the output's first
-- bytes, as many as the length returned" (document 01).
--
-- - `nearest_ends`, `nearest_refused`, `nearest_taken`, `nearest_keeps`, `nearest_rest`: demand 1 for the call; `no_fourteen`: 14 doesn't
--   occur; `no_change_beside`: beside a refusal the count is 0; `nearest_writes`: a valid record is written whatever its samples.
-- - `nearest_written`: where it is taken, the numbers returned are the record's T and N, the reel's length and the count, and the output's
--   first bytes are the reel of what the record holds, each sample the nearest value of the code.
-- - `nearest_samples`: that is, sample j of trace k of the reel has the nearest value to that of the record's, by CR 5's own sentences, and the
--   word that exact writing gives for it; and the count is the number of samples that have other values in the reel than in the record;
--   `differs_0` and `differs_1` say when two values count.
-- - `count_bounds`: the count is at most T × N.
-- - `count_zero`: it is 0 exactly when exact writing of the same record is taken; `zero_same`: then both leave the same bytes.
-- - `exact_is_nearest`: whenever exact writing is taken, nearest writing is, with the count 0 and the same output.
-- - `nearest_read`: the reel is read without refusal, and its record is valid and holds what the record held, each sample the nearest.
-- - `nearest_back`: where the count is 0, reading the reel gives the record again, an earlier one in the newest form (`newest_nearest_back`: one
--   in that form itself); `back_only`: it does so in no other case.
-- - `nearest_twice`: writing to the nearest once more, under the same code, what was so written and read gives the count 0 and the same reel.
-- - `nearest_same`: a record in the earlier form gives the same reel as in the newest (document 02, CR 8). What is said to come back comes back
--   in the newest form, `renewed`.
--
-- Where a theorem reads a reel or looks at its samples, each byte of the record is below 256 and the outputs are long enough; nothing else is
-- assumed. Every record, code and output is meant.
use mathlib.Core.Path.{◌≡◌, refl, sym, ap, ap₂, ◌∙◌, subst}
use mathlib.Core.List.{List, [], ◌∷◌, ◌++◌}
use mathlib.Core.Logic.{◌⊎◌, ⊎_elim}
use mathlib.Core.Bool.{true, not}
use Prim.Native.Nat.{ℕ, ◌+◌, ◌*◌, ◌≤◌}
use native.Mathlib.Omega.{arith}
use lib.Dec.{ltb}
use lib.ListN.{length, take, drop}
use lib.Seq.{take_at}
use lib.IntN.{ℤ}
use Rattle.numbers.specs.Outcome.{Said, taken, refused, Outcome}
use Rattle.numbers.specs.Iff.{Iff}
use Rattle.numbers.specs.Terms.{Among, Bytes}
use Rattle.numbers.specs.Cause.{Check}
use Rattle.numbers.specs.Cause.{refuse_if, then}
use Rattle.numbers.specs.Cause.{Fine, Refused}
use Rattle.numbers.proofs.WalkLaws.{cons_eq}
use Rattle.numbers.proofs.SaidLaws.{says_refused, says_fine, says_either, refused_by, taken_by, keeps_rest}
use Rattle.formats.specs.Codes.{is_code, sample_bytes}
use Rattle.reel.specs.Meaning.{Meaning}
use Rattle.record.specs.Record.{record_of}
use Rattle.record.specs.Form.{held_samples, held_count, form_causes}
use Rattle.record.specs.Held.{held_by, IsNewest, renewed}
use Rattle.demands.proofs.Renewed.{renewed_valid, renewed_holds, renewed_samples, renewed_traces}
use Rattle.read_reel.specs.Reading.{read_outcome}
use Rattle.write_reel.specs.Reel.{reel_of, reel_length}
use Rattle.write_reel.specs.Writing.{reel_length_of, written_numbers, write_outcome}
use Rattle.formats.specs.Nearest.{differs}
use Rattle.write_reel.specs.Nearest.{nearest_meaning, meaning_changes, nearest_numbers, nearest_causes, nearest_end, nearest_outcome}
use Rattle.demands.specs.NotNormal.{count_said}
use Rattle.demands.proofs.Fitting.{Fitting, fit_is}
use Rattle.demands.proofs.Taken.{Writable, written_needs, write_taken}
use Rattle.demands.proofs.Demand2.{read_back, newest_back}
use Rattle.nearest_theorems.specs.NearestTable.{NearestRow}
use Rattle.nearest_theorems.specs.Results.{NearestWritten, SamplesNearest, NearestRead}
use Rattle.nearest_theorems.proofs.Refusals.{exact_nearest, row_number}
use Rattle.formats.proofs.DifferLaws.{same_differs, other_differs}
use Rattle.nearest_theorems.proofs.Meanings.{nearest_size, changes_bound, unchanged_fitting, fitting_same, nearest_fitting, nearest_unchanged, meaning_again}
use Rattle.nearest_theorems.proofs.Reels.{Needs, fine_needs, needs_taken, nearest_valid, nearest_held, nearest_samples_held, nearest_count_held, nearest_record, nearest_reads, nearest_by_sample}

-- ## Demand 1

module _ (s : List ℕ) (code : ℕ) (out : List ℕ) where
  -- What nearest writing says, by what its checks answer;
  abbrev nearest_says : Check → Said
  nearest_says c = (nearest_end s code out c).said

  -- and its checks.
  abbrev nearest_checks : Check
  nearest_checks = nearest_causes s code (length out)

  -- Where it is taken, its checks find nothing, it has what it needs, and the numbers returned are these.
  checked : (numbers : List ℕ) → (nearest_outcome s code out).said ≡ taken numbers → nearest_checks ≡ Fine
  checked = says_fine nearest_says (nearest_numbers s code) refl (λ n p. refl) nearest_checks

  needs : (numbers : List ℕ) → (nearest_outcome s code out).said ≡ taken numbers → Needs s code out
  needs numbers e = fine_needs s code out (checked numbers e)

  numbers_are : (numbers : List ℕ) → (nearest_outcome s code out).said ≡ taken numbers → taken (nearest_numbers s code) ≡ taken numbers
  numbers_are numbers e = sym (ap nearest_says (checked numbers e)) ∙ e

  -- THEOREM. "Every call comes to a defined end on every input: no access outside the lent buffers and no number that loses bits": nearest
  -- writing is taken with T, N, the reel's length and the count, or refused by a number with a place. The rest of the clause Rattle proves
  -- of each function.
  -- Alone it rules out nothing.
  pub nearest_ends : ((nearest_outcome s code out).said ≡ taken (nearest_numbers s code))
      ⊎ ((number : ℕ) × (place : ℕ) × ((nearest_outcome s code out).said ≡ refused number place))
  nearest_ends = says_either nearest_says (nearest_numbers s code) refl (λ n p. refl) nearest_checks

  -- THEOREM. "each refusal has the number and place that document 01 sets, and is given in just the cases set there".
  -- Rules out a call that declines every record, one that writes what is no valid record, and 10 before 11, 12 or 13.
  pub nearest_refused : (number place : ℕ) → Iff ((nearest_outcome s code out).said ≡ refused number place) (NearestRow s code (length out) number place)
  nearest_refused =
      refused_by nearest_says (nearest_numbers s code) refl (λ n p. refl) (NearestRow s code (length out)) nearest_checks (exact_nearest s code (length out))

  -- THEOREM. "in just the cases set there": it is taken, with T, N, the reel's length and the count, exactly when no row applies.
  -- Rules out a call that declines a record because a sample has no word under the code, and one whose T, length or count is invented.
  pub nearest_taken : Iff ((nearest_outcome s code out).said ≡ taken (nearest_numbers s code)) ((number place : ℕ) → ¬ (NearestRow s code (length out) number place))
  nearest_taken =
      taken_by nearest_says (nearest_numbers s code) refl (λ n p. refl) (NearestRow s code (length out)) nearest_checks (exact_nearest s code (length out))

  -- THEOREM. "number 14 doesn't occur in this call."
  -- Rules out a call that refuses a sample because it is beyond the range.
  pub no_fourteen : (place : ℕ) → ¬ ((nearest_outcome s code out).said ≡ refused 14 place)
  no_fourteen place e =
      let n : Among 14 (10 ∷ 11 ∷ 12 ∷ 13 ∷ []) = row_number ((nearest_refused 14 place).0 e) in
      ⊎_elim (λ (z : ◌≡◌ {A = ℕ} 14 10). omega arith)
      (⊎_elim (λ (z : ◌≡◌ {A = ℕ} 14 11). omega arith)
      (⊎_elim (λ (z : ◌≡◌ {A = ℕ} 14 12). omega arith) (⊎_elim (λ (z : ◌≡◌ {A = ℕ} 14 13). omega arith) (λ z. z)))) n

  -- THEOREM. "beside a refusal the count is 0".
  -- Alone it rules out nothing: a refusal says no count.
  pub no_change_beside : (number place : ℕ) → (nearest_outcome s code out).said ≡ refused number place → count_said (nearest_outcome s code out).said ≡ 0
  no_change_beside number place e = ap count_said e

  -- THEOREM. "Beside exact writing, add writing where each sample becomes the nearest value of the target code": a valid record is written so,
  -- whatever its samples, exactly when the code is one of the codes and the output is long enough.
  -- Rules out a call that declines a record because a sample has no word under the code.
  pub nearest_writes : form_causes s ≡ Fine
      → Iff ((nearest_outcome s code out).said ≡ taken (nearest_numbers s code))
      ((is_code code ≡ true) × (3600 + held_count s (held_samples s) * (240 + held_samples s * sample_bytes code) ≤ length out))
  nearest_writes v = (
    λ e. let w = needs (nearest_numbers s code) e in (w.code_is, w.room),
    λ h. ap (λ (o : Outcome). o.said) (needs_taken s code out (record { code_is = h.0; form = v; room = h.1 })),
  )

  -- THEOREM. "a refused call changes no byte of its output buffer".
  -- Rules out a call that writes traces before it has found the whole record valid.
  pub nearest_keeps : (number place : ℕ) → (nearest_outcome s code out).said ≡ refused number place → (nearest_outcome s code out).bytes ≡ out
  nearest_keeps number place e =
      ap (λ (c : Check). (nearest_end s code out c).bytes)
      ((says_refused nearest_says (nearest_numbers s code) refl (λ n p. refl) nearest_checks number place).0 e)

  -- THEOREM. "The rest of a longer output buffer keeps its content" (document 01), and the output its length.
  -- Rules out a call that writes more than the reel.
  pub nearest_rest : (t n l c : ℕ) → (nearest_outcome s code out).said ≡ taken (t ∷ n ∷ l ∷ c ∷ [])
      → (length (nearest_outcome s code out).bytes ≡ length out) × (drop l (nearest_outcome s code out).bytes ≡ drop l out)
  nearest_rest t n l c e =
      let same = numbers_are (t ∷ n ∷ l ∷ c ∷ []) e in
      let is : reel_length_of s code ≡ l = cc in
      subst (λ (x : ℕ). (length (nearest_outcome s code out).bytes ≡ length out) × (drop x (nearest_outcome s code out).bytes ≡ drop x out)) is
      (keeps_rest (nearest_end s code out) (reel_of code (nearest_meaning code (held_by s))) out (reel_length_of s code) nearest_checks refl (checked (t ∷ n ∷ l ∷ c ∷ []) e) (nearest_size s code) (needs (t ∷ n ∷ l ∷ c ∷ []) e).room)

  -- ## What is written

  -- THEOREM. "add writing where each sample becomes the nearest value of the target code": where it is taken, T, N, the reel's length and the
  -- count are returned, and the output's first bytes are the reel of what the record holds, each sample the nearest value.
  -- Rules out a call that writes nothing and says taken, one that converts the first trace and copies it for the rest, one that changes a
  -- header, and one whose T, length or count is invented.
  pub nearest_written : (t n l c : ℕ) → (nearest_outcome s code out).said ≡ taken (t ∷ n ∷ l ∷ c ∷ []) → NearestWritten s code out t n l c
  nearest_written t n l c e =
      let w = needs (t ∷ n ∷ l ∷ c ∷ []) e in
      let reel = reel_of code (nearest_meaning code (held_by s)) in
      let o : nearest_outcome s code out ≡ nearest_end s code out Fine = needs_taken s code out w in
      let same = numbers_are (t ∷ n ∷ l ∷ c ∷ []) e in
      let is : reel_length_of s code ≡ l = cc in
      let traces : held_count s (held_samples s) ≡ t = cc in
      let samples : held_samples s ≡ n = cc in
      let whole : length reel ≡ l = nearest_size s code ∙ is in
      record {
        valid = w.form;
        traces = sym traces;
        samples = sym samples;
        size = sym is ∙ ap₂ (reel_length code) traces samples;
        count = cc;
        content = ap (λ (x : Outcome). take l x.bytes) o ∙ take_at reel _ l whole;
        whole = whole;
        rest = (nearest_rest t n l c e).1;
      }

  -- THEOREM. "each sample becomes the nearest value of the target code" and "The answer counts the samples whose value changed": sample by
  -- sample, by the bytes of the reel that was written.
  -- Rules out a call that rounds toward zero, one that takes the farther from zero of two equally near, one that gives the record's first
  -- trace for all, one that writes a word that isn't normal, a larger gain than needed or -0, and one that counts traces.
  pub nearest_samples : (t n l c : ℕ) → Bytes s → (nearest_outcome s code out).said ≡ taken (t ∷ n ∷ l ∷ c ∷ [])
      → SamplesNearest s code t n c (take l (nearest_outcome s code out).bytes)
  nearest_samples t n l c b e =
      let w = needs (t ∷ n ∷ l ∷ c ∷ []) e in
      let k = nearest_written t n l c e in
      rw (k.content, k.traces, k.samples, k.count) (nearest_by_sample s b code w.code_is w.form)

  -- ## The count

  -- THEOREM. "The answer counts the samples whose value changed": there are T × N samples, and the count is no more.
  -- Rules out a count of a sample twice.
  pub count_bounds : (t n l c : ℕ) → (nearest_outcome s code out).said ≡ taken (t ∷ n ∷ l ∷ c ∷ []) → c ≤ t * n
  count_bounds t n l c e =
      let k = nearest_written t n l c e in
      rw (k.traces, k.samples, k.count) (changes_bound s code)

  -- Where none changes, each sample fits the code and exact writing has what it needs.
  exact_needs : Needs s code out → meaning_changes code (held_by s) ≡ 0 → Writable s code out
  exact_needs w e =
      record { code_is = w.code_is; form = w.form; fit = (fit_is s code).1 ((unchanged_fitting code w.code_is (held_by s)).0 e); room = w.room }

  -- And where exact writing has what it needs, none changes and nearest writing has it too.
  no_change : Writable s code out → meaning_changes code (held_by s) ≡ 0
  no_change w = (unchanged_fitting code w.code_is (held_by s)).1 ((fit_is s code).0 w.fit)

  also_needs : Writable s code out → Needs s code out
  also_needs w = record { code_is = w.code_is; form = w.form; room = w.room }

  -- Then both write the same.
  same_end : Writable s code out → nearest_outcome s code out ≡ record { said = taken (nearest_numbers s code); bytes = (write_outcome s code out).bytes }
  same_end w =
      needs_taken s code out (also_needs w)
      ∙ ap (λ (m : Meaning). record { said = taken (nearest_numbers s code); bytes = reel_of code m ++ drop (reel_length_of s code) out }) (fitting_same code w.code_is (held_by s) ((fit_is s code).0 w.fit))
      ∙ ap (λ (o : Outcome). record { said = taken (nearest_numbers s code); bytes = o.bytes }) (sym (write_taken s code out w))

  -- THEOREM. "The answer counts the samples whose value changed", "Beside exact writing": where nearest writing is taken, the count is 0
  -- exactly when exact writing of the same record under the same code into the same output is taken, with the same T, N and length.
  -- Rules out a call that always counts 0, and one that counts a sample which the code holds exactly.
  pub count_zero : (t n l c : ℕ) → (nearest_outcome s code out).said ≡ taken (t ∷ n ∷ l ∷ c ∷ [])
      → Iff (c ≡ 0) ((write_outcome s code out).said ≡ taken (t ∷ n ∷ l ∷ []))
  count_zero t n l c e =
      let w = needs (t ∷ n ∷ l ∷ c ∷ []) e in
      let k = nearest_written t n l c e in
      let same : taken (written_numbers s code) ≡ taken (t ∷ n ∷ l ∷ []) =
      ap taken (cons_eq (sym k.traces) (cons_eq (sym k.samples) (cons_eq (ap₂ (reel_length code) (sym k.traces) (sym k.samples) ∙ sym k.size) refl))) in (
        λ z. ap (λ (o : Outcome). o.said) (write_taken s code out (exact_needs w (sym k.count ∙ z))) ∙ same,
        λ q. k.count ∙ no_change (written_needs s code out (t ∷ n ∷ l ∷ []) q),
      )

  -- THEOREM. And then both calls leave the same bytes in the output.
  -- Rules out a call that writes another word for a sample that doesn't change.
  pub zero_same : (t n l : ℕ) → (nearest_outcome s code out).said ≡ taken (t ∷ n ∷ l ∷ 0 ∷ []) → (nearest_outcome s code out).bytes ≡ (write_outcome s code out).bytes
  zero_same t n l e =
      let k = nearest_written t n l 0 e in
      ap (λ (o : Outcome). o.bytes) (same_end (exact_needs (needs (t ∷ n ∷ l ∷ 0 ∷ []) e) (sym k.count)))

  -- THEOREM. "Beside exact writing": whenever exact writing is taken, nearest writing is, with the same T, N and length, the count 0, and the
  -- same output.
  -- Rules out a call that declines what exact writing takes, and one that rounds a sample which the code holds exactly.
  pub exact_is_nearest : (t n l : ℕ) → (write_outcome s code out).said ≡ taken (t ∷ n ∷ l ∷ [])
      → nearest_outcome s code out ≡ record { said = taken (t ∷ n ∷ l ∷ 0 ∷ []); bytes = (write_outcome s code out).bytes }
  exact_is_nearest t n l e =
      let w = written_needs s code out (t ∷ n ∷ l ∷ []) e in
      let same : taken (written_numbers s code) ≡ taken (t ∷ n ∷ l ∷ []) = ap (λ (o : Outcome). o.said) (sym (write_taken s code out w)) ∙ e in
      let traces : held_count s (held_samples s) ≡ t = cc in
      let samples : held_samples s ≡ n = cc in
      let size : reel_length_of s code ≡ l = cc in
      same_end w
      ∙ ap (λ (x : List ℕ). record { said = taken x; bytes = (write_outcome s code out).bytes }) (cons_eq traces (cons_eq samples (cons_eq size (cons_eq (no_change w) refl))))

  -- ## Reading what was written

  -- THEOREM. "each sample becomes the nearest value of the target code": the reel that was written is read without refusal into every output
  -- that is long enough; it means what the record holds, each sample the nearest value, and its record is valid and holds that.
  -- Rules out a call that writes an infinity for a value beyond the range, and one that changes cards or a header.
  pub nearest_read : (out₂ : List ℕ) (t n l c : ℕ) → Bytes s → (nearest_outcome s code out).said ≡ taken (t ∷ n ∷ l ∷ c ∷ []) → length (renewed s) ≤ length out₂
      → NearestRead s code t n (take l (nearest_outcome s code out).bytes) out₂
  nearest_read out₂ t n l c b e h =
      let w = needs (t ∷ n ∷ l ∷ c ∷ []) e in
      let k = nearest_written t n l c e in
      rw (k.content, k.traces, k.samples) (nearest_reads s b code w.code_is w.form out₂ h)

  -- THEOREM. "The record comes back unchanged when the count is 0": reading the reel into an output long enough gives it again, byte for byte
  -- and with the same T and N, an earlier one in the newest form.
  -- Rules out a count of 0 beside a sample that changed.
  pub nearest_back : (out₂ : List ℕ) (t n l : ℕ) → Bytes s → (nearest_outcome s code out).said ≡ taken (t ∷ n ∷ l ∷ 0 ∷ []) → length (renewed s) ≤ length out₂
      → read_outcome (take l (nearest_outcome s code out).bytes) out₂ ≡ record { said = taken (t ∷ n ∷ length (renewed s) ∷ 0 ∷ []); bytes = renewed s ++ drop (length (renewed s)) out₂ }
  nearest_back out₂ t n l b e h =
      ap (λ (x : List ℕ). read_outcome (take l x) out₂) (zero_same t n l e) ∙ read_back s code out out₂ t n l b ((count_zero t n l 0 e).0 refl) h

  -- THEOREM. So a record in the newest form comes back itself, "unchanged when the count is 0".
  -- Rules out what `nearest_back` does.
  pub newest_nearest_back : (out₂ : List ℕ) (t n l : ℕ) → Bytes s → IsNewest s → (nearest_outcome s code out).said ≡ taken (t ∷ n ∷ l ∷ 0 ∷ []) → length s ≤ length out₂
      → read_outcome (take l (nearest_outcome s code out).bytes) out₂ ≡ record { said = taken (t ∷ n ∷ length s ∷ 0 ∷ []); bytes = s ++ drop (length s) out₂ }
  newest_nearest_back out₂ t n l b new e h =
      ap (λ (x : List ℕ). read_outcome (take l x) out₂) (zero_same t n l e) ∙ newest_back s code out out₂ t n l b new ((count_zero t n l 0 e).0 refl) h

  -- THEOREM. It comes back unchanged in no other case.
  -- Rules out a count above 0 where no sample changed.
  pub back_only : (out₂ : List ℕ) (t n l c : ℕ) → Bytes s → (nearest_outcome s code out).said ≡ taken (t ∷ n ∷ l ∷ c ∷ []) → length (renewed s) ≤ length out₂
      → take (length (renewed s)) (read_outcome (take l (nearest_outcome s code out).bytes) out₂).bytes ≡ renewed s → c ≡ 0
  back_only out₂ t n l c b e h q =
      let w = needs (t ∷ n ∷ l ∷ c ∷ []) e in
      let k = nearest_written t n l c e in
      let x = nearest_record s b code w.code_is w.form out₂ h in
      let own : record_of (nearest_meaning code (held_by s)) ≡ renewed s = sym x ∙ ap (λ (r : List ℕ). take (length (renewed s)) (read_outcome r out₂).bytes) (sym k.content) ∙ q in
      let same : nearest_meaning code (held_by s) ≡ held_by s = sym (nearest_held s b code w.code_is w.form) ∙ ap held_by own ∙ renewed_holds s b w.form in
      k.count ∙ (unchanged_fitting code w.code_is (held_by s)).1 (subst (Fitting code) same (nearest_fitting code w.code_is (held_by s)))

  -- THEOREM. Writing again what nearest writing wrote changes nothing: the reel is read, and its record is written to the nearest under the
  -- same code with the same T, N and length, the count 0, and the same reel.
  -- Rules out a call that moves a sample further each time.
  pub nearest_twice : (out₂ out₃ : List ℕ) (t n l c : ℕ) → Bytes s → (nearest_outcome s code out).said ≡ taken (t ∷ n ∷ l ∷ c ∷ []) → length (renewed s) ≤ length out₂ → l ≤ length out₃
      → let reel = take l (nearest_outcome s code out).bytes in
      let again = take (length (renewed s)) (read_outcome reel out₂).bytes in
      nearest_outcome again code out₃ ≡ record { said = taken (t ∷ n ∷ l ∷ 0 ∷ []); bytes = reel ++ drop l out₃ }
  nearest_twice out₂ out₃ t n l c b e h room =
      let w = needs (t ∷ n ∷ l ∷ c ∷ []) e in
      let g = w.code_is in
      let k = nearest_written t n l c e in
      let r = record_of (nearest_meaning code (held_by s)) in
      let is = ap (λ (x : List ℕ). take (length (renewed s)) (read_outcome x out₂).bytes) k.content ∙ nearest_record s b code g w.form out₂ h in
      let traces = nearest_count_held s b code g w.form ∙ sym k.traces in
      let samples = nearest_samples_held s b code g w.form ∙ sym k.samples in
      let size : reel_length_of r code ≡ l = ap₂ (reel_length code) traces samples ∙ sym k.size in
      let held = nearest_held s b code g w.form in
      let changed = ap (meaning_changes code) held ∙ nearest_unchanged code g (held_by s) in
      let reel = ap (λ (m : Meaning). reel_of code (nearest_meaning code m)) held ∙ ap (reel_of code) (meaning_again code g (held_by s)) ∙ sym k.content in
      ap (λ (x : List ℕ). nearest_outcome x code out₃) is
      ∙ needs_taken r code out₃ (record { code_is = g; form = nearest_valid s b code g w.form; room = rw size room })
      ∙ ap₂ (λ (x y : List ℕ). record { said = taken x; bytes = y }) (cons_eq traces (cons_eq samples (cons_eq size (cons_eq changed refl))))
      (ap₂ (λ (x : List ℕ) (y : ℕ). x ++ drop y out₃) reel size)

  -- ## The earlier form

  -- THEOREM. "A trace with the earlier single field of 6,001 to 8,000 samples stays valid in every call that takes a record, each trace
  -- judged by itself, and gives the same reel" (document 02, CR 8): to the nearest a valid record is written as the same reel as that record in
  -- the newest form, with the same count, or refused alike.
  -- Rules out a call that counts, or loses, a sample where a field ends.
  pub nearest_same : Bytes s → form_causes s ≡ Fine → nearest_outcome (renewed s) code out ≡ nearest_outcome s code out
  nearest_same b v = ends (nearest_causes (renewed s) code (length out)) ∙ ap (nearest_end s code out) checks
    where
      size : reel_length_of (renewed s) code ≡ reel_length_of s code
      size = ap₂ (reel_length code) (renewed_traces s b v) (renewed_samples s b v)

      numbers : nearest_numbers (renewed s) code ≡ nearest_numbers s code
      numbers = cons_eq (renewed_traces s b v) (cons_eq (renewed_samples s b v) (cons_eq size (cons_eq (ap (meaning_changes code) (renewed_holds s b v)) refl)))

      ends : (c : Check) → nearest_end (renewed s) code out c ≡ nearest_end s code out c
      ends Fine =
          ap₂ (λ (x : List ℕ) (y : List ℕ). record { said = taken x; bytes = y }) numbers
          (ap₂ (λ (m : Meaning) (y : ℕ). reel_of code (nearest_meaning code m) ++ drop y out) (renewed_holds s b v) size)
      ends (Refused number place) = refl

      checks : nearest_causes (renewed s) code (length out) ≡ nearest_causes s code (length out)
      checks =
          ap₂ (λ (c : Check) (y : ℕ). then (refuse_if (not (is_code code)) 11 0) (then c (refuse_if (ltb (length out) y) 10 y))) (renewed_valid s b v ∙ sym v) size

-- ## When two values count

-- THEOREM. "The answer counts the samples whose value changed": `differs` is 0 for two values that are the same, and for no others,
-- Alone it rules out nothing: it says what `nearest_samples` counts.
pub differs_0 : (v w : ℤ) → Iff (differs v w ≡ 0) (v ≡ w)
differs_0 = same_differs

-- THEOREM. and 1 for two that are not, and for no others.
-- Alone it rules out nothing.
pub differs_1 : (v w : ℤ) → Iff (differs v w ≡ 1) (¬ (v ≡ w))
differs_1 = other_differs
