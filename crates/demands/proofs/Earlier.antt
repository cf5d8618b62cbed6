-- # Records in the earlier form
--
-- Document 02 (CR 8): "A trace with the earlier single field of 6,001 to 8,000 samples stays valid in every call that takes a record, each
-- trace judged by itself, and gives the same reel. Reading always gives the new form, and wherever a written record is said to come back, an
-- earlier one comes back in that form."
--
-- - `earlier_trace`, `earlier_next`: such a trace, its field and its pairs where they stood before, is right, whatever form the others have, and
--   the next stands where it stood, 186 + 6N bytes on. (A trace of at most 6,000 samples has one field in either form.)
-- - `earlier_places`, `earlier_valid`: where all traces are such traces, each stands where it stood, and the record is valid.
-- - `same_reel`, `same_output`: a valid record is written as the same reel as that record in the newest form.
--
-- That reading gives the newest form is `read_valid`, in `Determined`; how an earlier record comes back, `read_back` and `round_trip`, in
-- `Demand2`, with `renewed` of `Renewed`.
use mathlib.Core.Path.{◌≡◌, refl, sym, ap, ap₂, ◌∙◌, subst}
use mathlib.Core.Logic.{◌⊎◌, inl, inr, ⊎_elim}
use mathlib.Core.List.{List, ◌++◌}
use Prim.Native.Nat.{ℕ, zero, suc, ◌+◌, ◌*◌, ◌≤◌, ◌<◌}
use native.Mathlib.Nat.{zero-mul, suc-mul}
use native.Mathlib.Numerals.{add-one}
use native.Mathlib.Omega.{arith}
use borrow.Author.Tests.{lt-ltb, le-ltb, le-leb, eq-eqb}
use lib.ListN.{length, drop}
use Rattle.numbers.specs.Walk.{bytes_at}
use Rattle.numbers.specs.BigEndian.{number}
use Rattle.numbers.specs.Outcome.{taken, Outcome}
use Rattle.numbers.specs.Iff.{Iff}
use Rattle.numbers.specs.Terms.{Bytes}
use Rattle.numbers.specs.Cause.{Fine}
use Rattle.numbers.proofs.SignLaws.{below_or}
use Rattle.numbers.proofs.WalkLaws.{cons_eq}
use Rattle.fields.specs.Fields.{fields_in, field_count}
use Rattle.fields.proofs.FieldsLaws.{quotient_low, fields_one}
use Rattle.reel.specs.Layout.{number16}
use Rattle.reel.specs.Meaning.{Meaning}
use Rattle.record.specs.Kind.{tag04}
use Rattle.record.specs.Form.{held_samples, behind_trace_in, trace_place_in, held_count, form_causes}
use Rattle.record.specs.Held.{held_by, renewed}
use Rattle.record.proofs.FormLaws.{share_some, place_next}
use Rattle.write_reel.specs.Reel.{reel_of, reel_length}
use Rattle.write_reel.specs.Writing.{reel_length_of, written_numbers, write_end, write_outcome}
use Rattle.demands.specs.ValidRecord.{Stands, CanonicalAt, trace_place, share_of, field_place, pair_place, HeaderRight, FieldRight, TraceRight, earlier_place, EarlierRecord}
use Rattle.demands.proofs.Valid.{record_fine}
use Rattle.demands.proofs.Renewed.{renewed_valid, renewed_holds, renewed_samples, renewed_traces}
use Rattle.demands.proofs.Fitting.{Fitting, fit_is}
use Rattle.demands.proofs.Taken.{written_needs, write_taken}

-- ## A trace

module _ (s : List ℕ) (k : ℕ) (some : 1 ≤ held_samples s) (few : held_samples s ≤ 8000) (field : Stands s 4 (held_samples s * 6) (trace_place s k + 183)) where
  -- All its samples stand in one field.
  share_all : held_samples s ≤ share_of s k
  share_all =
      let n = held_samples s in
      ⊎_elim (λ (h : n ≤ 6000). rw (le-ltb 6000 n h) h)
      (λ (h : 6000 < n). rw (lt-ltb 6000 n h, le-leb n 8000 few, eq-eqb (number16 s (trace_place s k + 183 + 1)) (n * 6) field.size_is) (omega arith)) (turn (below_or 6000 n))
    where
      turn : {A B : Type 0} → A ⊎ B → B ⊎ A
      turn (inl a) = inr a
      turn (inr b) = inl b

  one : fields_in (share_of s k) (held_samples s) ≡ 1
  one = fields_one (share_of s k) (share_some tag04 s (held_samples s) (trace_place s k + 183)) (held_samples s) (omega arith) share_all

  -- Pair j stands where it stood.
  place_was : (j : ℕ) → j < held_samples s → pair_place s k j ≡ trace_place s k + 186 + j * 6
  place_was j l = rw (quotient_low j (share_of s k) (omega (arith, share_all))) (omega arith)

  -- THEOREM. The trace is right, where its header is and each pair, 186 bytes on, is canonical.
  pub earlier_trace : HeaderRight s k → ((j : ℕ) → j < held_samples s → CanonicalAt s (trace_place s k + 186 + j * 6)) → TraceRight s k
  earlier_trace h p =
      record {
        front = h;
        fields = λ f l. right f (omega (arith, one));
        pairs = λ j l. subst (CanonicalAt s) (sym (place_was j l)) (p j l);
      }
    where
      right : (f : ℕ) → f ≤ 0 → FieldRight s k f
      right f l =
          let z : f ≡ 0 = omega arith in
          let count : field_count (share_of s k) (held_samples s) f ≡ held_samples s = omega (arith, share_all, ap (λ (x : ℕ). x * share_of s k) z, zero-mul (share_of s k)) in
          let place : field_place s k f ≡ trace_place s k + 183 = omega (arith, ap (λ (x : ℕ). x * (3 + share_of s k * 6)) z, zero-mul (3 + share_of s k * 6)) in
          subst (λ (x : ℕ). Stands s 4 (x * 6) (field_place s k f)) (sym count) (subst (Stands s 4 (held_samples s * 6)) (sym place) field)

  -- THEOREM. The next trace, or tag 05, stands behind that field.
  pub earlier_next : trace_place s (k + 1) ≡ trace_place s k + 186 + held_samples s * 6
  unfolding behind_trace_in
  earlier_next = place_next tag04 s (held_samples s) k ∙ omega (arith, one)

-- ## A record

-- THEOREM. Behind k traces that have the single field, trace k stands where it stood, 186 + 6N bytes a trace.
pub earlier_places : (s : List ℕ) → 1 ≤ held_samples s → held_samples s ≤ 8000 → (k : ℕ)
    → ((j : ℕ) → j < k → Stands s 4 (held_samples s * 6) (earlier_place s j + 183)) → trace_place s k ≡ earlier_place s k
unfolding trace_place_in
earlier_places s some few zero h = omega (arith, zero-mul (186 + held_samples s * 6))
earlier_places s some few (suc k) h =
    let e = earlier_places s some few k (λ j l. h j (omega arith)) in
    let next = earlier_next s k some few (subst (λ (x : ℕ). Stands s 4 (held_samples s * 6) (x + 183)) (sym e) (h k (omega arith))) in
    ap (trace_place s) (sym (add-one k)) ∙ next ∙ omega (arith, e, suc-mul k (186 + held_samples s * 6))

-- THEOREM. "stays valid": neither 12 nor 13 applies to a record as it was before CR 8.
-- Rules out a call that refuses the earlier single field, or looks for fields of 6,000 alone.
pub earlier_valid : (s : List ℕ) (t : ℕ) → EarlierRecord s t → form_causes s ≡ Fine
earlier_valid s t h =
    record_fine s t
    (record {
      end = record { until = record { head = h.head; before = right }; few = h.few; end = inr (λ three. other (sym five.tag_is ∙ three)) };
      field = five;
      count = subst (λ (x : ℕ). number (bytes_at s (x + 3) 4) ≡ t) (sym last) h.count;
      last = subst (λ (x : ℕ). length s ≤ x + 7) (sym last) h.last;
    })
  where
    some : 1 ≤ held_samples s
    some = h.head.samples.0

    place : (k : ℕ) → k ≤ t → trace_place s k ≡ earlier_place s k
    place k l = earlier_places s some h.few_samples k (λ j m. h.fields j (omega arith))

    last : trace_place s t ≡ earlier_place s t
    last = place t (omega arith)

    five : Stands s 5 4 (trace_place s t)
    five = subst (Stands s 5 4) (sym last) h.field

    other : ◌≡◌ {A = ℕ} 5 3 → ⊥
    other e = omega arith

    right : (k : ℕ) → k < t → TraceRight s k
    right k l =
        let e = place k (omega arith) in
        earlier_trace s k some h.few_samples (subst (λ (x : ℕ). Stands s 4 (held_samples s * 6) (x + 183)) (sym e) (h.fields k l)) (h.headers k l)
        (λ j m. subst (λ (x : ℕ). CanonicalAt s (x + 186 + j * 6)) (sym e) (h.pairs k j l m))

-- ## The same reel

-- What a record needs to be written, and what is written, by its N and T and what it holds.
module _ (r₁ r₂ : List ℕ) (n : held_samples r₁ ≡ held_samples r₂) (t : held_count r₁ (held_samples r₁) ≡ held_count r₂ (held_samples r₂))
    (m : held_by r₁ ≡ held_by r₂) (v : form_causes r₂ ≡ Fine) (code : ℕ) (out : List ℕ) where
  size : reel_length_of r₁ code ≡ reel_length_of r₂ code
  size = ap₂ (reel_length code) t n

  end : write_end r₂ code out Fine ≡ write_end r₁ code out Fine
  end =
      sym
      (ap₂ (λ (x : List ℕ) (y : Meaning). record { said = taken x; bytes = reel_of code y ++ drop (reel_length_of r₁ code) out }) (cons_eq t (cons_eq n (cons_eq size refl))) m
      ∙ ap (λ (x : ℕ). record { said = taken (written_numbers r₂ code); bytes = reel_of code (held_by r₂) ++ drop x out }) size)

  same_written : (numbers : List ℕ) → (write_outcome r₁ code out).said ≡ taken numbers → write_outcome r₂ code out ≡ write_outcome r₁ code out
  same_written numbers e =
      let w = written_needs r₁ code out numbers e in
      write_taken r₂ code out
      (record {
        code_is = w.code_is;
        form = v;
        fit = (fit_is r₂ code).1 (subst (Fitting code) m ((fit_is r₁ code).0 w.fit));
        room = subst (λ (x : ℕ). x ≤ length out) size w.room;
      })
      ∙ end ∙ sym (write_taken r₁ code out w)

module _ (r : List ℕ) (b : Bytes r) (v : form_causes r ≡ Fine) (code : ℕ) (out : List ℕ) (numbers : List ℕ) where
  -- THEOREM. "and gives the same reel": where writing a valid record is taken, writing it in the newest form has the same outcome, its numbers
  -- and each byte of the output.
  -- Rules out a writer that loses a sample, or gains one, where a field of the earlier form ends.
  pub same_output : (write_outcome r code out).said ≡ taken numbers → write_outcome (renewed r) code out ≡ write_outcome r code out
  same_output =
      same_written r (renewed r) (sym (renewed_samples r b v)) (sym (renewed_traces r b v)) (sym (renewed_holds r b v)) (renewed_valid r b v) code out numbers

  -- THEOREM. And the one is taken exactly when the other is.
  -- Rules out a writer that takes one form alone.
  pub same_reel : Iff ((write_outcome r code out).said ≡ taken numbers) ((write_outcome (renewed r) code out).said ≡ taken numbers)
  same_reel = (
    λ e. ap (λ (o : Outcome). o.said) (same_output e) ∙ e,
    λ e. ap (λ (o : Outcome). o.said) (same_written (renewed r) r (renewed_samples r b v) (renewed_traces r b v) (renewed_holds r b v) v code out numbers e) ∙ e,
  )
