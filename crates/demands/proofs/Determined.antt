-- # A record and what it holds determine each other
--
-- Document 01: "A record is valid when neither 12 nor 13 applies to it." "A record or a written reel is the output's first bytes, as many
-- as the length returned." Demand 2: "A reel becomes the record that SEG-Y revision 0 and the IBM floating point word define, as document
-- 01 condenses them."
--
-- - `read_valid`: where reading a reel is taken, the record in the output is valid and in the newest form, it holds what the reel means, and
--   its T and N are those returned.
-- - `valid_is`: valid means that neither 12 nor 13 applies, and this spells it out, tag by tag.
-- - `held_same`: two valid records in the newest form that hold the same are equal byte for byte.
-- - `held_record`: a valid record in the newest form is the record of what it holds.
--
-- Each byte of a reel and of a record is below 256; nothing else is assumed.
use mathlib.Core.Path.{◌≡◌, sym, ap, ◌∙◌}
use mathlib.Core.List.{List, [], ◌∷◌}
use Prim.Native.Nat.{ℕ}
use lib.ListN.{take}
use Rattle.numbers.specs.Outcome.{taken}
use Rattle.numbers.specs.Cause.{Fine}
use Rattle.numbers.specs.Terms.{Bytes}
use Rattle.numbers.specs.Iff.{Iff}
use Rattle.reel.specs.Layout.{samples_of, interval_of, traces_of}
use Rattle.reel.specs.Causes.{causes_of}
use Rattle.reel.specs.Meaning.{meaning_of}
use Rattle.record.specs.Record.{record_of}
use Rattle.record.specs.Form.{held_samples, held_count, form_causes}
use Rattle.record.specs.Held.{held_by, IsNewest, renewed}
use Rattle.read_reel.specs.Reading.{read_outcome}
use Rattle.reel_theorems.proofs.Output.{taken_reel}
use Rattle.demands.proofs.Again.{held_again}
use Rattle.demands.proofs.Proper.{Proper}
use Rattle.demands.proofs.ProperLaws.{reel_proper}
use Rattle.demands.proofs.RecordBack.{record_bytes, record_samples, record_traces, record_no_cause, record_newest, record_again}
use Rattle.demands.proofs.Taken.{meant_count}
use Rattle.demands.proofs.Valid.{record_fine, record_right}
use Rattle.demands.proofs.Demand2.{reading}
use Rattle.demands.specs.ValidRecord.{RecordRight}
use Rattle.demands.specs.Results.{RecordHolds}

-- ## The record that reading gives

-- The record of what a reel means to which no cause of 1 to 9, 18 and 19 applies.
meant : (s : List ℕ) → Bytes s → causes_of s ≡ Fine → RecordHolds s (traces_of s) (samples_of s) (record_of (meaning_of s))
meant s b f =
    let n = samples_of s in
    let i = interval_of s in
    let m = meaning_of s in
    let p : Proper n i m = reel_proper s b f in
    record {
      bytes = record_bytes n i m p;
      valid = record_no_cause n i m p;
      newest = record_newest n i m p;
      holds = record_again n i m p;
      traces = ap (held_count (record_of m)) (record_samples n i m p) ∙ record_traces n i m p ∙ meant_count s;
      samples = record_samples n i m p;
    }

-- THEOREM. "A reel becomes the record that SEG-Y revision 0 and the IBM floating point word define": every record that reading gives is
-- valid, in the newest form (document 02, CR 8), and holds what the reel means.
-- Rules out a reader that gives one fixed record, one that writes nothing and says taken, one that converts the first trace and copies it
-- for the rest, and one whose T or length is invented; two's complement for the IBM fraction, keeping minus zero, and filling field 115
-- only for the first trace.
pub read_valid : (s out : List ℕ) (t n l c : ℕ) → Bytes s → (read_outcome s out).said ≡ taken (t ∷ n ∷ l ∷ c ∷ [])
    → RecordHolds s t n (take l (read_outcome s out).bytes)
read_valid s out t n l c b e =
    let k = reading s out t n l c b e in
    let h = meant s b (taken_reel s out (t ∷ n ∷ l ∷ c ∷ []) e) in
    rw (k.traces, k.samples, k.content) h

-- ## Valid records

-- THEOREM. "A record is valid when neither 12 nor 13 applies to it" (document 01): they don't exactly when it is right from tag 01 to its
-- last byte, with some count of traces.
-- Alone it rules out none of the list: it spells out what valid means.
pub valid_is : (r : List ℕ) → Iff (form_causes r ≡ Fine) ((t : ℕ) × RecordRight r t)
valid_is r = (λ e. (held_count r (held_samples r), record_right r e), λ h. record_fine r h.0 h.1)

-- THEOREM. "Two records are equal byte for byte when they have the same length and the same bytes" (document 01): two valid records in the
-- newest form that hold the same are.
-- With `read_valid` it leaves no second record to a reel. Alone it rules out none of the list, as it speaks of records only.
pub held_same : (r₁ r₂ : List ℕ) → Bytes r₁ → Bytes r₂ → form_causes r₁ ≡ Fine → form_causes r₂ ≡ Fine → IsNewest r₁ → IsNewest r₂
    → held_by r₁ ≡ held_by r₂ → r₁ ≡ r₂
held_same r₁ r₂ b₁ b₂ v₁ v₂ w₁ w₂ e = sym (held_again r₁ b₁ v₁ w₁) ∙ ap record_of e ∙ held_again r₂ b₂ v₂ w₂

-- THEOREM. "gives the record again" (demand 2): a valid record in the newest form is the record of what it holds.
-- Alone it rules out none of the list; `read_back` and `reel_again`, which do, rest on it.
pub held_record : (r : List ℕ) → Bytes r → form_causes r ≡ Fine → IsNewest r → renewed r ≡ r
held_record = held_again
