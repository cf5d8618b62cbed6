-- # Demand 2: a reel becomes its record, a record becomes a reel, and reading that reel gives the record again
--
-- "A reel becomes the record that SEG-Y revision 0 and the IBM floating point word define, as document 01 condenses them. A valid record is
-- written as a reel in any of the four sample formats whenever that format holds every sample exactly and the output is long enough, and
-- reading that reel, again into an output long enough, gives the record again."
--
-- Six theorems say so, over the outcomes that the contracts of reading and writing give. "A record or a written reel is the output's first
-- bytes, as many as the length returned" (document 01). What they say of the outcomes, they say by the records of `specs/Results`.
--
-- - `reading`: where reading a reel is taken, the numbers returned are the reel's T and N and 3273 + T × (183 + 3F + 6N), with F fields of
--   samples a trace, the output's first bytes are the record of what the reel means, of that length, and the rest of the output keeps its
--   content.
-- - `writing`: writing a valid record is taken, with the record's T and N and the reel's length, exactly when the code is one of the codes, every
--   sample that the record holds has a word under it, and the output is long enough.
-- - `written`: where writing is taken, the record is valid, the numbers returned are its T and N and the reel's length, the output's first
--   bytes are the reel of what the record holds, of that length, and the rest of the output keeps its content.
-- - `read_back`: reading the reel that was written, into an output long enough, is taken with the same T and N, and gives the record again
--   byte for byte, an earlier one in the newest form (`renewed`).
-- - `newest_back`: so a record in the newest form comes back itself.
-- - `round_trip`: the second sentence at once. A valid record, a code that holds every sample exactly and an output long enough:
--   the writing is taken, and reading what it wrote gives the record again.
--
-- "A record is valid when neither 12 nor 13 applies to it" (document 01): `form_causes` finds nothing, and `valid_is` in `Determined` spells
-- it out. Each byte of a reel and of a record is below 256, which `written` doesn't ask for; nothing else is assumed. Every reel, record,
-- code and output is meant.
use mathlib.Core.Path.{◌≡◌, sym, ap, ap₂, ◌∙◌, subst}
use mathlib.Core.List.{List, [], ◌∷◌, ◌++◌}
use Prim.Native.Nat.{ℕ, ◌+◌, ◌*◌, ◌/◌, ◌≤◌}
use lib.ListN.{length, take, drop}
use lib.Seq.{take_at, drop_at}
use Rattle.numbers.specs.Outcome.{taken, Outcome}
use Rattle.numbers.specs.Cause.{Fine}
use Rattle.numbers.specs.Terms.{Bytes}
use Rattle.numbers.specs.Iff.{Iff}
use Rattle.formats.specs.Codes.{sample_bytes}
use Rattle.reel.specs.Meaning.{meaning_of}
use Rattle.record.specs.Record.{record_of}
use Rattle.record.specs.Form.{held_interval, held_samples, held_count, form_causes}
use Rattle.record.specs.Held.{held_by, IsNewest, renewed}
use Rattle.read_reel.specs.Reading.{read_outcome}
use Rattle.write_reel.specs.Reel.{reel_of, reel_length}
use Rattle.write_reel.specs.Writing.{write_end, write_outcome}
use Rattle.reel_theorems.proofs.Same.{record_size}
use Rattle.reel_theorems.proofs.Output.{taken_reel, taken_outcome, taken_numbers_lem, output_record, taken_length}
use Rattle.demands.proofs.ProperLaws.{held_proper}
use Rattle.demands.proofs.Again.{held_again}
use Rattle.demands.proofs.Fitting.{fit_is}
use Rattle.demands.proofs.WrittenSize.{reel_size}
use Rattle.demands.proofs.Taken.{fitting_words, needs, written_needs, write_taken, written_read}
use Rattle.demands.specs.Results.{RecordRead, CanBeWritten, ReelWritten}

-- ## A reel becomes its record

-- Three numbers that are returned are the same as the three that are known to be; and four.
same_numbers : {t n l t₂ n₂ l₂ : ℕ} → taken (t ∷ n ∷ l ∷ []) ≡ taken (t₂ ∷ n₂ ∷ l₂ ∷ []) → (t ≡ t₂) × (n ≡ n₂) × (l ≡ l₂)
same_numbers e = (cc, cc, cc)

same_four : {t n l c t₂ n₂ l₂ c₂ : ℕ} → taken (t ∷ n ∷ l ∷ c ∷ []) ≡ taken (t₂ ∷ n₂ ∷ l₂ ∷ c₂ ∷ []) → (t ≡ t₂) × (n ≡ n₂) × (l ≡ l₂) × (c ≡ c₂)
same_four e = (cc, cc, cc, cc)

-- THEOREM. "A reel becomes the record that SEG-Y revision 0 and the IBM floating point word define, as document 01 condenses them."
-- Rules out a reader that gives one fixed record, one that writes nothing and says taken, one that converts the first trace and copies it
-- for the rest, and one whose T or length is invented; two's complement for the IBM fraction, keeping minus zero, and filling field 115 only
-- for the first trace.
pub reading : (s out : List ℕ) (t n l c : ℕ) → Bytes s → (read_outcome s out).said ≡ taken (t ∷ n ∷ l ∷ c ∷ []) → RecordRead s out t n l c
reading s out t n l c b e =
    let k = same_four (sym e ∙ taken_numbers_lem s out (t ∷ n ∷ l ∷ c ∷ []) e) in
    let is = taken_length s out t n l c e in
    let whole : length (record_of (meaning_of s)) ≡ l = record_size s b (taken_reel s out (t ∷ n ∷ l ∷ c ∷ []) e) ∙ is in
    record {
      traces = k.0;
      samples = k.1;
      size = k.2 ∙ ap₂ (λ (x y : ℕ). 3273 + x * (183 + (3 * ((y + 5999) / 6000) + y * 6))) (sym k.0) (sym k.1);
      count = k.3;
      content = output_record s out t n l c b e;
      whole = whole;
      rest =
          ap (λ (o : Outcome). drop l o.bytes) (taken_outcome s out (t ∷ n ∷ l ∷ c ∷ []) e)
          ∙ drop_at (record_of (meaning_of s)) _ l whole ∙ ap (λ (x : ℕ). drop x out) is;
    }

-- ## A record becomes a reel

-- THEOREM. "A valid record is written as a reel in any of the four sample formats whenever that format holds every sample exactly and the
-- output is long enough" (they are six since CR 4); and in no other case.
-- Rules out a writer that declines every record, one that says output too short before working out the length (the rest of that is
-- `write_refused`), and one whose T or length is invented.
pub writing : (r : List ℕ) (code : ℕ) (out : List ℕ) → Bytes r → form_causes r ≡ Fine
    → Iff ((write_outcome r code out).said ≡ taken (held_count r (held_samples r) ∷ held_samples r ∷ (3600 + held_count r (held_samples r) * (240 + held_samples r * sample_bytes code)) ∷ []))
    (CanBeWritten r code out)
writing r code out b v = (
  λ e. let w = written_needs r code out _ e in
      record {
        code_is = w.code_is;
        held = fitting_words code (held_samples r) (held_interval r) (held_by r) (held_proper r b v) w.code_is ((fit_is r code).0 w.fit);
        room = w.room;
      },
  λ h. ap (λ (o : Outcome). o.said) (write_taken r code out (needs r code out b v h.code_is h.held h.room)),
)

-- THEOREM. "A valid record is written as a reel": what is written is the reel of what the record holds, under code 1 each sample by its
-- normal word (`writing_normal`), under code 4 with the smallest gain (`writing_least`), under code 5 zero as 00000000 (`writing_ieee`), unassigned bytes 0.
-- Rules out a writer that writes nothing and says taken, one that converts the first trace and copies it for the rest, and one whose T or
-- length is invented; normalising by single bits, pushing C below 0, and shifting up for a negative e.
pub written : (r : List ℕ) (code : ℕ) (out : List ℕ) (t n l : ℕ) → (write_outcome r code out).said ≡ taken (t ∷ n ∷ l ∷ [])
    → ReelWritten r code out t n l
written r code out t n l e =
    let w = written_needs r code out (t ∷ n ∷ l ∷ []) e in
    let o : write_outcome r code out ≡ write_end r code out Fine = write_taken r code out w in
    let k = same_numbers (sym e ∙ ap (λ (x : Outcome). x.said) o) in
    let whole : length (reel_of code (held_by r)) ≡ l = reel_size r code ∙ sym k.2 in
    record {
      valid = w.form;
      traces = k.0;
      samples = k.1;
      size = k.2 ∙ ap₂ (reel_length code) (sym k.0) (sym k.1);
      content = ap (λ (x : Outcome). take l x.bytes) o ∙ take_at (reel_of code (held_by r)) _ l whole;
      whole = whole;
      rest =
          ap (λ (x : Outcome). drop l x.bytes) o ∙ drop_at (reel_of code (held_by r)) _ l whole ∙ ap (λ (x : ℕ). drop x out) (sym k.2);
    }

-- ## Reading the reel that was written

-- THEOREM. "and reading that reel, again into an output long enough, gives the record again": byte for byte and with the same T and N, and the
-- count 0: under code 1 each word of that reel is normal. "an earlier one comes back in that form" (document 02, CR 8): as `renewed` has it.
-- Rules out a fixed record or reel, writing nothing and saying taken, copying the first trace for the rest, and an invented length. That T
-- and N are the record's own, and not merely the same both times, is `reading` and `written`.
pub read_back : (r : List ℕ) (code : ℕ) (out out₂ : List ℕ) (t n l : ℕ) → Bytes r → (write_outcome r code out).said ≡ taken (t ∷ n ∷ l ∷ []) → length (renewed r) ≤ length out₂
    → read_outcome (take l (write_outcome r code out).bytes) out₂ ≡ record { said = taken (t ∷ n ∷ length (renewed r) ∷ 0 ∷ []); bytes = renewed r ++ drop (length (renewed r)) out₂ }
read_back r code out out₂ t n l b e h =
    let w = written_needs r code out (t ∷ n ∷ l ∷ []) e in
    let k = written r code out t n l e in
    ap (λ (s : List ℕ). read_outcome s out₂) k.content
    ∙ written_read r b code out w out₂ h
    ∙ ap₂ (λ (x y : ℕ). record { said = taken (x ∷ y ∷ length (renewed r) ∷ 0 ∷ []); bytes = renewed r ++ drop (length (renewed r)) out₂ }) (sym k.traces) (sym k.samples)

-- THEOREM. "gives the record again": a record in the newest form comes back itself.
-- Rules out what `read_back` does.
pub newest_back : (r : List ℕ) (code : ℕ) (out out₂ : List ℕ) (t n l : ℕ) → Bytes r → IsNewest r → (write_outcome r code out).said ≡ taken (t ∷ n ∷ l ∷ []) → length r ≤ length out₂
    → read_outcome (take l (write_outcome r code out).bytes) out₂ ≡ record { said = taken (t ∷ n ∷ length r ∷ 0 ∷ []); bytes = r ++ drop (length r) out₂ }
newest_back r code out out₂ t n l b new e h =
    let own : renewed r ≡ r = held_again r b (written_needs r code out (t ∷ n ∷ l ∷ []) e).form new in
    read_back r code out out₂ t n l b e (subst (λ (x : List ℕ). length x ≤ length out₂) (sym own) h)
    ∙ ap (λ (x : List ℕ). record { said = taken (t ∷ n ∷ length x ∷ 0 ∷ []); bytes = x ++ drop (length x) out₂ }) own

-- THEOREM. "A valid record is written as a reel in any of the four sample formats whenever that format holds every sample exactly and the
-- output is long enough, and reading that reel, again into an output long enough, gives the record again."
-- Rules out a writer that declines every record, one whose T is invented, and what `read_back` rules out.
pub round_trip : (r : List ℕ) (code : ℕ) (out out₂ : List ℕ) → Bytes r → form_causes r ≡ Fine → CanBeWritten r code out → length (renewed r) ≤ length out₂
    → let n = held_samples r in
    let t = held_count r n in
    let l = 3600 + t * (240 + n * sample_bytes code) in
    ((write_outcome r code out).said ≡ taken (t ∷ n ∷ l ∷ []))
    × (read_outcome (take l (write_outcome r code out).bytes) out₂ ≡ record { said = taken (t ∷ n ∷ length (renewed r) ∷ 0 ∷ []); bytes = renewed r ++ drop (length (renewed r)) out₂ })
round_trip r code out out₂ b v h room =
    let e = (writing r code out b v).1 h in
    (e, read_back r code out out₂ _ _ _ b e room)
