-- # Demand 3: records are equal exactly when the reels mean the same, and a reel written again means the same
--
-- "Take any two reels, each in any of the formats, that are read without refusal, that is wherever none of the causes set for reading
-- applies. Their records, in the bytes laid out in document 01, are equal byte for byte exactly when the two reels mean the same. They mean
-- the same when they have the same card text, the same number in every assigned header field but the sample format code, the same count of
-- traces, and sample by sample the same exact value, a whole number over 16 to the power 70. Document 01 takes each of these from the
-- reel's own bytes, and names the few spellings taken as one (a zero byte for a blank, a zero in a trace's own sample count or interval for
-- the reel's). Every reel written from the record of a reel so read, in whichever of the formats holds it, is itself read without refusal,
-- means the same and has the same record, wherever the outputs are long enough."
--
-- "A record or a written reel is the output's first bytes, as many as the length returned" (document 01). That a reel is read without
-- refusal exactly where none of the causes set for reading applies is `read_taken`, of demand 1. `MeanTheSame`, in `Meaning` of `reel`,
-- looks at the two reels' bytes only. Document 02 (CR 2) changes what it compares: "Reels now count as equal by the scaled values of these
-- fields, exactly; 69 and 71 themselves no longer count." `Scalars`, beside this file, has its other theorems.
--
-- - `records_equal`: where the readings of two reels are taken, each in any code and each into any output, the two records are equal
--   exactly when the reels mean the same.
-- - `by_number`, `by_sample`: that is, when they agree card byte by card byte, in the number of each header field that no scalar acts on, in
--   the scaled value of each elevation and coordinate, in T and sample by sample; `sixteen`: sample values are compared V by V, whole
--   numbers over 16^70.
-- - `cards_alike`, `own_alike`: of card bytes and of fields 115 and 117, the spellings taken as one, and no others. Those of elevations and
--   coordinates are compared by value.
-- - `reel_again`: where the reading of a reel is taken, and the writing of its record under any code is taken, the writing returns the same
--   T and N and the length of such a reel; no cause of 1 to 9, 18 and 19 applies to the reel that was written, it is in that code, it means the same
--   as the first reel and has the same record; and reading it into an output long enough is taken with the same T, N and length and the count 0, and gives
--   that record.
-- - `written_in_each_code`: so that `reel_again` is no empty promise, the record of a reel whose reading is taken is written under every
--   code that has a word for each of the reel's sample values, into every output that is long enough.
-- - `own_code`: the reel's own code is one of those, and under it a reel of the same length is written.
--
-- Each byte of a reel is below 256; nothing else is assumed.
use mathlib.Core.Path.{◌≡◌, refl, sym, ap, ap₂, ◌∙◌, subst}
use mathlib.Core.List.{List, [], ◌∷◌, ◌++◌}
use mathlib.Core.Bool.{true, Bool, false}
use mathlib.Core.Logic.{◌⊎◌, inl, inr, ⊎_elim}
use Prim.Native.Nat.{ℕ, ◌+◌, ◌-◌, ◌*◌, ◌^◌, ◌≤◌, ◌<◌, suc}
use native.Mathlib.Nat.{div-add-mod'}
use native.Mathlib.Omega.{arith}
use borrow.Author.Tests.{eqb-true}
use lib.ListN.{length, take, drop}
use lib.IntN.{ℤ, pos, negsuc, nat_abs}
use lib.Dec.{eqb}
use Rattle.numbers.specs.Walk.{bytes_at, pick}
use Rattle.numbers.specs.Outcome.{taken, Outcome}
use Rattle.numbers.specs.Cause.{Fine}
use Rattle.numbers.specs.Terms.{All, Bytes, ZeroOr}
use Rattle.numbers.specs.Iff.{Iff}
use Rattle.numbers.proofs.WalkLaws.{cons_eq, size_bytes}
use Rattle.numbers.proofs.ByteLaws.{bytes_at_lem}
use Rattle.numbers.proofs.CauseLaws.{passed, first_all}
use Rattle.formats.specs.Codes.{denominator_power, is_code, sample_bytes}
use Rattle.formats.specs.Value.{exact_value}
use Rattle.reel.specs.Layout.{first_trace, trace_header, interval_of, samples_of, code_of, stride_of, traces_of}
use Rattle.reel.specs.Causes.{word_cause, trace_causes, causes_of}
use Rattle.reel.specs.Meaning.{Trace, trace_meaning, Meaning, meaning_by, meaning_of, MeanTheSame, blank, filled}
use Rattle.reel.proofs.CheckLaws.{words_fine, reel_fine}
use Rattle.record.specs.Record.{reel_record}
use Rattle.read_reel.specs.Reading.{read_outcome}
use Rattle.write_reel.specs.Reel.{reel_length}
use Rattle.write_reel.specs.Writing.{write_outcome}
use Rattle.reel_theorems.proofs.Same.{same_records}
use Rattle.reel_theorems.proofs.Output.{taken_reel, same_outputs}
use Rattle.demands.proofs.ByNumber.{means_agree, agree_means}
use Rattle.demands.proofs.Taken.{written_needs, needs, write_taken, written_bytes, written_no_cause, written_code, written_record}
use Rattle.demands.proofs.Demand2.{reading, written, read_back}
use Rattle.demands.proofs.Determined.{read_valid, held_record}
use Rattle.record.specs.Held.{renewed}
use Rattle.demands.specs.Words.{HasWord, Worded}
use Rattle.demands.specs.Results.{sample_value, Agree, ReelAgain, OwnCode}

-- ## Two reels

-- THEOREM. "Take any two reels, each in any of the formats, that are read without refusal, that is wherever none of the causes set for
-- reading applies. Their records, in the bytes laid out in document 01, are equal byte for byte exactly when the two reels mean the same."
-- Rules out a reader that gives one fixed record, and one that converts the first trace and copies it for the rest; two's complement for the
-- IBM fraction, keeping minus zero, and filling field 115 only for the first trace. Also copying the words through, since two words of one
-- value must give one pair.
pub records_equal : (s₁ s₂ out₁ out₂ : List ℕ) (t₁ n₁ l₁ c₁ t₂ n₂ l₂ c₂ : ℕ) → Bytes s₁ → Bytes s₂
    → (read_outcome s₁ out₁).said ≡ taken (t₁ ∷ n₁ ∷ l₁ ∷ c₁ ∷ []) → (read_outcome s₂ out₂).said ≡ taken (t₂ ∷ n₂ ∷ l₂ ∷ c₂ ∷ [])
    → Iff (take l₁ (read_outcome s₁ out₁).bytes ≡ take l₂ (read_outcome s₂ out₂).bytes) (MeanTheSame s₁ s₂)
records_equal = same_outputs

-- ## Number by number

-- THEOREM. "a whole number over 16 to the power 70": the denominator of every exact value. Alone it rules out none of the list.
pub sixteen : 2 ^ denominator_power ≡ 16 ^ 70
sixteen = refl

-- THEOREM. "They mean the same when they have the same card text, the same number in every assigned header field but the sample format
-- code, the same count of traces, and sample by sample the same exact value, a whole number over 16 to the power 70." For fields
-- 41 to 85 document 02 (CR 2) puts in place of this: "Reels now count as equal by the scaled values of these fields, exactly; 69 and 71
-- themselves no longer count." They mean the same exactly when they agree number by number, `Agree`.
-- Alone it rules out none of the list: it spells out what `records_equal` compares.
pub by_number : (s₁ s₂ : List ℕ) → Bytes s₁ → Bytes s₂ → Iff (MeanTheSame s₁ s₂) (Agree s₁ s₂)
by_number s₁ s₂ b₁ b₂ = (means_agree s₁ s₂, agree_means s₁ s₂ b₁ b₂)

-- THEOREM. "sample by sample the same exact value": where two reels mean the same, sample j of trace k has the same exact value in both.
-- Alone it rules out none of the list: it spells out what `records_equal` compares.
pub by_sample : (s₁ s₂ : List ℕ) → MeanTheSame s₁ s₂ → (k j : ℕ) → k < traces_of s₁ → j < samples_of s₁ → sample_value s₁ k j ≡ sample_value s₂ k j
by_sample s₁ s₂ m = (means_agree s₁ s₂ m).values

-- ## The spellings taken as one

-- A spelling of `own`: a zero, which is taken for it, or `own` itself. Two spellings are taken as one exactly when they are the same or both
-- are spellings of `own`.
one_spelling : {A : Type 0} (zero_is : A → Bool) (none own : A) → ((a : A) → zero_is a ≡ true → a ≡ none) → zero_is none ≡ true
    → (a b : A) → Iff (pick (zero_is a) own a ≡ pick (zero_is b) own b) ((a ≡ b) ⊎ (((a ≡ none) ⊎ (a ≡ own)) × ((b ≡ none) ⊎ (b ≡ own))))
one_spelling {A} zero_is none own only is a b = (there (zero_is a) (zero_is b) refl refl, back)
  where
    there : (x y : Bool) → zero_is a ≡ x → zero_is b ≡ y → pick x own a ≡ pick y own b → (a ≡ b) ⊎ (((a ≡ none) ⊎ (a ≡ own)) × ((b ≡ none) ⊎ (b ≡ own)))
    there true true p q e = inr (inl (only a p), inl (only b q))
    there true false p q e = inr (inl (only a p), inr (sym e))
    there false true p q e = inr (inr e, inl (only b q))
    there false false p q e = inl e

    taken_for : (a : A) → (a ≡ none) ⊎ (a ≡ own) → pick (zero_is a) own a ≡ own
    taken_for a h = ⊎_elim (λ (e : a ≡ none). ap (λ (x : Bool). pick x own a) (ap zero_is e ∙ is)) (λ (e : a ≡ own). go (zero_is a) e) h
      where
        go : (x : Bool) → a ≡ own → pick x own a ≡ own
        go true e = refl
        go false e = e

    back : (a ≡ b) ⊎ (((a ≡ none) ⊎ (a ≡ own)) × ((b ≡ none) ⊎ (b ≡ own))) → pick (zero_is a) own a ≡ pick (zero_is b) own b
    back h = ⊎_elim (λ (e : a ≡ b). ap (λ (x : A). pick (zero_is x) own x) e) (λ r. taken_for a r.0 ∙ sym (taken_for b r.1)) h

-- THEOREM. "Document 01 takes each of these from the reel's own bytes, and names the few spellings taken as one (a zero byte for a blank":
-- two card bytes are taken as one exactly when they are the same or each is 00 or 40.
-- Alone it rules out none of the list: it spells out what `records_equal` compares.
pub cards_alike : (b c : ℕ) → Iff (blank b ≡ blank c) ((b ≡ c) ⊎ (ZeroOr 0x40 b × ZeroOr 0x40 c))
cards_alike b c = one_spelling (λ x. eqb x 0) 0 0x40 (λ x e. eqb-true x 0 e) refl b c

-- THEOREM. "a zero in a trace's own sample count or interval for the reel's)": two numbers of field 115, or of field 117, are taken as one
-- exactly when they are the same or each is 0 or the reel's own. No other field is filled in (`trace_number`, in `Meaning` of `reel`).
-- Alone it rules out none of the list: it spells out what `records_equal` compares.
pub own_alike : (own : ℕ) (y z : ℤ) → Iff (filled own y ≡ filled own z) ((y ≡ z) ⊎ (((y ≡ pos 0) ⊎ (y ≡ pos own)) × ((z ≡ pos 0) ⊎ (z ≡ pos own))))
own_alike own y z = one_spelling (λ x. eqb (nat_abs x) 0) (pos 0) (pos own) only refl y z
  where
    only : (x : ℤ) → eqb (nat_abs x) 0 ≡ true → x ≡ pos 0
    only (pos n) e = ap pos (eqb-true n 0 e)
    only (negsuc n) e = absurd (let z : suc n ≡ 0 = eqb-true (suc n) 0 e in omega arith)

-- ## A reel written from a record

-- THEOREM. "Every reel written from the record of a reel so read, in whichever of the formats holds it, is itself read without refusal,
-- means the same and has the same record, wherever the outputs are long enough."
-- Rules out a writer that writes nothing and says taken, a writer or a reader that converts the first trace and copies it for the rest, and
-- either with a length that is invented, or a T that the other doesn't have. That T is the reel's own is `reading`.
pub reel_again : (s out : List ℕ) (t n l c : ℕ) (code : ℕ) (out₂ : List ℕ) (t₂ n₂ l₂ : ℕ) → Bytes s → (read_outcome s out).said ≡ taken (t ∷ n ∷ l ∷ c ∷ [])
    → (write_outcome (take l (read_outcome s out).bytes) code out₂).said ≡ taken (t₂ ∷ n₂ ∷ l₂ ∷ [])
    → ReelAgain s t n l (take l (read_outcome s out).bytes) code t₂ n₂ l₂ (take l₂ (write_outcome (take l (read_outcome s out).bytes) code out₂).bytes)
reel_again s out t n l c code out₂ t₂ n₂ l₂ b e e₂ =
    let r = take l (read_outcome s out).bytes in
    let x = reading s out t n l c b e in
    let v = read_valid s out t n l c b e in
    let h = v.bytes in
    let w = written_needs r code out₂ (t₂ ∷ n₂ ∷ l₂ ∷ []) e₂ in
    let k = written r code out₂ t₂ n₂ l₂ e₂ in
    let size : length r ≡ l = ap length x.content ∙ x.whole in
    let f = written_no_cause r h code out₂ w in
    let own : renewed r ≡ r = held_record r h v.valid v.newest in
    let has = written_record r h code out₂ w ∙ own in
    let means = (same_records s _ b (written_bytes r h code out₂ w) (taken_reel s out (t ∷ n ∷ l ∷ c ∷ []) e) f).0 (sym x.content ∙ sym has) in
    record {
      traces = k.traces ∙ v.traces;
      samples = k.samples ∙ v.samples;
      size = k.size ∙ ap₂ (reel_length code) (k.traces ∙ v.traces) (k.samples ∙ v.samples);
      no_cause = ap causes_of k.content ∙ f;
      code_is = ap code_of k.content ∙ written_code r h code out₂ w;
      means = subst (MeanTheSame s) (sym k.content) means;
      has = ap reel_record k.content ∙ has;
      read = λ out₃ room.
          read_back r code out₂ out₃ t₂ n₂ l₂ h e₂ (rw (own, size) room)
          ∙ ap (λ (x : List ℕ). record { said = taken (t₂ ∷ n₂ ∷ length x ∷ 0 ∷ []); bytes = x ++ drop (length x) out₃ }) own
          ∙ ap (λ (j : ℕ). record { said = taken (t₂ ∷ n₂ ∷ j ∷ 0 ∷ []); bytes = r ++ drop j out₃ }) size
          ∙ ap₂ (λ (i j : ℕ). record { said = taken (i ∷ j ∷ l ∷ 0 ∷ []); bytes = r ++ drop l out₃ }) (k.traces ∙ v.traces) (k.samples ∙ v.samples);
    }

-- ## Which reels are written

-- THEOREM. "in whichever of the formats holds it": the record of a reel so read is written under every code that has a word for
-- each of the reel's sample values, "wherever the outputs are long enough".
-- Rules out a writer that declines every record, and one whose T or length is invented.
pub written_in_each_code : (s out : List ℕ) (t n l c : ℕ) (code : ℕ) (out₂ : List ℕ) → Bytes s → (read_outcome s out).said ≡ taken (t ∷ n ∷ l ∷ c ∷ [])
    → is_code code ≡ true → Worded code (meaning_of s).traces
    → 3600 + t * (240 + n * sample_bytes code) ≤ length out₂
    → (write_outcome (take l (read_outcome s out).bytes) code out₂).said ≡ taken (t ∷ n ∷ (3600 + t * (240 + n * sample_bytes code)) ∷ [])
written_in_each_code s out t n l c code out₂ b e i f h =
    let r = take l (read_outcome s out).bytes in
    let v = read_valid s out t n l c b e in
    let size = ap₂ (reel_length code) v.traces v.samples in
    let words = subst (λ (m : Meaning). Worded code m.traces) (sym v.holds) f in
    let w = needs r code out₂ v.bytes v.valid i words (rw size h) in
    ap (λ (o : Outcome). o.said) (write_taken r code out₂ w) ∙ ap taken (cons_eq v.traces (cons_eq v.samples (cons_eq size refl)))

-- Each sample of a trace of a reel has its own word, where 9 doesn't apply to it.
trace_words : (s : List ℕ) → Bytes s → (code n i at : ℕ) → trace_causes s code n i at ≡ Fine → All (HasWord code) (trace_meaning s code n i at).values
unfolding trace_meaning
trace_words s h code n i at e =
    first_all (word_cause s code) (λ p. exact_value code (bytes_at s p 4)) (HasWord code) own_word (sample_bytes code) n (at + trace_header) (words_fine s code n i at e)
  where
    own_word : (p : ℕ) → word_cause s code p ≡ Fine → HasWord code (exact_value code (bytes_at s p 4))
    own_word p q =
        record {
          word = bytes_at s p 4;
          size = size_bytes s p 4;
          bytes = bytes_at_lem s h p 4;
          good = passed _ _ _ q;
          value = refl;
        }

-- Each sample value of a reel to which no cause of 1 to 9, 18 and 19 applies has a word under the reel's own code.
reel_words_lem : (s : List ℕ) → Bytes s → causes_of s ≡ Fine → Worded (code_of s) (meaning_of s).traces
unfolding meaning_by
reel_words_lem s h f =
    let code = code_of s in
    let n = samples_of s in
    let i = interval_of s in
    first_all (trace_causes s code n i) (trace_meaning s code n i) (λ (x : Trace). All (HasWord code) x.values) (trace_words s h code n i) (stride_of s) (traces_of s) first_trace (reel_fine s f).traces

-- It has the bytes of its headers and its whole traces, and no others.
own_size : (s : List ℕ) → causes_of s ≡ Fine → reel_length (code_of s) (traces_of s) (samples_of s) ≡ length s
own_size s f =
    let v = reel_fine s f in
    omega (arith, v.long, v.whole, div-add-mod' (length s - first_trace) (stride_of s))

-- THEOREM. "in whichever of the formats holds it": the reel's own code has a word for each of the reel's sample values, and its record is
-- written under that code.
-- Rules out a writer that declines every record, and one whose T or length is invented.
pub own_code : (s out : List ℕ) (t n l c : ℕ) → Bytes s → (read_outcome s out).said ≡ taken (t ∷ n ∷ l ∷ c ∷ []) → OwnCode s t n (take l (read_outcome s out).bytes)
own_code s out t n l c b e =
    let f = taken_reel s out (t ∷ n ∷ l ∷ c ∷ []) e in
    let x = reading s out t n l c b e in
    let k = (reel_fine s f).numbers in
    let i : is_code (code_of s) ≡ true = k.is_code_lem in
    let size : reel_length (code_of s) t n ≡ length s = ap₂ (reel_length (code_of s)) x.traces x.samples ∙ own_size s f in
    record {
      code_is = i;
      words = reel_words_lem s b f;
      writes = λ out₂ room.
          written_in_each_code s out t n l c (code_of s) out₂ b e i (reel_words_lem s b f) (rw size room) ∙ ap (λ (j : ℕ). taken (t ∷ n ∷ j ∷ [])) size;
    }
