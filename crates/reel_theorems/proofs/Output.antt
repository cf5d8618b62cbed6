-- # The record in the output
--
-- Document 01 calls the record the output's first bytes, as many as the length returned. What a reading answers, and what it leaves in its
-- output, say so: where the reading of a reel into an output is taken, the numbers returned are the reel's T and N and the length of its
-- record; the first bytes of the output, as many as that length, are the record; and those of two readings are equal exactly when the
-- reels mean the same. Each byte of a reel is below 256; nothing else is assumed.
use mathlib.Core.Path.{◌≡◌, refl, sym, ap, ◌∙◌}
use mathlib.Core.List.{List, [], ◌∷◌}
use Prim.Native.Nat.{ℕ, ◌+◌, ◌*◌, ◌/◌}
use lib.ListN.{length, take, drop}
use lib.Seq.{take_at}
use Rattle.fields.specs.Fields.{fields_in}
use Rattle.numbers.specs.Outcome.{taken, Outcome}
use Rattle.numbers.specs.Cause.{Check}
use Rattle.numbers.specs.Cause.{Fine}
use Rattle.numbers.specs.Terms.{Bytes}
use Rattle.numbers.specs.Iff.{Iff}
use Rattle.numbers.proofs.CauseLaws.{then_fine}
use Rattle.numbers.proofs.SaidLaws.{says_fine}
use Rattle.reel.specs.Layout.{samples_of, traces_of}
use Rattle.reel.specs.Causes.{causes_of}
use Rattle.reel.specs.Meaning.{MeanTheSame}
use Rattle.reel.specs.NotNormal.{not_normal_of}
use Rattle.record.specs.Record.{reel_record}
use Rattle.read_reel.specs.Reading.{record_length_of, read_numbers, read_causes, read_end, read_outcome}
use Rattle.reel_theorems.proofs.Same.{record_size, same_records}

-- a reading that is taken has no cause of 1 to 10 or 18
pub taken_fine : (s out numbers : List ℕ) → (read_outcome s out).said ≡ taken numbers → read_causes s (length out) ≡ Fine
taken_fine s out numbers e =
    says_fine (λ (c : Check). (read_end s out c).said) (read_numbers s) refl (λ n p. refl) (read_causes s (length out)) numbers e

-- the reel of a reading that is taken has no cause of 1 to 9, 18 and 19
pub taken_reel : (s out numbers : List ℕ) → (read_outcome s out).said ≡ taken numbers → causes_of s ≡ Fine
taken_reel s out numbers e = (then_fine (causes_of s) _ (taken_fine s out numbers e)).0

-- what a reading that is taken says and leaves in its output
pub taken_outcome : (s out numbers : List ℕ) → (read_outcome s out).said ≡ taken numbers → read_outcome s out ≡ read_end s out Fine
taken_outcome s out numbers e = ap (read_end s out) (taken_fine s out numbers e)

-- THEOREM. Where the reading of a reel is taken, the numbers returned are T, N, 3273 + T × (183 + 3F + 6N), with F fields of samples a trace,
-- and how many words of the reel are not normal.
pub taken_numbers_lem : (s out numbers : List ℕ) → (read_outcome s out).said ≡ taken numbers
    → (read_outcome s out).said
    ≡ taken (traces_of s ∷ samples_of s ∷ (3273 + traces_of s * (183 + (3 * ((samples_of s + 5999) / 6000) + samples_of s * 6))) ∷ not_normal_of s ∷ [])
unfolding fields_in
taken_numbers_lem s out numbers e = ap (λ (o : Outcome). o.said) (taken_outcome s out numbers e)

-- the length returned is that of the reel's record
pub taken_length : (s out : List ℕ) (t n l c : ℕ) → (read_outcome s out).said ≡ taken (t ∷ n ∷ l ∷ c ∷ []) → record_length_of s ≡ l
taken_length s out t n l c e =
    let same : taken (read_numbers s) ≡ taken (t ∷ n ∷ l ∷ c ∷ []) = ap (λ (o : Outcome). o.said) (sym (taken_outcome s out (t ∷ n ∷ l ∷ c ∷ []) e)) ∙ e in
    cc

-- THEOREM. Where the reading of a reel is taken, with T, N, a length and a count returned, the output's first bytes, as many as that length, are
-- the reel's record.
pub output_record : (s out : List ℕ) (t n l c : ℕ) → Bytes s → (read_outcome s out).said ≡ taken (t ∷ n ∷ l ∷ c ∷ [])
    → take l (read_outcome s out).bytes ≡ reel_record s
output_record s out t n l c b e =
    let size : length (reel_record s) ≡ l = record_size s b (taken_reel s out (t ∷ n ∷ l ∷ c ∷ []) e) ∙ taken_length s out t n l c e in
    ap (λ (o : Outcome). take l o.bytes) (taken_outcome s out (t ∷ n ∷ l ∷ c ∷ []) e) ∙ take_at (reel_record s) (drop (record_length_of s) out) l size

-- LAW. Where the readings of two reels, each in any code and each into any output, are both taken, the first bytes of the two outputs,
-- as many as the length returned each time, are equal exactly when the reels mean the same: `records_equal`, of `demands`.
pub same_outputs : (s₁ s₂ out₁ out₂ : List ℕ) (t₁ n₁ l₁ c₁ t₂ n₂ l₂ c₂ : ℕ) → Bytes s₁ → Bytes s₂
    → (read_outcome s₁ out₁).said ≡ taken (t₁ ∷ n₁ ∷ l₁ ∷ c₁ ∷ []) → (read_outcome s₂ out₂).said ≡ taken (t₂ ∷ n₂ ∷ l₂ ∷ c₂ ∷ [])
    → Iff (take l₁ (read_outcome s₁ out₁).bytes ≡ take l₂ (read_outcome s₂ out₂).bytes) (MeanTheSame s₁ s₂)
same_outputs s₁ s₂ out₁ out₂ t₁ n₁ l₁ c₁ t₂ n₂ l₂ c₂ b₁ b₂ e₁ e₂ =
    let p₁ = output_record s₁ out₁ t₁ n₁ l₁ c₁ b₁ e₁ in
    let p₂ = output_record s₂ out₂ t₂ n₂ l₂ c₂ b₂ e₂ in
    let same = same_records s₁ s₂ b₁ b₂ (taken_reel s₁ out₁ (t₁ ∷ n₁ ∷ l₁ ∷ c₁ ∷ []) e₁) (taken_reel s₂ out₂ (t₂ ∷ n₂ ∷ l₂ ∷ c₂ ∷ []) e₂) in
    (λ e. same.0 (sym p₁ ∙ e ∙ p₂), λ m. p₁ ∙ same.1 m ∙ sym p₂)
