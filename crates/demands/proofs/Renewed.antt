-- # A record, renewed
--
-- Document 02 (CR 8): "wherever a written record is said to come back, an earlier one comes back in that form." `renewed` is that form: the
-- record of what a valid record holds. It is valid and in the newest form, has three bytes more for each earlier trace, and holds the same; that a record in the
-- newest form is renewed to itself is `held_record`, in `Determined`. Each byte of a record is below 256; nothing else is assumed.
use mathlib.Core.Path.{◌≡◌, sym, ap, ◌∙◌}
use mathlib.Core.List.{List}
use Prim.Native.Nat.{ℕ, ◌+◌, ◌*◌, ◌/◌}
use native.Mathlib.Omega.{arith}
use lib.ListN.{length}
use Rattle.numbers.specs.Iff.{Iff}
use Rattle.numbers.specs.Terms.{Bytes}
use Rattle.numbers.specs.Cause.{Fine}
use Rattle.numbers.proofs.WalkLaws.{size_walk}
use Rattle.record.specs.Kind.{tag04}
use Rattle.record.specs.Record.{record_of, record_length}
use Rattle.record.specs.Form.{held_samples, held_interval, trace_place, held_count, form_causes}
use Rattle.fields.specs.Fields.{fields_in}
use Rattle.record.specs.Held.{held_trace_in, held_by_in, held_by, IsNewest, earlier_traces, renewed}
use Rattle.record.proofs.FormLaws.{place_earlier, held_length}
use Rattle.demands.proofs.RecordBack.{record_length_lem, record_bytes, record_samples, record_traces, record_no_cause, record_newest, record_again}
use Rattle.demands.proofs.ProperLaws.{held_proper}

-- The traces of what a record holds are those that are counted in it.
pub held_count_lem : (r : List ℕ) → length (held_by r).traces ≡ held_count r (held_samples r)
unfolding held_by_in
held_count_lem r =
    let n = held_samples r in
    size_walk (λ j. held_trace_in tag04 r n (trace_place r n j)) 1 (held_count r n) 0

module _ (r : List ℕ) (b : Bytes r) (e : form_causes r ≡ Fine) where
  -- THEOREM. Renewed, a valid record is a list of bytes, valid, in the newest form, and holds the same.
  pub renewed_bytes : Bytes (renewed r)
  renewed_bytes = record_bytes (held_samples r) (held_interval r) (held_by r) (held_proper r b e)

  pub renewed_valid : form_causes (renewed r) ≡ Fine
  renewed_valid = record_no_cause (held_samples r) (held_interval r) (held_by r) (held_proper r b e)

  pub renewed_newest : IsNewest (renewed r)
  renewed_newest = record_newest (held_samples r) (held_interval r) (held_by r) (held_proper r b e)

  pub renewed_holds : held_by (renewed r) ≡ held_by r
  renewed_holds = record_again (held_samples r) (held_interval r) (held_by r) (held_proper r b e)

  -- Its N and T are as they were,
  pub renewed_samples : held_samples (renewed r) ≡ held_samples r
  renewed_samples = record_samples (held_samples r) (held_interval r) (held_by r) (held_proper r b e)

  pub renewed_traces : held_count (renewed r) (held_samples (renewed r)) ≡ held_count r (held_samples r)
  renewed_traces =
      ap (held_count (renewed r)) renewed_samples ∙ record_traces (held_samples r) (held_interval r) (held_by r) (held_proper r b e) ∙ held_count_lem r

  -- THEOREM. and its length is that of a record of T traces of N samples,
  pub renewed_length : let n = held_samples r in length (renewed r) ≡ 3273 + held_count r n * (183 + (3 * ((n + 5999) / 6000) + n * 6))
  unfolding fields_in
  renewed_length =
      record_length_lem (held_samples r) (held_interval r) (held_by r) (held_proper r b e) ∙ ap (λ (t : ℕ). record_length t (held_samples r)) (held_count_lem r)

  -- THEOREM. three bytes more for each trace that had the earlier single field: its samples have two tags and lengths in place of one.
  pub renewed_longer : length (renewed r) ≡ length r + 3 * earlier_traces r
  unfolding fields_in
  renewed_longer =
      omega (arith, held_length tag04 r e, renewed_length, place_earlier r (held_samples r) (held_count r (held_samples r)))

-- THEOREM. The newest form is one function of what a record holds: two valid records are renewed to the same bytes exactly when they hold the
-- same.
pub renewed_only : (r₁ r₂ : List ℕ) → Bytes r₁ → Bytes r₂ → form_causes r₁ ≡ Fine → form_causes r₂ ≡ Fine
    → Iff (renewed r₁ ≡ renewed r₂) (held_by r₁ ≡ held_by r₂)
renewed_only r₁ r₂ b₁ b₂ e₁ e₂ = (λ q. sym (renewed_holds r₁ b₁ e₁) ∙ ap held_by q ∙ renewed_holds r₂ b₂ e₂, ap record_of)

-- THEOREM. Renewed twice is renewed once.
pub renewed_twice : (r : List ℕ) → Bytes r → form_causes r ≡ Fine → renewed (renewed r) ≡ renewed r
renewed_twice r b e = ap record_of (renewed_holds r b e)
