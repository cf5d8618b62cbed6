-- The three ways in which reading a reel ends. Assumes nothing.
use mathlib.Core.Path.{◌≡◌, sym, ap, ap₂, ◌∙◌, subst}
use mathlib.Core.List.{List, [], ◌∷◌, ◌++◌}
use mathlib.Core.Bool.{true}
use Prim.Native.Nat.{ℕ, ◌+◌, ◌*◌, ◌≤◌, ◌<◌}
use native.Mathlib.Nat.{mul-le-mul}
use native.Mathlib.Omega.{arith}
use borrow.Author.Tests.{lt-ltb, le-ltb}
use lib.ListN.{length, drop}
use Rattle.std.specs.Prelude.{Ok, Err}
use Rattle.numbers.specs.Terms.{Bytes}
use Rattle.numbers.specs.Outcome.{taken, refused, Outcome}
use Rattle.numbers.specs.Cause.{cause_no}
use Rattle.numbers.specs.Cause as check
use Rattle.numbers.specs.declared.Cause.TheVariants.{ShortOutput}
use Rattle.numbers.specs.declared.Place.{Place}
use Rattle.numbers.specs.declared.Refusal.{Refusal}
use Rattle.numbers.specs.Places.{place_no}
use Rattle.reel.specs.Layout.{first_trace, samples_of, interval_of, code_of, stride, stride_in, stride_by, traces_by}
use Rattle.formats.specs.Codes.{sample_bytes, is_code}
use Rattle.reel.specs.Causes.{most_samples, most_traces, causes_by}
use Rattle.reel.specs.NotNormal.{not_normal_among, not_normal_by}
use Rattle.reel.proofs.CheckLaws.{Numbers, fine_by, inside_by, stride_holds}
use Rattle.reel.proofs.JudgedLaws.{Own}
use Rattle.reel.specs.declared.Layout.{Layout}
use Rattle.fields.specs.Fields.{fields_in}
use Rattle.record.specs.Record.{trace_length, record_by, record_length}
use Rattle.record.specs.Answer.{counted_outcome}
use Rattle.read_reel.specs.Reading.{record_length_by, read_causes_by, read_end_by, read_outcome_by}
use Rattle.read_reel.specs.Copied.{record_copied}
use Rattle.read_reel.proofs.RecordLaws.{record_is}

-- a trace of a record is at most 196,803 bytes: 183, and 32,767 samples in six fields
trace_most : (n : ℕ) → n ≤ most_samples → trace_length n ≤ 196803
unfolding fields_in
trace_most n h = omega (arith, h)

-- what the code asks of its numbers
pub record Fit (s : List ℕ) (code n i v w t : ℕ) : Type 0 where
  pub a_code : is_code code ≡ true
  pub width : v ≡ sample_bytes code
  pub n_high : n ≤ most_samples
  pub i_high : i ≤ 32767
  pub strides : stride n v ≤ w
  pub few : t ≤ most_traces
  pub room : first_trace + t * w ≤ length s
  pub most : trace_length n ≤ 196803
  pub size : t * trace_length n ≤ 100000 * 196803

pub fit : (k : Layout) (s : List ℕ) (code n i v w t : ℕ) → Own k s code n i v w t → Fit s code n i v w t
fit x s code n i v w t o =
    let h = fine_by x s o.fine in
    let k : Numbers code n i = subst (λ (x : ℕ). Numbers code n x) o.i_is (subst (λ (x : ℕ). Numbers code x (interval_of s)) o.n_is (subst (λ (x : ℕ). Numbers x (samples_of s) (interval_of s)) o.code_is h.numbers)) in
    let r = inside_by x s h in
    let few : t ≤ most_traces = subst (λ (x : ℕ). x ≤ most_traces) o.t_is h.few in
    let most : trace_length n ≤ 196803 = trace_most n k.n_high in
    record {
      a_code = k.is_code_lem;
      width = sym o.v_is ∙ ap sample_bytes o.code_is;
      n_high = k.n_high;
      i_high = k.i_high;
      strides = subst (λ (y : ℕ). stride n v ≤ y) (ap₂ (stride_in x) (sym o.n_is) (sym o.v_is) ∙ o.w_is) (stride_holds x n v);
      few = few;
      room = subst (λ (x : ℕ). first_trace + x * w ≤ length s) o.t_is (subst (λ (y : ℕ). first_trace + traces_by x s * y ≤ length s) o.w_is r);
      most = most;
      size = mul-le-mul few most;
    }

-- ## The ends

module _ (layout : Layout) (s out : List ℕ) where
  -- a reel that is refused, by whatever number: the number and the place, and what was lent as it was
  pub refused_by_number : (number : ℕ) (place : Place) → causes_by layout s ≡ check.Refused number place
      → ◌≡◌ {A = Outcome} (record { said = refused number (place_no place); bytes = out }) (read_outcome_by layout s out)
  refused_by_number number place e = rw e

  -- the same of a refusal, by its cause
  pub refused_end : (r : Refusal) → causes_by layout s ≡ check.Refused (cause_no r.cause) r.place → counted_outcome (Err r) out ≡ read_outcome_by layout s out
  refused_end r e = refused_by_number (cause_no r.cause) r.place e

  module _ (code n i v w t : ℕ) (o : Own layout s code n i v w t) where
    length_is : record_length_by layout s ≡ record_length t n
    length_is = ap₂ record_length o.t_is o.n_is

    pub short_end : (size : ℕ) → size ≡ record_length t n → length out < size
        → counted_outcome (Err (record { cause = ShortOutput; place = record { 0 = size } })) out ≡ read_outcome_by layout s out
    short_end size q l = rw (o.fine, length_is, q, lt-ltb (length out) (record_length t n) (subst (λ (x : ℕ). length out < x) q l))

    pub taken_end : Bytes s → (size : ℕ) → size ≡ record_length t n → (ys : List ℕ) (k : ℕ) → ys ≡ record_copied layout s code n i w t → k ≡ not_normal_among s code n w t first_trace → size ≤ length out
        → counted_outcome (Ok (record { traces = t; samples = n; length = size; count = k })) (ys ++ drop size out) ≡ read_outcome_by layout s out
    taken_end b size q ys k e count l =
        let r : record_by layout s ≡ ys = record_is layout s b ∙ copied_is ∙ sym e in
        let fine : read_causes_by layout s (length out) ≡ check.Fine = rw (o.fine, length_is, le-ltb (length out) (record_length t n) (subst (λ (x : ℕ). x ≤ length out) q l)) in
        sym (ap (read_end_by layout s out) fine ∙ ap (λ (x : ℕ). made x (samples_of s) (record_length_by layout s) (not_normal_by layout s) (record_by layout s)) o.t_is ∙ ap (λ (x : ℕ). made t x (record_length_by layout s) (not_normal_by layout s) (record_by layout s)) o.n_is
        ∙ ap₂ (λ (x : ℕ) (y : List ℕ). made t n x (not_normal_by layout s) y) (length_is ∙ sym q) r ∙ ap (λ (x : ℕ). made t n size x ys) (counted_is ∙ sym count))
      where
        made : ℕ → ℕ → ℕ → ℕ → List ℕ → Outcome
        made a b size x y = record { said = taken (a ∷ b ∷ size ∷ x ∷ []); bytes = y ++ drop size out }

        -- by the reel's own numbers, which are those of the code
        by_numbers : {A : Type 0} (f : ℕ → ℕ → ℕ → ℕ → ℕ → A) → f (code_of s) (samples_of s) (interval_of s) (stride_by layout s) (traces_by layout s) ≡ f code n i w t
        by_numbers f =
            ap (λ (x : ℕ). f x (samples_of s) (interval_of s) (stride_by layout s) (traces_by layout s)) o.code_is
            ∙ ap (λ (x : ℕ). f code x (interval_of s) (stride_by layout s) (traces_by layout s)) o.n_is
            ∙ ap (λ (x : ℕ). f code n x (stride_by layout s) (traces_by layout s)) o.i_is
            ∙ ap₂ (λ (x y : ℕ). f code n i x y) o.w_is o.t_is

        copied_is : record_copied layout s (code_of s) (samples_of s) (interval_of s) (stride_by layout s) (traces_by layout s) ≡ record_copied layout s code n i w t
        copied_is = by_numbers (record_copied layout s)

        counted_is : not_normal_by layout s ≡ not_normal_among s code n w t first_trace
        counted_is = by_numbers (λ c n i w t. not_normal_among s c n w t first_trace)
