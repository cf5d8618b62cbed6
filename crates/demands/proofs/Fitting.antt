-- # Which records a target code can hold
--
-- 14 finds nothing in a record exactly when each sample that it holds has a word under the target code; and a value with a canonical pair
-- has one exactly when some word of that code has the value. Assumes nothing.
use mathlib.Core.Path.{◌≡◌, refl, sym, ap, ◌∙◌, subst}
use mathlib.Core.List.{List}
use mathlib.Core.Bool.{Bool, true, false}
use Prim.Native.Nat.{ℕ, ◌+◌}
use lib.Dec.{T}
use lib.IntN.{ℤ}
use Rattle.numbers.specs.Cause.{refuse_if}
use Rattle.numbers.specs.Cause.{Fine}
use Rattle.numbers.specs.Terms.{All}
use Rattle.numbers.specs.Iff.{Iff}
use Rattle.numbers.proofs.CauseLaws.{passed, first_all, all_first}
use Rattle.formats.specs.Codes.{is_code}
use Rattle.value.specs.Pair.{pair_of, is_canonical, pair_length}
use Rattle.formats.specs.Words.{word_of, Writes}
use Rattle.value.specs.Writing.{write_pair}
use Rattle.formats.specs.Written.{Written}
use Rattle.formats.specs.Written.{Word, Refused}
use Rattle.sample_theorems.proofs.Pairs.{pair_value}
use Rattle.value.proofs.WrittenLaws.{written_is}
use Rattle.sample.specs.Calls.{single_word}
use Rattle.sample_theorems.proofs.Words.{single_bytes, writing_sound, writing_complete}
use Rattle.reel.specs.Meaning.{Trace, Meaning}
use Rattle.fields.specs.Fields.{pair_place}
use Rattle.record.specs.Kind.{tag04}
use Rattle.record.specs.Form.{held_samples, share_in, trace_place, held_count}
use Rattle.record.specs.Held.{held_value, held_values_in, held_trace_in, held_by_in, held_by}
use Rattle.fit.specs.Target.{is_unfit, fit_cause, samples_fit, trace_fit, fit_causes}
use Rattle.demands.specs.Words.{HasWord}

-- ## What a record holds

-- Each value of a trace has a word under the code.
abbrev pub FittingTrace : ℕ → Trace → Type 0
FittingTrace code t = All (λ v. is_unfit (word_of code v) ≡ false) t.values

-- Each value of a meaning has a word under the code.
abbrev pub Fitting : ℕ → Meaning → Type 0
Fitting code m = All (FittingTrace code) m.traces

-- 14 finds nothing in a trace exactly when each of its values has a word.
trace_fit_is : (s : List ℕ) (code n at : ℕ) → Iff (trace_fit s code n at ≡ Fine) (FittingTrace code (held_trace_in tag04 s n at))
unfolding samples_fit held_trace_in held_values_in
trace_fit_is s code n at = (
  first_all (λ j. fit_cause s code (place j)) (λ j. held_value s (place j)) (λ v. is_unfit (word_of code v) ≡ false) (λ j e. passed (is_unfit (word_of code (held_value s (place j)))) 14 (place j) e) 1 n 0,
  all_first (λ j. fit_cause s code (place j)) (λ j. held_value s (place j)) (λ v. is_unfit (word_of code v) ≡ false) (λ j e. ap (λ (b : Bool). refuse_if b 14 (place j)) e) 1 n 0,
)
  where
    place : ℕ → ℕ
    place j = pair_place pair_length (share_in tag04 s n (at + 183)) (at + 183) j

-- LAW. 14 finds nothing in a record exactly when each sample that it holds has a word under the code.
pub fit_is : (s : List ℕ) (code : ℕ) → Iff (fit_causes s code (held_samples s) (held_count s (held_samples s)) ≡ Fine) (Fitting code (held_by s))
unfolding fit_causes held_by_in
fit_is s code =
    let n = held_samples s in
    let t = held_count s n in (
      first_all (λ j. trace_fit s code n (trace_place s n j)) (λ j. held_trace_in tag04 s n (trace_place s n j)) (FittingTrace code) (λ j. (trace_fit_is s code n (trace_place s n j)).0) 1 t 0,
      all_first (λ j. trace_fit s code n (trace_place s n j)) (λ j. held_trace_in tag04 s n (trace_place s n j)) (FittingTrace code) (λ j. (trace_fit_is s code n (trace_place s n j)).1) 1 t 0,
    )

-- ## A value

-- What is not unfit is a word.
fit_word : (r : Written) → is_unfit r ≡ false → Writes r
fit_word (Word n) e = (n, refl)
fit_word (Refused number) e = absurd (subst T e tt)

-- LAW. A value with a canonical pair fits a code exactly when the code has a word of that value.
pub fits_is : (code : ℕ) (v : ℤ) → is_code code ≡ true → is_canonical (pair_of v) ≡ true → Iff (is_unfit (word_of code v) ≡ false) (HasWord code v)
fits_is code v h c = (there, back)
  where
    there : is_unfit (word_of code v) ≡ false → HasWord code v
    there e =
        let x = fit_word (word_of code v) e in
        let w : write_pair code (pair_of v) ≡ Word x.0 = rw (h, c, pair_value v) x.1 in
        let s = writing_sound code (pair_of v) x.0 w in
        let b = single_bytes code x.0 h in
        record { word = single_word code x.0; size = b.0; bytes = b.1; good = s.good; value = s.value ∙ pair_value v }

    back : HasWord code v → is_unfit (word_of code v) ≡ false
    back w =
        let x = writing_complete code (pair_of v) w.word h c w.bytes w.good (w.value ∙ sym (pair_value v)) in
        ap (λ (z : ℤ). is_unfit (word_of code z)) (sym (pair_value v)) ∙ ap is_unfit (written_is code (pair_of v) x.0 x.1).2
