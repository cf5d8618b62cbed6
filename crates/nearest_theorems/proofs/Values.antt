-- Values and their nearest under a code: the nearest value has a word and a canonical pair, and a value is its own nearest exactly where it
-- has a word. Assumes nothing but that the code is one.
use mathlib.Core.Path.{◌≡◌, refl, sym, ap, ◌∙◌, subst}
use mathlib.Core.Bool.{true, false, not}
use Prim.Native.Nat.{ℕ, ◌^◌, ◌<◌}
use borrow.Author.Tests.{ltb-true}
use lib.Dec.{T, ltb}
use lib.IntN.{ℤ}
use Rattle.numbers.specs.Iff.{Iff}
use Rattle.numbers.proofs.BoolLaws.{and_true}
use Rattle.formats.specs.Format.{in_format}
use Rattle.formats.specs.Codes.{is_code, sample_bytes, format_of}
use Rattle.formats.specs.Value.{value_in, is_bad, exact_value}
use Rattle.formats.specs.Words.{word_of}
use Rattle.formats.specs.Nearest.{nearest_value, changes}
use Rattle.formats.specs.Written.{Written}
use Rattle.formats.specs.Written.{Word, Refused}
use Rattle.formats.proofs.DifferLaws.{same_differs}
use Rattle.formats.proofs.NearestLaws.{nearest_in_lem, nearest_self, nearest_other, code_rounds}
use Rattle.format_theorems.proofs.WordTheorems.{word_sound, word_complete, word_in_format}
use Rattle.value.specs.Pair.{pair_of, is_canonical}
use Rattle.sample.specs.Calls.{single_word}
use Rattle.sample_theorems.proofs.Pairs.{value_canonical}
use Rattle.sample_theorems.proofs.Words.{single_number, single_bytes}
use Rattle.fit.specs.Target.{is_unfit}

module _ (code : ℕ) (h : is_code code ≡ true) where
  -- LAW. A value has a word exactly where it is one of the code's format.
  fits_format : (v : ℤ) → Iff (is_unfit (word_of code v) ≡ false) (in_format (format_of code) v ≡ true)
  fits_format v = (λ e. there (word_of code v) refl e, λ e. ap is_unfit (word_complete code v h e).1)
    where
      there : (w : Written) → word_of code v ≡ w → is_unfit w ≡ false → in_format (format_of code) v ≡ true
      there (Word n) e q = word_in_format code v n h e
      there (Refused number) e q = absurd (subst T q tt)

  -- LAW. The nearest value has a word.
  pub nearest_fits : (v : ℤ) → is_unfit (word_of code (nearest_value code v)) ≡ false
  nearest_fits v = (fits_format (nearest_value code v)).1 (nearest_in_lem (format_of code) (code_rounds code h) v)

  -- LAW. A value with a word is its own nearest,
  pub fits_self : (v : ℤ) → is_unfit (word_of code v) ≡ false → nearest_value code v ≡ v
  fits_self v e = nearest_self (format_of code) (code_rounds code h) v ((fits_format v).0 e)

  -- and a value doesn't change exactly where it has one.
  pub unchanged_fits : (v : ℤ) → Iff (changes code v ≡ 0) (is_unfit (word_of code v) ≡ false)
  unchanged_fits v = (
    λ e. (fits_format v).1 (nearest_other (format_of code) (code_rounds code h) v (sym ((same_differs v (nearest_value code v)).0 e))),
    λ e. (same_differs v (nearest_value code v)).1 (sym (fits_self v e)),
  )

  -- LAW. A value with a word has a canonical pair.
  pub fits_canonical : (v : ℤ) → is_unfit (word_of code v) ≡ false → is_canonical (pair_of v) ≡ true
  fits_canonical v e =
      let x = word_complete code v h ((fits_format v).0 e) in
      let n = x.0 in
      let s = word_sound code v n h x.1 in
      let small : n < 256 ^ sample_bytes code = ltb-true n (256 ^ sample_bytes code) (and_true (ltb n (256 ^ sample_bytes code)) (not (is_bad code n)) s.0).0 in
      let value : exact_value code (single_word code n) ≡ v = ap (value_in code) (single_number code n h small) ∙ s.1 in
      subst (λ (z : ℤ). is_canonical (pair_of z) ≡ true) value (value_canonical code (single_word code n) h (single_bytes code n h).1)
