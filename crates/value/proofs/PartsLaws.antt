-- What writing zero gives, exactly and to the nearest. Assumes nothing.
use Prim.Native.Nat.{ℕ}
use mathlib.Core.Path.{◌≡◌, refl, ap, ap₂, ◌∙◌}
use mathlib.Core.Bool.{true}
use lib.IntN.{ℤ, pos}
use Rattle.numbers.specs.First.{first}
use Rattle.formats.specs.Codes.{is_code, format_of}
use Rattle.formats.specs.Words.{word_of, word_bits}
use Rattle.formats.specs.Nearest.{nearest_in, differs}
use Rattle.value.specs.Writing.{Rounded, write_pair, rounded_by, nearest_pair}
use Rattle.value.specs.Parts.{PartsOf}
use Rattle.value.specs.declared.Pair.{Pair}
use Rattle.std.specs.Prelude.{None, Ok}
use Rattle.formats.specs.Written.{Word}
use Rattle.formats.proofs.CodeLaws.{Code, ibm, whole32, whole16, gain, ieee, whole8, code_is}
use Rattle.formats.proofs.FitLaws.{zero_fits}
use Rattle.formats.proofs.PlacedLaws.{fits_in_format}
use Rattle.formats.proofs.NearestLaws.{nearest_self, code_rounds}

-- zero is written as 00000000 under every code
zero_word : (code : ℕ) → is_code code ≡ true → word_of code (pos 0) ≡ Word 0
unfolding first
zero_word code i = go code (code_is code i)
  where
    go : (code : ℕ) → Code code → word_of code (pos 0) ≡ Word 0
    go code ibm = refl
    go code whole32 = refl
    go code whole16 = refl
    go code gain = refl
    go code ieee = refl
    go code whole8 = refl

-- what is given of zero
abbrev pub nothing : Rounded
nothing = record { bits = 0; changed = 0 }

module _ (code : ℕ) (p : Pair) (i : is_code code ≡ true) where
  pub zero_pair : PartsOf p (Ok None) → write_pair code p ≡ Word 0
  zero_pair h = rw (i, h.0, h.1) (zero_word code i)

  -- ## To the nearest

  -- zero is its own nearest
  zero_self : nearest_in (format_of code) (pos 0) ≡ pos 0
  zero_self =
      let ok = code_rounds code i in
      nearest_self (format_of code) ok (pos 0) (fits_in_format (format_of code) (pos 0) 0 ok.some (zero_fits (format_of code) 0))

  near_of_zero : rounded_by (word_of code) (format_of code) (pos 0) ≡ nothing
  near_of_zero =
      ap₂ (λ (b c : ℕ). record { bits = b; changed = c }) (ap (λ (v : ℤ). word_bits (word_of code v)) zero_self ∙ ap word_bits (zero_word code i))
      (ap (differs (pos 0)) zero_self)

  pub near_zero : PartsOf p (Ok None) → nearest_pair code p ≡ nothing
  near_zero h = rw (i, h.0) (ap (rounded_by (word_of code) (format_of code)) h.1 ∙ near_of_zero)
