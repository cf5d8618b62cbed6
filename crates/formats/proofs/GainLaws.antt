-- The word of ± o × 2 ^ k with the smallest gain. Assumes nothing.
use mathlib.Core.Path.{◌≡◌, sym, ap, ap₂, ◌∙◌, subst}
use mathlib.Core.Logic.{⊎_elim}
use mathlib.Core.Bool.{Bool, false}
use Prim.Native.Nat.{ℕ, ◌+◌, ◌-◌, ◌*◌, ◌/◌, ◌%◌, ◌^◌, ◌≤◌, ◌<◌, min}
use native.Mathlib.Nat.{zero-div, div-le_self, lt_of_le_of_lt, mul_assoc, mul-one, mul-div_cancel}
use native.Mathlib.Omega.{arith}
use borrow.Author.Tests.{lt-ltb}
use lib.IntN.{ℤ, pos}
use lib.Pow.{pow-add, pow_pos}
use native.Mathlib.Nat.{mul-pos}
use Rattle.numbers.specs.Walk.{pick}
use Rattle.numbers.specs.TwosComplement.{bits_of}
use Rattle.numbers.proofs.SignLaws.{below_or}
use Rattle.numbers.specs.SignMagnitude.{sign_magnitude}
use Rattle.formats.specs.Format.{unit}
use Rattle.formats.specs.Codes.{denominator_power, gain_format}
use Rattle.formats.specs.Words.{gain_fits, gain_at, gain_word}
use Rattle.formats.specs.Steps.{Length}
use Rattle.formats.specs.Written.{Word, Refused}
use Rattle.numbers.proofs.FirstLaws.{first_at, none_passes}
use Rattle.numbers.proofs.Magnitudes.{neg_signed, abs_signed}
use Rattle.formats.proofs.FitLaws.{large, zero_fits, serves, no_bits, no_whole, fraction_at}
use Rattle.formats.proofs.Powers.{parted, exact_div}

-- zero has gain 0
pub gain_zero : gain_word (pos 0) ≡ Word 0
gain_zero =
    ap (gain_at (pos 0)) (first_at (gain_fits (pos 0)) 256 0 0 (omega arith) (omega arith) (zero_fits gain_format 255) (λ i z l. absurd (none i l)))
    ∙ ap (λ (x : ℕ). Word (0 * 2 ^ 16 + x)) (zero-div (unit gain_format 255))
  where
    none : (i : ℕ) → i < 0 → ⊥
    none i l = omega arith

-- the power of the last place at gain 255
abbrev pub gain_base : ℕ
gain_base = denominator_power - 255

module _ (s : Bool) (o k : ℕ) (odd : o % 2 ≡ 1) where
  abbrev v : ℤ
  v = sign_magnitude s (o * 2 ^ k)

  some : 0 < o * 2 ^ k
  some = mul-pos (let z : 0 < o = omega (arith, odd) in z) (pow_pos k)

  none_serves : ((c : ℕ) → c < 256 → gain_fits v c ≡ false) → gain_word v ≡ Refused 14
  none_serves f = ap (gain_at v) (none_passes (gain_fits v) 256 0 (λ i z h. f i (omega arith)))

  -- a larger characteristic leaves a fraction of the number
  odd_at : (g : ℕ) → k < gain_base + (255 - g) → gain_fits v g ≡ false
  odd_at g h = no_whole gain_format s o k odd (255 - g) (omega arith)

  pub gain_low : k < gain_base → gain_word v ≡ Refused 14
  gain_low h = none_serves (λ g l. odd_at g (omega arith))

  module _ (n : ℕ) (length : Length (pick s 1 0) o n) where
    big_at : (g : ℕ) → 15 + gain_base + (255 - g) < n + k → gain_fits v g ≡ false
    big_at g h = no_bits gain_format s o k odd n length (255 - g) (omega arith)

    module _ (c : ℕ) (most : c ≡ min (k - gain_base) 255) (h : gain_base ≤ k) where
      pub gain_high : 15 + gain_base + c < n + k → gain_word v ≡ Refused 14
      gain_high l = none_serves (λ g j. ⊎_elim (λ (p : c < 255 - g). odd_at g (omega arith)) (λ (p : 255 - g ≤ c). big_at g (omega arith)) (below_or c (255 - g)))

      module _ (l : n + k ≤ 15 + gain_base + c) where
        same : gain_base + 1 * c ≡ gain_base + c
        same = omega arith

        pub gain_few : o * 2 ^ (k - (gain_base + c)) < 2 ^ 15 + pick s 1 0
        gain_few = subst (λ (y : ℕ). o * 2 ^ (k - y) < 2 ^ 15 + pick s 1 0) same (fraction_at gain_format s o k odd n length c (omega arith) (omega arith))

        pub gain_at_lem : gain_word v ≡ Word ((255 - c) * 2 ^ 16 + bits_of 16 (sign_magnitude s (o * 2 ^ (k - (gain_base + c)))))
        gain_at_lem =
            let power : gain_base + 1 * (255 - (255 - c)) ≡ gain_base + c = omega arith in
            ap (gain_at v) (first_at (gain_fits v) 256 0 (255 - c) (omega arith) (omega arith)
            (serves gain_format s o k odd n length (255 - (255 - c)) (omega arith) (omega arith))
            (λ g z p. odd_at g (omega arith)))
            ∙ rw (lt-ltb (255 - c) 256 (omega arith), abs_signed s (o * 2 ^ k), neg_signed s (o * 2 ^ k) some, power, exact_div o k (gain_base + c) (omega arith))

-- the word of a fraction f beside a characteristic c, where f is o × 2 ^ t and t of the twos are taken out, as many as the gain allows
module _ (s : Bool) (o t c f n : ℕ) (odd : o % 2 ≡ 1) (is : f ≡ o * 2 ^ t) (low : c ≤ 255) (few : f < 2 ^ 15 + pick s 1 0) (length : Length (pick s 1 0) o n) where
  -- what is left of f
  pub left_few : f / 2 ^ min t (255 - c) < 2 ^ 15 + pick s 1 0
  left_few = lt_of_le_of_lt (div-le_self f (2 ^ min t (255 - c))) few

  pub left_div : f / 2 ^ min t (255 - c) ≡ o * 2 ^ (t - min t (255 - c))
  left_div = ap (λ (y : ℕ). y / 2 ^ min t (255 - c)) (is ∙ parted o t (min t (255 - c)) (omega arith)) ∙ mul-div_cancel (o * 2 ^ (t - min t (255 - c))) (pow_pos (min t (255 - c)))

  pub gain_placed : gain_word (sign_magnitude s (f * unit gain_format c)) ≡ Word ((255 - c - min t (255 - c)) * 2 ^ 16 + bits_of 16 (sign_magnitude s (f / 2 ^ min t (255 - c))))
  gain_placed =
      ap (λ (y : ℕ). gain_word (sign_magnitude s y)) value ∙ gain_at_lem s o k odd n length m most (omega arith) fits
      ∙ ap₂ (λ (x y : ℕ). Word (x * 2 ^ 16 + bits_of 16 (sign_magnitude s y))) gains (ap (λ (y : ℕ). o * 2 ^ y) rest ∙ sym left_div)
    where
      k : ℕ
      k = gain_base + c + t

      m : ℕ
      m = c + min t (255 - c)

      value : f * unit gain_format c ≡ o * 2 ^ k
      value =
          let e : gain_base + c + t ≡ t + (gain_base + 1 * c) = omega arith in
          ap (λ (y : ℕ). y * unit gain_format c) is ∙ mul_assoc o (2 ^ t) (unit gain_format c) ∙ ap (λ (y : ℕ). o * y) (sym (pow-add 2 t (gain_base + 1 * c))) ∙ ap (λ (y : ℕ). o * 2 ^ y) (sym e)

      most : m ≡ min (k - gain_base) 255
      most = omega (arith, low)

      rest : k - (gain_base + m) ≡ t - min t (255 - c)
      rest = omega (arith, low)

      gains : 255 - m ≡ 255 - c - min t (255 - c)
      gains = omega (arith, low)

      fits : n + k ≤ 15 + gain_base + m
      fits =
          ⊎_elim (λ (h : 15 + gain_base + m < n + k). absurd (none (large o (t - min t (255 - c)) n 15 0 (o * 2 ^ (t - min t (255 - c))) (sym (mul-one _)) s length (omega (arith, low)))))
          (λ (h : n + k ≤ 15 + gain_base + m). h) (below_or (15 + gain_base + m) (n + k))
        where
          none : 2 ^ 15 + pick s 1 0 ≤ o * 2 ^ (t - min t (255 - c)) → ⊥
          none h = omega (arith, left_few, left_div)
