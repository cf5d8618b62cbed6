-- The pair of a value: that of ± o × 2 ^ t, for an odd o, is ± o with the exponent t less the denominator's; and the value of the pair of a value is the value again. Assumes nothing.
use mathlib.Core.Path.{◌≡◌, refl, sym, ap, ◌∙◌, subst}
use mathlib.Core.Logic.{⊎_elim}
use mathlib.Core.Bool.{Bool, true, false}
use Prim.Native.Nat.{ℕ, zero, suc, ◌-◌, ◌*◌, ◌%◌, ◌^◌, ◌≤◌, ◌<◌}
use native.Mathlib.Nat.{lt_of_le_of_lt, zero-lt-suc}
use native.Mathlib.Omega.{arith}
use lib.IntN.{ℤ, pos, negsuc, sub_ℕ, ◌+ℤ◌}
use mir.Syntax.{Width}
use mir.Val.{SFits, hbits}
use Rattle.numbers.proofs.SignLaws.{below_or, sub_below, sub_above}
use Rattle.formats.specs.Codes.{denominator_power}
use Rattle.numbers.specs.SignMagnitude.{sign_magnitude}
use Rattle.value.specs.Pair.{twos, odd_part, pair_of, value_of}
use Rattle.numbers.proofs.Magnitudes.{signed_mul}
use Rattle.value.proofs.Twos.{twos_at, odd_part_at, below_shl, twos_split}

-- a difference of naturals, and a magnitude with its sign, fit a signed width

pub sfits_sub : (w : Width) (a b : ℕ) → a < 2 ^ hbits w → b ≤ 2 ^ hbits w → SFits w (sub_ℕ a b)
sfits_sub w a b h l =
    ⊎_elim (λ p. subst (SFits w) (sym (sub_below a b p)) (record { sfits = omega arith }))
    (λ p. subst (SFits w) (sym (sub_above a b p)) (record { sfits = omega arith })) (below_or a b)

-- the pair of a value other than zero, by its sign and magnitude

pub pair_of_lem : (s : Bool) (a : ℕ) → 0 < a → pair_of (sign_magnitude s a) ≡ record { e = sub_ℕ (twos a) denominator_power; m = sign_magnitude s (odd_part a) }
pair_of_lem s zero p = absurd (none p)
  where
    none : 0 < 0 → ⊥
    none p = omega arith
pair_of_lem false (suc n) p = refl
pair_of_lem true (suc n) p = refl

-- o is odd
pub pair_at : (s : Bool) (o t : ℕ) → o % 2 ≡ 1 → pair_of (sign_magnitude s (o * 2 ^ t)) ≡ record { e = sub_ℕ t denominator_power; m = sign_magnitude s o }
pair_at s o t e = rw (pair_of_lem s (o * 2 ^ t) (lt_of_le_of_lt (zero≤ t) (below_shl o t e)), twos_at o t e, odd_part_at o t e)
  where
    zero≤ : (t : ℕ) → 0 ≤ t
    zero≤ t = omega arith

-- the value of the pair of a value is the value again, so no two values have one pair

pub sub_add : (t d : ℕ) → sub_ℕ t d +ℤ pos d ≡ pos t
sub_add t d =
    ⊎_elim (λ p. rw (sub_below t d p, sub_above d (suc (d - suc t)) (omega arith)) (ap pos (omega arith)))
    (λ p. rw (sub_above t d p) (ap pos (omega arith))) (below_or t d)

value_signed : (s : Bool) (a : ℕ) → 0 < a → value_of (pair_of (sign_magnitude s a)) ≡ sign_magnitude s a
value_signed s a p =
    let t = twos_split a p in
    rw (pair_of_lem s a p, sub_add (twos a) denominator_power, signed_mul s (odd_part a) (2 ^ twos a), ← t.0)

pub value_pair : (v : ℤ) → value_of (pair_of v) ≡ v
value_pair (pos zero) = refl
value_pair (pos (suc n)) = value_signed false (suc n) (zero-lt-suc n)
value_pair (negsuc n) = value_signed true (suc n) (zero-lt-suc n)

pub pair_of_inj : (v w : ℤ) → pair_of v ≡ pair_of w → v ≡ w
pair_of_inj v w e = sym (value_pair v) ∙ ap value_of e ∙ value_pair w
