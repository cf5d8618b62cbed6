-- # Code 1: the normal word of a value
--
-- Every IBM word has a normal word of its value, and only one: the one that is written.
use mathlib.Core.Path.{◌≡◌, refl, sym, ap, ap₂, ◌∙◌, subst}
use mathlib.Core.Logic.{◌⊎◌, inl, inr, ⊎_elim}
use mathlib.Core.Bool.{Bool, true, false, not, ◌||◌}
use Prim.Native.Nat.{ℕ, ◌*◌, ◌^◌, ◌≤◌, ◌<◌}
use native.Mathlib.Nat.{zero-mul}
use native.Mathlib.Omega.{arith}
use borrow.Author.Tests.{lt-leb, le-leb, eqb-true, eqb-false, eq-eqb, ne_eqb}
use lib.Dec.{eqb}
use lib.IntN.{ℤ, pos, nat_abs}
use Rattle.numbers.specs.Iff.{Iff}
use Rattle.numbers.specs.Walk.{pick}
use Rattle.numbers.specs.SignMagnitude.{sign_magnitude, is_negative}
use Rattle.numbers.proofs.BoolLaws.{or_true}
use Rattle.numbers.proofs.SignLaws.{below_or, abs_zero}
use Rattle.numbers.proofs.Magnitudes.{neg_signed, signed_back}
use Rattle.formats.specs.Format.{unit, placed}
use Rattle.formats.specs.Codes.{ibm_format}
use Rattle.formats.specs.Value.{sign_bit, characteristic, fraction, ibm_value}
use Rattle.formats.specs.Words.{float_bits, float_of, first_digit, is_normal, ibm_word, Writes}
use Rattle.formats.specs.Format.{beside}
use Rattle.std.specs.Prelude.{Some}
use Rattle.formats.specs.Written.{Word}
use Rattle.formats.proofs.PlacedLaws.{Place, placed_normal, placed_only, place_zero, value_in_format}
use Rattle.formats.proofs.WordLaws.{float_is, float_some}
use Rattle.formats.proofs.NormalLaws.{abs_value, zero_fraction, large, normal_tests}
use Rattle.format_theorems.specs.Statements.{NormalOf}
use Rattle.format_theorems.proofs.OneFit.{IbmFields, ibm_fields, ibm_value_lem, ibm_in}

-- ## What a normal word is

-- the first hexadecimal digit of F isn't 0 only where F is 2 ^ 20 or more
digit : (n : ℕ) → (first_digit n ≡ 0 → ⊥) → 2 ^ 20 ≤ fraction n
digit n d = ⊎_elim (λ (l : fraction n < 2 ^ 20). absurd (d (omega arith))) (λ (l : 2 ^ 20 ≤ fraction n). l) (below_or (fraction n) (2 ^ 20))

-- of the words of zero only 00000000 is normal
normal_zero : (n : ℕ) → is_normal n ≡ true → ibm_value n ≡ pos 0 → n ≡ 0
unfolding is_normal
normal_zero n e z = eqb-true n 0 (rw z at e)

-- the first hexadecimal digit of a normal word isn't 0, or its characteristic is
normal_or : (n : ℕ) → is_normal n ≡ true → (characteristic n ≡ 0) ⊎ (2 ^ 20 ≤ fraction n)
normal_or n e = go (eqb (fraction n) 0) (eqb (first_digit n) 0) refl (sym (normal_tests n) ∙ e)
  where
    go : (b d : Bool) → eqb (first_digit n) 0 ≡ d → pick b (eqb n 0) (not d || eqb (characteristic n) 0) ≡ true → (characteristic n ≡ 0) ⊎ (2 ^ 20 ≤ fraction n)
    go true d q h = inl (ap characteristic (eqb-true n 0 h))
    go false true q h = inl (eqb-true (characteristic n) 0 h)
    go false false q h = inr (digit n (eqb-false (first_digit n) 0 q))

-- and a word other than zero's, of which that holds, is normal
normal_yes : (n : ℕ) → 0 < fraction n → (characteristic n ≡ 0) ⊎ (2 ^ 20 ≤ fraction n) → is_normal n ≡ true
normal_yes n l h =
    normal_tests n
    ∙ rw (ne_eqb (fraction n) 0 none)
    (⊎_elim (λ (c : characteristic n ≡ 0). rw (eq-eqb (characteristic n) 0 c) (or_true (not (eqb (first_digit n) 0))))
    (λ (d : 2 ^ 20 ≤ fraction n). rw (ne_eqb (first_digit n) 0 (large n d))) h)
  where
    none : fraction n ≡ 0 → ⊥
    none e = omega arith

-- a value other than zero has a fraction
some_fraction : (n : ℕ) → (ibm_value n ≡ pos 0 → ⊥) → 0 < fraction n
some_fraction n h =
    ⊎_elim (λ (l : fraction n < 1). absurd (h (abs_zero (ibm_value n) (eqb-true (nat_abs (ibm_value n)) 0 (zero_fraction n ∙ eq-eqb (fraction n) 0 (omega arith))))))
    (λ (l : 1 ≤ fraction n). l) (below_or (fraction n) 1)

-- THEOREM. What it is to be normal, as a statement: for zero the word is 00000000; otherwise the first hexadecimal digit of F isn't 0, unless C is 0.
pub normal_means : (n : ℕ) → Iff (is_normal n ≡ true) ((ibm_value n ≡ pos 0 → n ≡ 0) × ((ibm_value n ≡ pos 0 → ⊥) → (first_digit n ≡ 0 → ⊥) ⊎ (characteristic n ≡ 0)))
normal_means n = (there, back)
  where
    there : is_normal n ≡ true → (ibm_value n ≡ pos 0 → n ≡ 0) × ((ibm_value n ≡ pos 0 → ⊥) → (first_digit n ≡ 0 → ⊥) ⊎ (characteristic n ≡ 0))
    there e = (normal_zero n e, λ z. ⊎_elim (λ (c : characteristic n ≡ 0). inr c) (λ (d : 2 ^ 20 ≤ fraction n). inl (large n d)) (normal_or n e))

    back : (ibm_value n ≡ pos 0 → n ≡ 0) × ((ibm_value n ≡ pos 0 → ⊥) → (first_digit n ≡ 0 → ⊥) ⊎ (characteristic n ≡ 0)) → is_normal n ≡ true
    back h =
        ⊎_elim (λ (l : nat_abs (ibm_value n) < 1). ap is_normal (h.0 (abs_zero (ibm_value n) (omega arith))) ∙ normal_tests 0)
        (λ (l : 1 ≤ nat_abs (ibm_value n)).
        let some : ibm_value n ≡ pos 0 → ⊥ = λ z. none l (ap nat_abs z) in
        normal_yes n (some_fraction n some) (⊎_elim (λ (d : first_digit n ≡ 0 → ⊥). inr (digit n d)) (λ (c : characteristic n ≡ 0). inl c) (h.1 some))) (below_or (nat_abs (ibm_value n)) 1)
      where
        none : 1 ≤ nat_abs (ibm_value n) → nat_abs (ibm_value n) ≡ 0 → ⊥
        none l e = omega arith

-- ## Normal words and their values determine each other

-- the sign of a normal word is its value's
sign_is : (n : ℕ) → is_normal n ≡ true → is_negative (ibm_value n) ≡ sign_bit n
sign_is n t =
    ⊎_elim
    (λ (l : nat_abs (ibm_value n) < 1).
    let z : ibm_value n ≡ pos 0 = abs_zero (ibm_value n) (omega arith) in
    ap is_negative z ∙ sym (ap sign_bit (normal_zero n t z)))
    (λ (l : 1 ≤ nat_abs (ibm_value n)). neg_signed (sign_bit n) (fraction n * unit ibm_format (characteristic n)) (rw (abs_value n) at l)) (below_or (nat_abs (ibm_value n)) 1)

-- a word is its parts
bits_parts : (n : ℕ) → n < 2 ^ 32 → float_bits 32 24 (sign_bit n) (characteristic n) (fraction n) ≡ n
bits_parts n h =
    ⊎_elim (λ (l : n < 2 ^ 31). rw (lt-leb (2 ^ 31) n l) (omega arith)) (λ (l : 2 ^ 31 ≤ n). rw (le-leb (2 ^ 31) n l) (omega arith)) (below_or n (2 ^ 31))

-- THEOREM. What is written of a normal word's value is the word.
pub normal_again : (n : ℕ) → n < 2 ^ 32 → is_normal n ≡ true → ibm_word (ibm_value n) ≡ Word n
normal_again n h t =
    ap (float_of 32 24 (is_negative (ibm_value n))) at ∙ ap (λ (b : Bool). Word (float_bits 32 24 b (characteristic n) (fraction n))) (sign_is n t) ∙ ap (λ (k : ℕ). Word k) (bits_parts n h)
  where
    at : placed ibm_format (ibm_value n) ≡ Some (beside (characteristic n) (fraction n))
    at = placed_only ibm_format (ibm_value n) (characteristic n) (fraction n) refl (omega arith) (omega arith) (omega arith) (abs_value n) (normal_or n t)

-- the word of a value's place is normal
module _ (v : ℤ) (c f : ℕ) (p : Place ibm_format v c f) where
  abbrev bits : ℕ
  bits = float_bits 32 24 (is_negative v) c f

  small : f < 2 ^ 24
  small = omega (arith, p.fits)

  parts : IbmFields (is_negative v) c f bits
  parts = ibm_fields (is_negative v) c f p.below small

  zero_bits : v ≡ pos 0 → bits ≡ 0
  zero_bits z =
      let o = place_zero ibm_format c f (subst (λ (w : ℤ). Place ibm_format w c f) z p) in
      ap (λ (w : ℤ). float_bits 32 24 (is_negative w) c f) z ∙ ap₂ (λ (a b : ℕ). float_bits 32 24 false a b) o.0 o.1

  bits_normal : is_normal bits ≡ true
  bits_normal =
      ⊎_elim
      (λ (l : f < 1).
      let f0 : f ≡ 0 = omega arith in
      ap is_normal (zero_bits (abs_zero v (p.is ∙ ap (λ (x : ℕ). x * unit ibm_format c) f0 ∙ zero-mul (unit ibm_format c)))) ∙ normal_tests 0)
      (λ (l : 1 ≤ f). normal_yes bits (rw parts.low l) (rw (parts.middle, parts.low) (placed_normal ibm_format v c f (omega arith) p))) (below_or f 1)

  place_normal : NormalOf v bits
  place_normal =
      record {
        fit = parts.fit;
        value = ibm_value_lem (is_negative v) c f p.below small ∙ ap (sign_magnitude (is_negative v)) (sym p.is) ∙ signed_back v;
        normal = bits_normal;
      }

-- THEOREM. What is written is a normal word of the value.
pub normal_written : (v : ℤ) (n : ℕ) → ibm_word v ≡ Word n → NormalOf v n
normal_written v n e = let t = float_is ibm_format 32 24 v n e in subst (NormalOf v) (sym t.3) (place_normal v t.0 t.1 t.2)

-- THEOREM. Every word has a normal word of its value,
pub ibm_complete : (n : ℕ) → Writes (ibm_word (ibm_value n))
ibm_complete n = float_some ibm_format 32 24 (ibm_value n) (value_in_format ibm_format (ibm_value n) (ibm_in n))

-- THEOREM. and no two normal words have the same value.
pub normal_same : (n k : ℕ) → n < 2 ^ 32 → k < 2 ^ 32 → is_normal n ≡ true → is_normal k ≡ true → ibm_value n ≡ ibm_value k → n ≡ k
normal_same n k h l t u e =
    let p = sym (normal_again n h t) ∙ ap ibm_word e ∙ normal_again k l u in
    cc
