-- The six codes and their formats. Assumes nothing.
use mathlib.Core.Path.{◌≡◌, refl, sym, ap, subst}
use mathlib.Core.Bool.{Bool, true, false, ◌||◌}
use Prim.Native.Nat.{ℕ, ◌≤◌}
use native.Mathlib.Omega.{arith}
use borrow.Author.Tests.{eqb-true, ne_eqb}
use lib.Dec.{T, eqb}
use Rattle.numbers.specs.Walk.{pick, bytes_at}
use Rattle.formats.specs.declared.Code as code
use Rattle.formats.specs.declared.Code.TheVariants as of
use Rattle.formats.specs.Codes.{is_code, code_no, sample_bytes, word_length, ibm_format, ieee_format, format_of}
use Rattle.formats.specs.Value.{word_number}
use Rattle.formats.specs.Steps.{Sound, Float}
use Rattle.numbers.specs.BigEndian.{number}
use Rattle.numbers.proofs.WalkLaws.{bytes_front}
use mathlib.Core.List.{List}

-- the six codes
pub data Code : ℕ → Type 0 where
  ibm : Code 1
  whole32 : Code 2
  whole16 : Code 3
  gain : Code 4
  ieee : Code 5
  whole8 : Code 8

pub code_is : (code : ℕ) → is_code code ≡ true → Code code
code_is code h =
    or 1 ibm _ (or 2 whole32 _ (or 3 whole16 _ (or 4 gain _ (or 5 ieee _ (or 8 whole8 false (λ q. absurd (subst T (sym q) tt))))))) h
  where
    or : (k : ℕ) → Code k → (r : Bool) → (r ≡ true → Code code) → (eqb code k || r) ≡ true → Code code
    or k c r f = go (eqb code k) refl
      where
        go : (b : Bool) → eqb code k ≡ b → (b || r) ≡ true → Code code
        go true e q = subst Code (sym (eqb-true code k e)) c
        go false e q = f q

-- a word holds their fractions
pub code_sound : (code : ℕ) → is_code code ≡ true → Sound (format_of code)
code_sound code h = go code (code_is code h)
  where
    go : (code : ℕ) → Code code → Sound (format_of code)
    go code ibm = record { steps = omega arith; few = omega arith; some = omega arith; near = omega arith }
    go code whole32 = record { steps = omega arith; few = omega arith; some = omega arith; near = omega arith }
    go code whole16 = record { steps = omega arith; few = omega arith; some = omega arith; near = omega arith }
    go code gain = record { steps = omega arith; few = omega arith; some = omega arith; near = omega arith }
    go code ieee = record { steps = omega arith; few = omega arith; some = omega arith; near = omega arith }
    go code whole8 = record { steps = omega arith; few = omega arith; some = omega arith; near = omega arith }

-- a number that is none of the six
module _ (code : ℕ) (a : code ≡ 1 → ⊥) (b : code ≡ 2 → ⊥) (c : code ≡ 3 → ⊥) (d : code ≡ 4 → ⊥) (e : code ≡ 5 → ⊥) (f : code ≡ 8 → ⊥) where
  pub no_code : is_code code ≡ false
  no_code = rw (ne_eqb code 1 a, ne_eqb code 2 b, ne_eqb code 3 c, ne_eqb code 4 d, ne_eqb code 5 e, ne_eqb code 8 f)

-- the last of the six
pub last_code : (code : ℕ) → is_code code ≡ true → (code ≡ 1 → ⊥) → (code ≡ 2 → ⊥) → (code ≡ 3 → ⊥) → (code ≡ 4 → ⊥) → (code ≡ 5 → ⊥) → code ≡ 8
last_code code h a b c d e = eqb-true code 8 (rw (ne_eqb code 1 a, ne_eqb code 2 b, ne_eqb code 3 c, ne_eqb code 4 d, ne_eqb code 5 e, or_false (eqb code 8)) at h)
  where
    or_false : (b : Bool) → (b || false) ≡ b
    or_false true = refl
    or_false false = refl

-- the two formats of sign and magnitude
pub ibm_float : Float ibm_format 32 24
ibm_float = record { sound = code_sound 1 refl; even = refl; some = omega arith; short = omega arith; low = omega arith; room = omega arith }

pub single_float : Float (ieee_format 8 23) 32 23
single_float = record { sound = code_sound 5 refl; even = refl; some = omega arith; short = omega arith; low = omega arith; room = omega arith }

-- a sample has one to four bytes
pub width_low : (code : ℕ) → 1 ≤ sample_bytes code
width_low code = go (eqb code 3) (eqb code 8)
  where
    go : (a b : Bool) → 1 ≤ pick a 2 (pick b 1 4)
    go true b = omega arith
    go false true = omega arith
    go false false = omega arith

pub width_high : (code : ℕ) → sample_bytes code ≤ word_length
width_high code = go (eqb code 3) (eqb code 8)
  where
    go : (a b : Bool) → pick a 2 (pick b 1 4) ≤ 4
    go true b = omega arith
    go false true = omega arith
    go false false = omega arith

-- the number of the word at a place
pub word_there : (s : List ℕ) (code at : ℕ) → word_number code (bytes_at s at word_length) ≡ number (bytes_at s at (sample_bytes code))
word_there s code at = ap number (bytes_front s at word_length (sample_bytes code) (width_high code))

-- a code is from 1 to 8
pub code_limits : (code : ℕ) → is_code code ≡ true → (1 ≤ code) × (code ≤ 8)
code_limits code h = go code (code_is code h)
  where
    go : (code : ℕ) → Code code → (1 ≤ code) × (code ≤ 8)
    go code ibm = (omega arith, omega arith)
    go code whole32 = (omega arith, omega arith)
    go code whole16 = (omega arith, omega arith)
    go code gain = (omega arith, omega arith)
    go code ieee = (omega arith, omega arith)
    go code whole8 = (omega arith, omega arith)

-- ## The type of codes

-- its numbers are the six codes
pub code_no_is : (c : code.Code) → is_code (code_no c) ≡ true
code_no_is of.Ibm = refl
code_no_is of.Whole32 = refl
code_no_is of.Whole16 = refl
code_no_is of.Gain = refl
code_no_is of.Ieee = refl
code_no_is of.Whole8 = refl
