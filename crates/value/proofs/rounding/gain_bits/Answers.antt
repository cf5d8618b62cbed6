-- `value::rounding::gain_bits` meets its contract. Assumes nothing.
use Rattle.formats.proofs.GainLaws.{gain_zero, left_few, left_div, gain_placed}
use Rattle.formats.specs.Codes.{gain_format}
use Rattle.formats.specs.Format.{unit}
use Rattle.formats.specs.Steps.{Length}
use Rattle.formats.specs.Words.{gain_word, word_bits}
use Rattle.numbers.specs.SignMagnitude.{sign_magnitude}
use Rattle.numbers.specs.TwosComplement.{bits_of}
use Rattle.numbers.specs.Walk.{pick}
use Rattle.numbers.proofs.Magnitudes.{signed_zero}
use Rattle.value.specs.Pair.{mantissa_bits}
use Rattle.value.proofs.PlaceLaws.{length_full, length_less, signed_some}
use Rattle.value.proofs.Twos.{Split, split, trailing_lt, odd_pos, odd_shl}
use lib.Count.{count_trailing_zeros}
use Prim.Native.Nat.{ℕ, ◌+◌, ◌-◌, ◌*◌, ◌/◌, ◌^◌, ◌≤◌, ◌<◌, min}
use native.Mathlib.Nat.{zero-mul, div-le_self}
use mathlib.Core.Bool.{Bool, true, false}
use mathlib.Core.Path.{◌≡◌, sym, ap, ap₂, subst, ◌∙◌}
use native.Mathlib.Omega.{arith}
use lib.IntN.{ℤ}
use Rattle.value.proofs.rounding.gain_bits.Goals.{After-min-t, Else-f-eq0}
use Rattle.value.proofs.rounding.gain_bits.Goals as goal

-- an odd number below its limit has a length
long : (s : Bool) (o : ℕ) → 0 < o → o < 2 ^ (mantissa_bits - 1) → (n : ℕ) × Length (pick s 1 0) o n
long true o some few = (_, length_less o some few)
long false o some few = (_, length_full o some few)

module _ (c : Else-f-eq0) where
  abbrev f : ℕ
  f = c.args.f

  abbrev twos : ℕ
  twos = count_trailing_zeros mantissa_bits f

  some : 0 < f
  some = omega (arith, c.if-f-eq0.false)

  few : f < 2 ^ (mantissa_bits - 1)
  few = go c.args.negative c.requires.1
    where
      go : (s : Bool) → f < 2 ^ 15 + pick s 1 0 → f < 2 ^ (mantissa_bits - 1)
      go true l = omega arith
      go false l = omega arith

  -- the fraction is an odd number times a power of two
  parts : Split f twos
  parts = split mantissa_bits f some (omega (arith, few))

  short : twos < mantissa_bits
  short = trailing_lt mantissa_bits f some (omega (arith, few))

  size : (n : ℕ) × Length (pick c.args.negative 1 0) parts.o n
  size =
      let l : f / 2 ^ twos ≤ f = div-le_self f (2 ^ twos) in
      long c.args.negative parts.o (odd_pos parts.o parts.odd) (omega (arith, l, parts.shifted, few))

pub returns-then-f-eq0 : goal.returns-then-f-eq0
returns-then-f-eq0 c =
    let a = c.args in
    sym (ap (λ (f : ℕ). word_bits (gain_word (sign_magnitude a.negative (f * unit gain_format a.c)))) c.if-f-eq0.true
    ∙ ap (λ (y : ℕ). word_bits (gain_word (sign_magnitude a.negative y))) (zero-mul (unit gain_format a.c)) ∙ ap (λ (v : ℤ). word_bits (gain_word v)) (signed_zero a.negative) ∙ ap word_bits gain_zero)

-- t of its twos are taken out
count : (c : After-min-t) → c.min-t.result ≡ min (twos (goal.at.After-min-t c).Else-f-eq0) (255 - c.args.c)
count c = c.min-t.ensures

-- what is left of it
rest : (c : After-min-t) → let e = (goal.at.After-min-t c).Else-f-eq0 in c.args.f / 2 ^ c.min-t.result ≡ f e / 2 ^ min (twos e) (255 - e.args.c)
rest c = let e = (goal.at.After-min-t c).Else-f-eq0 in ap (λ (t : ℕ). f e / 2 ^ t) (count c)

pub complement-requires : goal.complement-requires
complement-requires c =
    let e = (goal.at.complement-requires c).Else-f-eq0 in
    let a = e.args in
    let p = parts e in
    let z = size e in
    let some = odd_shl p.o (twos e - min (twos e) (255 - a.c)) p.odd in (
      omega arith,
      omega arith,
      rw (rest (goal.at.complement-requires c).After-min-t) (signed_some a.negative (omega (arith, left_div a.negative p.o (twos e) a.c a.f z.0 p.odd p.is e.requires.0 e.requires.1 z.1, some))),
      subst (λ (y : ℕ). y < 2 ^ 15 + pick a.negative 1 0) (sym (rest (goal.at.complement-requires c).After-min-t)) (left_few a.negative p.o (twos e) a.c a.f z.0 p.odd p.is e.requires.0 e.requires.1 z.1),
    )

pub returns : goal.returns
returns c =
    let d = (goal.at.returns c).After-min-t in
    let e = (goal.at.returns c).Else-f-eq0 in
    let a = e.args in
    let p = parts e in
    let z = size e in
    ap₂ (λ (t q : ℕ). (255 - a.c - t) * 0x1_0000 + q) (count (goal.at.returns c).After-min-t) (c.complement.ensures.0 ∙ ap (λ (q : ℕ). bits_of 16 (sign_magnitude a.negative q)) (rest d))
    ∙ ap word_bits (sym (gain_placed a.negative p.o (twos e) a.c a.f z.0 p.odd p.is e.requires.0 e.requires.1 z.1))
