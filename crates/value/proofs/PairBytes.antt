-- The pair that stands in six bytes of a list. Assumes nothing.
use Prim.Native.Nat.{ℕ, ◌+◌}
use mathlib.Core.Path.{◌≡◌, sym, ap, ◌∙◌}
use mathlib.Core.List.{List}
use native.Mathlib.Omega.{arith}
use Rattle.numbers.specs.Walk.{bytes_at}
use Rattle.numbers.specs.BigEndian.{number}
use Rattle.value.specs.Pair.{pair_of_bits, pair_in}
use Rattle.value.specs.declared.Pair.{Pair}

-- by the bits of its exponent and of its mantissa
pub pair_there : (s : List ℕ) (at : ℕ) → pair_in (bytes_at s at 6) ≡ pair_of_bits (number (bytes_at s at 2)) (number (bytes_at s (at + 2) 4))
unfolding bytes_at
pair_there s at =
    let d : at + 1 + 1 + 1 + 1 + 1 ≡ at + 2 + 1 + 1 + 1 = omega arith in
    let c : at + 1 + 1 + 1 + 1 ≡ at + 2 + 1 + 1 = omega arith in
    let b : at + 1 + 1 + 1 ≡ at + 2 + 1 = omega arith in
    let a : at + 1 + 1 ≡ at + 2 = omega arith in
    rw (d, c, b, a)

-- by bits that were fetched from there
pub pair_fetched : (s : List ℕ) (at e m : ℕ) (p : Pair) → p ≡ pair_of_bits e m → e ≡ number (bytes_at s at 2) → m ≡ number (bytes_at s (at + 2) 4) → p ≡ pair_in (bytes_at s at 6)
pair_fetched s at e m p q i j =
    q ∙ ap (λ (x : ℕ). pair_of_bits x m) i ∙ ap (pair_of_bits (number (bytes_at s at 2))) j ∙ sym (pair_there s at)
