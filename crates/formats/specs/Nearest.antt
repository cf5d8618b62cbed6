-- The nearest value of a format (document 02, CR 5): beyond the range the end, and of two equally near the one nearer zero.
use Rattle.std.specs.Prelude.{ℕ, ◌+◌, ◌-◌, ◌*◌, ◌/◌, ◌%◌, ◌^◌, Bool, eqb, ltb, ℤ, nat_abs, ◌-ℤ◌}
use Rattle.numbers.specs.Walk.{pick}
use Rattle.numbers.specs.First.{first}
use Rattle.numbers.specs.SignMagnitude.{sign_magnitude, is_negative}
use Rattle.formats.specs.Format.{unit, limit}
use Rattle.formats.specs.Codes.{format_of}
use Rattle.formats.specs.declared.Format.{Format}

-- The nearest multiple of u to a, and of two equally near the lower one: the quotient, and one more where the remainder is more than half
-- of u.
abbrev pub nearest_multiple : ℕ → ℕ → ℕ
nearest_multiple u a = (a / u + pick (ltb u (2 * (a % u))) 1 0) * u

-- The least characteristic whose fractions reach a magnitude, or the last one: under code 1 the least C with the magnitude below
-- 16 ^ (C - 64), under code 4 that of the largest gain whose d reaches it.
abbrev pub reaching : Format → ℕ → ℕ
reaching x a = first (λ c. ltb a (2 ^ x.fraction * unit x c)) (x.characteristics - 1) 0

-- The end of the range, of each sign: the largest fraction beside the last characteristic, as 32,767 and 32,768 under code 3.
abbrev pub range_end : Format → Bool → ℕ
range_end x s = (limit x s - 1) * unit x (x.characteristics - 1)

-- The nearest magnitude of that sign: the end for a magnitude beyond the range, else a whole number of the last places of the least
-- characteristic that reaches it.
abbrev pub nearest_magnitude : Format → Bool → ℕ → ℕ
nearest_magnitude x s a = pick (ltb a (range_end x s)) (nearest_multiple (unit x (reaching x a)) a) (range_end x s)

-- The nearest value of a format. A negative value may become zero.
abbrev pub nearest_in : Format → ℤ → ℤ
nearest_in x v = sign_magnitude (is_negative v) (nearest_magnitude x (is_negative v) (nat_abs v))

-- The nearest value of a code; of a number that is no code it is 0.
abbrev pub nearest_value : ℕ → ℤ → ℤ
nearest_value code v = nearest_in (format_of code) v

-- How far two values are from each other.
abbrev pub distance : ℤ → ℤ → ℕ
distance v w = nat_abs (v -ℤ w)

-- 1 for two values that are not the same, else 0.
abbrev pub differs : ℤ → ℤ → ℕ
differs v w = pick (eqb (distance v w) 0) 0 1

-- 1 for a value that becomes another one, else 0: in a format,
abbrev pub changes_in : Format → ℤ → ℕ
changes_in x v = differs v (nearest_in x v)

-- and under a code.
abbrev pub changes : ℕ → ℤ → ℕ
changes code v = changes_in (format_of code) v
