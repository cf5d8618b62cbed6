-- What the contracts of private functions cite.
use Rattle.std.specs.Prelude.{ℕ, eqb}
use Rattle.numbers.specs.Walk.{pick}

-- The mark of a byte 00, its high bit; no other byte has one.
abbrev pub zero_mark : ℕ → ℕ
zero_mark b = pick (eqb b 0) 0x80 0
