-- What is said and written of pairs that stand in a row, by what is said and written of one. Assumes nothing.
use Rattle.std.proofs.Common.{◌≡◌, ℕ, ◌≤◌, Bool, true, false, refl, Result, Ok, Err, arith}
use Rattle.std.specs.Result.{result_unwrap_or}
use mir.Val.{bool_byte}
use Rattle.numbers.specs.Walk.{pick}
use Rattle.numbers.specs.declared.Cause.{Cause}
use Rattle.formats.specs.Words.{word_bits}
use Rattle.formats.specs.Written.{written}

-- the bits of a word that was found, 0 where there is none
pub bits_found : (r : Result ℕ Cause) → result_unwrap_or r 0 ≡ word_bits (written r)
bits_found (Ok n) = refl
bits_found (Err cause) = refl

-- a change counts once
pub once : (b : Bool) → bool_byte b ≤ 1
once true = omega arith
once false = omega arith

pub counted : (b : Bool) → bool_byte b ≡ pick b 1 0
counted true = refl
counted false = refl
