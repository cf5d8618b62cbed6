-- `value::rounding::rounded_whole` meets its contract. Assumes nothing.
use Rattle.formats.proofs.RoundLaws.{rounded_is, rounded_none}
use lib.Pow.{pow_pos, pow_mono}
use Prim.Native.Nat.{◌^◌, ◌≤◌}
use native.Mathlib.Nat.{zero-mul}
use mathlib.Core.Path.{sym, ◌∙◌}
use native.Mathlib.Omega.{arith}
use Rattle.value.proofs.rounding.rounded_whole.Goals as goal

pub returns-then-s-gt31 : goal.returns-then-s-gt31
returns-then-s-gt31 c =
    let a = c.args in
    let z : 2 ^ 32 ≤ 2 ^ a.s = pow_mono {i = 32} (omega (arith, c.if-s-gt31.true)) in
    zero-mul (2 ^ a.s) ∙ sym (rounded_none (2 ^ a.s) a.o (omega (arith, z, c.requires)) (omega (arith, z, c.requires)))

pub returns : goal.returns
returns c =
    let u = c in
    let a = u.args in
    rounded_is (2 ^ a.s) a.o u.under_half.result (pow_pos a.s) u.under_half.ensures.0 u.under_half.ensures.1
