-- `value::parts::Odd::gain_word` meets its contract. Assumes nothing.
use Rattle.formats.proofs.GainLaws.{gain_few}
use Rattle.value.proofs.PlaceLaws.{signed_some}
use Rattle.value.proofs.Twos.{odd_shl}
use native.Mathlib.Omega.{arith}
use Rattle.value.proofs.parts.Odd.gain_word.Goals as goal

pub complement-d-requires : goal.complement-d-requires
complement-d-requires c =
    let v = c.args.self in
    let few = gain_few v.negative v.odd v.power v.is_odd c.length.result c.length.ensures.0 c.min-c.result c.min-c.ensures c.if-self-lt-GAIN_BASE.false c.if-c-length.false in
    (omega arith, omega arith, rw c.shifted_up.ensures (signed_some v.negative (odd_shl v.odd _ v.is_odd)), rw c.shifted_up.ensures few)
