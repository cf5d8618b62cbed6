-- `sample::canonical` meets its contract. Assumes nothing.
use Rattle.std.proofs.Common.{◌^◌, ◌%◌, to_z-of_z, w16, w32, sym}
use borrow.Author.Rules.{sfits_of}
use mir.Val.{SFits}
use mir.ValLaws.{sfits_le}
use lib.Signed.{mag_shr, shr_z}
use lib.Count.{count_trailing_zeros}
use Rattle.sample.proofs.PairLaws.{pair_shift}
use Rattle.sample.proofs.canonical.Goals as goal

pub returns : goal.returns
returns c =
    let a = c.args in
    let z = c.ranges.z in
    let p = 2 ^ (count_trailing_zeros 32 a.a % 32) in
    let shifted : SFits w32 (shr_z a.z p) = sfits_le {y = shr_z a.z p} {z = a.z} (mag_shr a.z p) z in
    rw (to_z-of_z {w = w16} (sfits_of c.exponent_unless_zero-e.type_inv), to_z-of_z {w = w32} z, to_z-of_z {w = w32} shifted, c.exponent_unless_zero-e.ensures, to_z-of_z {w = w16} (sfits_of c.exponent.type_inv), c.exponent.ensures)
    (sym (pair_shift a.k a.z a.a c.requires.magnitude c.ranges.a.fits))
