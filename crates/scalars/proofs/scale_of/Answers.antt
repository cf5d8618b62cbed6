-- `scalars::scale_of` meets its contract. Assumes nothing.
use mathlib.Core.Path.{◌≡◌}
use borrow.Author.Rules.{sfits_of}
use Prim.Native.Nat.{◌-◌}
use native.Mathlib.Omega.{arith}
use mir.Syntax.{w16}
use mir.Facts.{to_z-of_z}
use Rattle.scalars.specs.Scalar.{power_of, scaled_values, smallest, group_scalar, scale_of}
use Rattle.scalars.proofs.Found.{ten_at}
use Rattle.scalars.proofs.scale_of.Goals as goal

pub returns : goal.returns
unfolding scale_of group_scalar
returns g c =
    let z = c.args.scalar in
    let power : c.of-power.result.index ≡ power_of z = rw (to_z-of_z c.ranges.scalar) at c.of-power.ensures in
    let found : c.smallest_for-smallest.result.index ≡ smallest (scaled_values z c.args.group) = rw power at c.smallest_for-smallest.ensures.least in
    rw (ten_at (c.of-power.result.index - c.smallest_for-smallest.result.index) (omega arith), to_z-of_z {w = w16} (sfits_of c.scalar.type_inv), c.scalar.ensures, power, found)
