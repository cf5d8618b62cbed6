-- `scalars::is_smallest` meets its contract. Assumes nothing.
use mathlib.Core.Path.{◌≡◌, ap, ◌∙◌}
use borrow.Author.Rules.{sfits_of}
use mir.Facts.{to_z-of_z}
use Rattle.scalars.specs.Scalar.{power_of, scalar_of, scaled_values, smallest, same_number, group_scalar, is_smallest}
use Rattle.scalars.proofs.Fit32.{same_bits}
use Rattle.scalars.proofs.is_smallest.Goals as goal

pub returns : goal.returns
unfolding is_smallest group_scalar
returns g c =
    let z = c.args.scalar in
    let power : c.of.result.index ≡ power_of z = rw (to_z-of_z c.ranges.scalar) at c.of.ensures in
    let found : c.smallest_for.result.index ≡ smallest (scaled_values z c.args.group) = rw power at c.smallest_for.ensures.least in
    same_bits z c.scalar.result c.ranges.scalar (sfits_of c.scalar.type_inv) ∙ ap (same_number z) (c.scalar.ensures ∙ ap scalar_of found)
