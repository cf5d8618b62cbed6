use Rattle.std.proofs.Common.{sym}
use Rattle.scalars.specs.Parts.{largest, Raised}
use Rattle.scalars.proofs.Fit32.{array_fits, largest_fits}
use Rattle.scalars.proofs.Powers.{smallest_is}
use Rattle.scalars.proofs.Power.smallest_for.Goals as goal

pub zeros_behind-requires : goal.zeros_behind-requires
zeros_behind-requires g c = rw c.largest_of.ensures (largest_fits c.args.group (array_fits c.args.group _ c.well_formed.1.0).1)

pub returns-clause-least : goal.returns-clause-least
returns-clause-least g c =
    let r : Raised (largest c.args.group) c.args.self.index c.zeros_behind.result = rw c.largest_of.ensures at c.zeros_behind.ensures in
    sym (smallest_is c.args.group c.args.self.index c.zeros_behind.result c.args.self.in_range (array_fits c.args.group _ c.well_formed.1.0).1 r)
