use Rattle.scalars.proofs.Found.{scalar_at}
use Rattle.scalars.proofs.Power.scalar.Goals as goal

pub returns : goal.returns
returns c = scalar_at c.args.self.index c.args.self.in_range
