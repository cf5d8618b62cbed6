-- `value::parts::Odd::nearest` meets its contract. Assumes nothing.
use Rattle.value.proofs.parts.Odd.nearest.Goals as goal

pub returns-in-Gain : goal.returns-in-Gain
returns-in-Gain c = rw c.in-Gain.is c.near_gain.ensures
