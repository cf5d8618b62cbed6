-- `aukpocket::aukpocket_write_nearest` meets its contract. Assumes nothing.
use Rattle.aukpocket.proofs.HandedLaws.{counted_handed}
use Rattle.aukpocket.specs.Interface.{nearest_answer}
use Rattle.aukpocket.proofs.aukpocket_write_nearest.Goals as goal

pub returns : goal.returns
returns c = counted_handed nearest_answer _ c.write_nearest.result _ _ c.nearest_answer.ensures c.write_nearest.ensures
