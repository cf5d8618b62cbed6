-- `aukpocket::aukpocket_read_reel` meets its contract. Assumes nothing.
use Rattle.aukpocket.proofs.HandedLaws.{counted_handed}
use Rattle.aukpocket.specs.Interface.{read_answer}
use Rattle.aukpocket.proofs.aukpocket_read_reel.Goals as goal

pub returns : goal.returns
returns c = counted_handed read_answer _ c.read_reel.result _ _ c.read_answer.ensures c.read_reel.ensures
