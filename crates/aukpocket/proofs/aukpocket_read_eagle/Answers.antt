-- `aukpocket::aukpocket_read_eagle` meets its contract. Assumes nothing.
use Rattle.aukpocket.proofs.HandedLaws.{counted_handed}
use Rattle.aukpocket.specs.Interface.{read_answer}
use Rattle.aukpocket.proofs.aukpocket_read_eagle.Goals as goal

pub returns : goal.returns
returns c = counted_handed read_answer _ c.read_eagle.result _ _ c.read_answer.ensures c.read_eagle.ensures
