-- `aukpocket::aukpocket_write_reel` meets its contract. Assumes nothing.
use Rattle.aukpocket.proofs.HandedLaws.{reel_handed_lem}
use Rattle.aukpocket.proofs.aukpocket_write_reel.Goals as goal

pub returns : goal.returns
returns c = reel_handed_lem _ c.write_reel.result _ _ c.reel_answer.ensures c.write_reel.ensures
