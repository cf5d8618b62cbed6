-- `aukpocket::aukpocket_take_cards` meets its contract. Assumes nothing.
use Rattle.aukpocket.proofs.HandedLaws.{reel_handed_lem}
use Rattle.aukpocket.proofs.aukpocket_take_cards.Goals as goal

pub returns : goal.returns
returns c = reel_handed_lem _ c.take_cards.result _ _ c.reel_answer.ensures c.take_cards.ensures
