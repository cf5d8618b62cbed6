-- `aukpocket::aukpocket_list_cards` meets its contract. Assumes nothing.
use Rattle.aukpocket.proofs.HandedLaws.{listing_handed_lem}
use Rattle.aukpocket.proofs.aukpocket_list_cards.Goals as goal

pub returns : goal.returns
returns c = listing_handed_lem _ c.list_cards.result _ _ c.listing_answer.ensures c.list_cards.ensures
