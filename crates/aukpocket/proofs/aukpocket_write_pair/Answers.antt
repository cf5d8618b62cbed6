-- `aukpocket::aukpocket_write_pair` meets its contract. Assumes nothing.
use Rattle.aukpocket.proofs.HandedLaws.{sample_handed_lem}
use Rattle.aukpocket.proofs.aukpocket_write_pair.Goals as goal

pub returns : goal.returns
returns c = sample_handed_lem _ c.write_pair-written.result.answer _ _ c.sample_answer.ensures c.write_pair-written.ensures
