-- `aukpocket::aukpocket_read_word` meets its contract. Assumes nothing.
use Rattle.aukpocket.proofs.HandedLaws.{word_handed_lem}
use Rattle.aukpocket.proofs.aukpocket_read_word.Goals as goal

pub returns : goal.returns
returns c = word_handed_lem _ c.read_word-read.result.answer _ _ c.word_answer.ensures c.read_word-read.ensures
