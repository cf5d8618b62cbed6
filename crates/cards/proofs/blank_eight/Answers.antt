-- `cards::blank_eight` meets its contract. Assumes nothing.
use Rattle.cards.proofs.EachLaws.{blanked}
use Rattle.cards.proofs.blank_eight.Goals as goal

pub returns : goal.returns
returns c = rw c.zero_marks.ensures (blanked 8 c.args.cards c.ranges.cards.fits)
