-- `cards::zero_marks` meets its contract. Assumes nothing.
use native.Mathlib.Omega.{arith}
use Rattle.cards.proofs.EachLaws.{some, or_le, marked}
use Rattle.cards.proofs.zero_marks.Goals as goal

pub overflow_sub-less : goal.overflow_sub-less
overflow_sub-less c = or_le c.args.cards _ _ (omega arith)

pub returns : goal.returns
unfolding some
returns c = marked 8 c.args.cards
