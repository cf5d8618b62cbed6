use Rattle.std.proofs.Common.{◌*◌, map, drop}
use Rattle.numbers.proofs.Filling.{Filling}
use Rattle.cards.specs.Cards.{blank}
use Rattle.cards.proofs.put_cards.Given as goal

abbrev pub invariant-loop-i : goal.invariant-loop-i
invariant-loop-i l = Filling (map blank l.cards) l.out (8 * l.i) (map blank (drop (8 * l.i) l.cards))
