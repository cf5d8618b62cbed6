-- The bytes before i are copied, those behind are still to come.
use Rattle.std.proofs.Common.{drop}
use Rattle.numbers.proofs.Filling.{Filling}
use Rattle.slices.proofs.copy.Given as goal

abbrev pub invariant-loop-i : goal.invariant-loop-i
invariant-loop-i l = Filling l.src l.out l.i (drop l.i l.src)
