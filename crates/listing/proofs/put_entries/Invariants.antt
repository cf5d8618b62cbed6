use Rattle.std.proofs.Common.{map, drop}
use Rattle.listing.specs.Parts.{entry_of}
use Rattle.numbers.proofs.Filling.{Filling}
use Rattle.listing.proofs.put_entries.Given as goal

abbrev pub invariant-loop-i : goal.invariant-loop-i
invariant-loop-i l = Filling (map (entry_of l.table) l.src) l.out l.i (map (entry_of l.table) (drop l.i l.src))
