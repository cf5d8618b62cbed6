-- A case was run for each turn, each time one that went well.
use Rattle.std.proofs.Common.{replicate}
use Rattle.std.specs.List.{FoldsTo}
use Rattle.std.specs.Prelude.{Ok}
use Rattle.cases.proofs.run_all.Given as goal

abbrev pub invariant-loop : goal.invariant-loop
invariant-loop g l = FoldsTo g.C.Cases.step l.initial.cases (replicate l.counter (Ok tt)) l.cases
