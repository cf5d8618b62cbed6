-- It may still be called, and was called once for each turn, each time for a case that went well.
use Rattle.std.proofs.Common.{replicate}
use denote.Param.Always.{always_mut}
use Rattle.std.specs.List.{FoldsTo}
use Rattle.std.specs.Prelude.{Ok}
use Rattle.cases.proofs.closure.run_cases.Given as goal

abbrev pub invariant-loop : goal.invariant-loop
invariant-loop g l = always_mut g.F.FnMut l.case × FoldsTo (goal.F-step g) l.initial.case (replicate l.counter (Ok tt)) l.case
