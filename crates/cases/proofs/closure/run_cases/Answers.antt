-- `cases::run_cases` meets its contract. Assumes nothing.
use Rattle.std.proofs.Common.{of_calls}
use Rattle.cases.proofs.RunLaws.{FoldsTo-replicate_more}
use Rattle.cases.proofs.closure.run_cases.Goals as goal

pub loop-preserved : goal.loop-preserved
loop-preserved g c = (search of_calls, FoldsTo-replicate_more _ _ _ _ _ _ c.loop.invariant.1 c.in-Ok.ensures)
