-- `cases::run_all` meets its contract. Assumes nothing.
use Rattle.std.proofs.Common.{rules}
use Rattle.cases.proofs.RunLaws.{FoldsTo-replicate_more}
use Rattle.cases.proofs.run_all.Goals as goal

pub loop-preserved : goal.loop-preserved
loop-preserved g c = FoldsTo-replicate_more _ _ _ _ _ _ c.loop.invariant (search rules)
