-- `line::line_with` meets its contract. Assumes nothing.
use Rattle.line.proofs.LineLaws.{more}
use Rattle.line.proofs.line_with.Goals as goal

pub loop-n-preserved : goal.loop-n-preserved
loop-n-preserved c = more c.put_item.new.self c.loop-n.invariant c.loop-n-test.true c.put_item.ensures
