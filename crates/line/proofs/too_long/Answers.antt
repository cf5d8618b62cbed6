-- `line::too_long` meets its contract. Assumes nothing.
use Rattle.line.proofs.LineLaws.{printed_is}
use Rattle.line.specs.Line.{too_long}
use Rattle.std.proofs.Common.{ℕ, List, ◌++◌, ap, ◌∙◌}
use Rattle.line.proofs.too_long.Goals as goal

pub returns : goal.returns
returns c = printed_is c.put.new.self (c.put.ensures ∙ ap (λ (t : List ℕ). t ++ too_long) c.new-line.ensures)
