use Rattle.std.proofs.Common.{◌≡◌, drop}
use Rattle.look_up.specs.Parts.{in_rows}
use Rattle.look_up.proofs.width_in.Given as goal

-- the rows so far end before the byte number
abbrev pub invariant-loop-row : goal.invariant-loop-row
invariant-loop-row l = in_rows l.rows l.b ≡ in_rows (drop l.row-index l.rows) l.b
