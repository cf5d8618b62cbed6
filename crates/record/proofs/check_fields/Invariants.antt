use Rattle.record.specs.Parts.{fields_by}
use Rattle.std.proofs.Common.{◌≡◌, ◌≤◌}
use Rattle.record.proofs.check_fields.Given as goal

abbrev pub invariant-fields : goal.invariant-fields
invariant-fields l = (fields_by l.target l.«record» l.c l.n l.start ≡ fields_by l.target l.«record» l.c l.left l.at) × (l.left ≤ l.n)

abbrev pub decreases-fields : goal.decreases-fields
decreases-fields l = l.left
