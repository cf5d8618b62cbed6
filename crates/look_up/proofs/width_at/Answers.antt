-- `look_up::width_at` meets its contract. Assumes nothing.
use Rattle.std.proofs.Common.{◌∙◌}
use borrow.Author.Tests.{eq-eqb, ne_eqb}
use Rattle.look_up.proofs.FieldLaws.{binary_width, trace_width}
use Rattle.look_up.proofs.width_at.Goals as goal

pub returns-then-trace-eq0 : goal.returns-then-trace-eq0
returns-then-trace-eq0 c = rw (eq-eqb c.args.trace 0 c.if-trace-eq0.true) (c.width_in.ensures ∙ binary_width c.args.b)

pub returns-else-trace-eq0 : goal.returns-else-trace-eq0
returns-else-trace-eq0 c = rw (ne_eqb c.args.trace 0 c.if-trace-eq0.false) (c.width_in-else-trace-eq0.ensures ∙ trace_width c.args.b)
