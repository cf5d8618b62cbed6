use Rattle.record.specs.Form.{pair_cause_in}
use Rattle.record.specs.Kind.{tag04}
use Rattle.numbers.proofs.CauseLaws.{NoneBefore}
use Rattle.record.proofs.check_canonical.Given as goal

abbrev pub invariant-loop-i : goal.invariant-loop-i
invariant-loop-i l = NoneBefore (pair_cause_in tag04 l.«record») 6 l.n l.start l.i
