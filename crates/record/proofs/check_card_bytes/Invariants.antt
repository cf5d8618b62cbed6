use Rattle.record.specs.Form.{card_cause}
use Rattle.numbers.proofs.CauseLaws.{NoneBefore}
use Rattle.record.proofs.check_card_bytes.Given as goal

abbrev pub invariant-loop-i : goal.invariant-loop-i
invariant-loop-i l = NoneBefore (card_cause l.«record») 1 3200 3 l.i
