use Rattle.reel.specs.Causes.{word_cause}
use Rattle.numbers.proofs.CauseLaws.{NoneBefore}
use Rattle.reel.proofs.check_words.Given as goal

abbrev pub invariant-loop-i : goal.invariant-loop-i
invariant-loop-i l = NoneBefore (word_cause l.reel l.code) 4 l.n l.start l.i
