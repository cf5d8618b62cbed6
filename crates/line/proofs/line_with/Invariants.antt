-- The first n-index numbers stand behind the word.
use Rattle.line.proofs.LineLaws.{Begun}
use Rattle.line.proofs.line_with.Given as goal

abbrev pub invariant-loop-n : goal.invariant-loop-n
invariant-loop-n l = Begun l.word l.numbers l.line l.n-index
