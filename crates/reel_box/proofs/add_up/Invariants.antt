use Rattle.std.proofs.Common.{◌≡◌, ◌+◌, drop}
use Rattle.numbers.specs.Walk.{sum}
use Rattle.reel_box.proofs.add_up.Given as goal

-- what is left, and the lengths passed, are the whole
abbrev pub invariant-loop-l : goal.invariant-loop-l
invariant-loop-l l = l.left + sum l.lengths ≡ l.size + sum (drop l.l-index l.lengths)
