-- The loop's invariant: the numbers so far are stored, each times the factor.
use Rattle.std.proofs.Common.{◌≡◌, take}
use Rattle.numbers.specs.Walk.{overwritten}
use Rattle.headers.specs.Parts.{times_factor, group_bytes}
use Rattle.headers.proofs.Group.lower.Given as goal

abbrev pub invariant-loop-k : goal.invariant-loop-k
invariant-loop-k g l = l.out ≡ overwritten l.initial.out l.first (group_bytes (take l.k (times_factor l.scale.factor l.number-items)))
