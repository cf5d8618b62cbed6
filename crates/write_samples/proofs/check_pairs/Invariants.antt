use Rattle.std.proofs.Common.{◌≡◌, ℕ, ◌+◌, ◌*◌, drop, Result}
use Rattle.numbers.specs.declared.Cause.{Cause}
use Rattle.formats.specs.Written.{Written, written}
use Rattle.value.specs.declared.Pair.{Pair}
use Rattle.write_samples.specs.Pairs.{pairs_refused}
use Rattle.write_samples.proofs.check_pairs.Given as goal

-- the pairs so far have no refusal
abbrev pub invariant-loop-i : goal.invariant-loop-i
invariant-loop-i g l =
    (word : Pair → Written) → ((p : Pair) (r : Result ℕ Cause) → goal.F-post g l.word_of p r → written r ≡ word p)
    → pairs_refused word (drop l.i l.pairs) (l.fn.start + l.i * 6) ≡ pairs_refused word l.pairs l.fn.start
