use Rattle.std.proofs.Common.{◌≡◌, ◌*◌, ◌++◌, take, drop}
use Rattle.value.specs.declared.Pair.{Pair}
use Rattle.read_samples.specs.Parts.{pairs_content}
use Rattle.read_samples.proofs.put_samples.Given as goal

-- the words so far have their pairs in front of what the output was
abbrev pub invariant-loop-i : goal.invariant-loop-i
invariant-loop-i g l =
    (pair : _ → Pair) → ((w : _) (r : Pair) → goal.F-post g l.pair_of_word w r → r ≡ pair w)
    → l.out ≡ pairs_content pair (take l.i l.words) ++ drop (l.i * 6) l.fn.out
