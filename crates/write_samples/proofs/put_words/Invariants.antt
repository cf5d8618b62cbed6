use Rattle.std.proofs.Common.{◌≡◌, ℕ, ◌*◌, ◌++◌, take, drop, Result}
use Rattle.numbers.specs.declared.Cause.{Cause}
use Rattle.formats.specs.Written.{Written, written}
use Rattle.value.specs.declared.Pair.{Pair}
use Rattle.write_samples.specs.Pairs.{words_content}
use Rattle.write_samples.proofs.put_words.Given as goal

-- the pairs so far have their words in front of what the output was
abbrev pub invariant-loop-i : goal.invariant-loop-i
invariant-loop-i g l =
    (word : Pair → Written) → ((p : Pair) (r : Result ℕ Cause) → goal.F-post g l.word_of p r → written r ≡ word p)
    → l.out ≡ words_content g.N.Number.SIZE word (take l.i l.pairs) ++ drop (l.i * g.N.Number.SIZE) l.fn.out
