-- `read_samples::put_samples` meets its contract. Assumes nothing.
use Rattle.std.proofs.Common.{refl, ap, ◌∙◌, arith}
use Rattle.std.proofs.lemmas.List.{get_or_default}
use Rattle.numbers.proofs.ChunkLaws.{part_more}
use Rattle.read_samples.specs.Samples.{pair_content}
use Rattle.read_samples.proofs.put_samples.Goals as goal

pub loop-i-preserved : goal.loop-i-preserved
loop-i-preserved g c pair h =
    let l = c.loop-i in
    let w = c.index-words-i.result in
    part_more (λ w. pair_content (pair w)) 6 (λ w. refl) c.args.words.now l.i w w c.args.out.now l.out c.put_sample.new.out
    c.loop-i-test.true c.index-words-i.is (l.invariant pair h) (c.put_sample.ensures ∙ ap pair_content (h _ _ c.pair_of_word.ensures ∙ ap pair {y = w} (grind (arith, get_or_default))))
