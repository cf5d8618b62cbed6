-- `write_samples::put_nearest` meets its contract. Assumes nothing.
use Rattle.std.proofs.Common.{rules, ◌+◌, [], get_or, refl, sym, ap, ◌∙◌, arith}
use mathlib.Core.Path.{ap₂}
use Rattle.numbers.specs.BigEndian.{bytes_of}
use Rattle.numbers.proofs.ByteLaws.{length_bytes}
use Rattle.numbers.proofs.ChunkLaws.{part_more_by}
use Rattle.numbers.proofs.WalkLaws.{copied}
use Rattle.std.proofs.lemmas.List.Sums.{sum_by_more}
use Rattle.value.specs.Pair.{pair_in}
use Rattle.value.specs.Writing.{Rounded}
use Rattle.write_samples.proofs.PairLaws.{once, counted}
use Rattle.write_samples.proofs.put_nearest.Goals as goal

pub loop-i-preserved : goal.loop-i-preserved
loop-i-preserved g c =
    let l = c.loop-i in
    let k = g.N.Number.SIZE in
    let pairs = c.args.pairs.now in
    record {
      few = omega (arith, once c.nearest_to-word.result.changed, l.invariant.few);
      so_far = λ nearest h.
          let near = h _ _ c.nearest_to-word.ensures ∙ ap nearest c.of_bytes.ensures in
          let one = counted c.nearest_to-word.result.changed ∙ ap (λ (r : Rounded). r.changed) near in (
            ap₂ ◌+◌ (l.invariant.so_far nearest h).0 one ∙ sym (sum_by_more (λ b. (nearest (pair_in b)).changed) pairs l.i [] c.loop-i-test.true),
            part_more_by (λ b. bytes_of k (nearest (pair_in b)).bits) k (λ b. length_bytes k (nearest (pair_in b)).bits) c.SIZE.result c.SIZE-in-loop-i.result c.SIZE.ensures c.SIZE-in-loop-i.ensures
                pairs l.i (get_or pairs l.i []) [] c.args.out.now l.out c.put.new.out c.loop-i-test.true refl (l.invariant.so_far nearest h).1
                (copied (bytes_of k (g.N.Number.value c.of_low.result)) _ c.put.ensures (search (rules, length_bytes)) ∙ c.of_low.ensures ∙ ap (λ (r : Rounded). bytes_of k r.bits) near),
          );
    }
