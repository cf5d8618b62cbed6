-- `write_samples::put_words` meets its contract. Assumes nothing.
use Rattle.std.proofs.Common.{rules, ◌≡◌, [], get_or, refl, ap, ◌∙◌, arith}
use Rattle.numbers.specs.BigEndian.{bytes_of}
use Rattle.numbers.proofs.ByteLaws.{length_bytes}
use Rattle.numbers.proofs.ChunkLaws.{part_more_by}
use Rattle.numbers.proofs.WalkLaws.{copied}
use Rattle.formats.specs.Words.{word_bits}
use Rattle.value.specs.Pair.{pair_in}
use Rattle.write_samples.proofs.PairLaws.{bits_found}
use Rattle.write_samples.proofs.put_words.Goals as goal

pub loop-i-preserved : goal.loop-i-preserved
loop-i-preserved g c word h =
    let l = c.loop-i in
    let k = g.N.Number.SIZE in
    let pairs = c.args.pairs.now in
    let held : c.of_bytes.result ≡ pair_in (get_or pairs l.i []) = c.of_bytes.ensures ∙ ap pair_in (grind arith) in
    let bits = c.unwrap_or-bits.ensures ∙ bits_found c.word_of.result ∙ ap word_bits (h _ _ c.word_of.ensures ∙ ap word held) in
    part_more_by (λ b. bytes_of k (word_bits (word (pair_in b)))) k (λ b. length_bytes k (word_bits (word (pair_in b)))) c.SIZE.result c.SIZE-in-loop-i.result c.SIZE.ensures c.SIZE-in-loop-i.ensures
    pairs l.i (get_or pairs l.i []) [] c.args.out.now l.out c.put.new.out c.loop-i-test.true refl (l.invariant word h)
    (copied (bytes_of k (g.N.Number.value c.of_low.result)) _ c.put.ensures (search (rules, length_bytes)) ∙ c.of_low.ensures ∙ ap (bytes_of k) bits)
