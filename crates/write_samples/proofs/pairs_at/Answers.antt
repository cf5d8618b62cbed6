-- `write_samples::pairs_at` meets its contract. Assumes nothing.
use Rattle.std.proofs.Common.{◌+◌, ◌*◌, length, sym, refl, ◌∙◌, arith}
use borrow.Author.Tests.{leb-true}
use Rattle.numbers.proofs.ChunkLaws.{parts_walk}
use Rattle.write_samples.proofs.pairs_at.Goals as goal

pub returns : goal.returns
returns c =
    let s = c.args.record.now in
    let at = c.args.start.0 in
    let n = c.args.n in
    let room = leb-true (at + n * 6) (length s) (sym c.are_within.ensures ∙ c.if-not-are_within.false) in
    (room, c.as_chunks.ensures.front ∙ parts_walk 6 n s at (at + n * 6) (omega arith) refl room)
