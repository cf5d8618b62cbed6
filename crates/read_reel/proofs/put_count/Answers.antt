-- `read_reel::put_count` meets its contract. Assumes nothing.
use Rattle.std.proofs.Common.{refl, arith}
use Rattle.numbers.proofs.WalkLaws.{copied}
use Rattle.numbers.proofs.Filling.{start, lend, close}
use Rattle.numbers.specs.BigEndian.{bytes_of}
use Rattle.read_reel.specs.Copied.{tag_bytes}
use Rattle.read_reel.proofs.put_count.Goals as goal

pub returns : goal.returns
returns c =
    let a = c.args in
    let z = bytes_of 4 a.t in
    let w = lend (tag_bytes 5 4) z 3 (start _ a.out.now c.requires) (omega arith) refl c.put_tag.ensures in
    close z 7 w (omega arith) refl (copied _ _ c.put.ensures (omega arith))
