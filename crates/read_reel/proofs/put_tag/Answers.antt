-- `read_reel::put_tag` meets its contract. Assumes nothing.
use Rattle.std.proofs.Common.{[], refl, arith}
use Rattle.numbers.proofs.WalkLaws.{copied}
use Rattle.numbers.proofs.Filling.{start, finish, put, lend}
use Rattle.numbers.specs.BigEndian.{bytes_of}
use Rattle.read_reel.proofs.put_tag.Goals as goal

pub returns : goal.returns
returns c =
    let a = c.args in
    finish (lend (bytes_of 2 a.size) [] 3 (put a.tag (start _ a.out.now c.requires)) (omega arith) refl (copied _ _ c.put.ensures (omega arith))) refl
