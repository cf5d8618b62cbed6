-- `read_reel::put_over` meets its contract. Assumes nothing.
use Rattle.std.proofs.Common.{◌+◌, refl, arith}
use Rattle.numbers.proofs.Filling.{over}
use Rattle.numbers.proofs.WalkLaws.{copied}
use Rattle.numbers.specs.BigEndian.{bytes_of}
use Rattle.read_reel.proofs.put_over.Goals as goal

pub returns : goal.returns
returns c =
    let a = c.args in
    over a.out.now (bytes_of 2 a.n) a.at.0 (a.at.0 + 2) refl (copied _ _ c.put.ensures (omega arith))
