-- `line::text::Line::put` meets its contract. Assumes nothing.
use Rattle.line.proofs.LineLaws.{more_front}
use Rattle.line.proofs.text.Line.put.Goals as goal

pub invariant_of-self : goal.invariant_of-self
invariant_of-self c =
    let a = c.args in
    record { front = more_front a.self.now.bytes a.self.now.length a.text.now a.self.now.front c.requires c.copy_from_slice.ensures.after }
