-- `read_reel::trace_length` meets its contract. Assumes nothing.
use Rattle.std.proofs.Common.{arith}
use Rattle.fields.specs.Fields.{fields_in}
use Rattle.read_reel.proofs.trace_length.Goals as goal

pub returns : goal.returns
unfolding fields_in
returns c = omega arith
