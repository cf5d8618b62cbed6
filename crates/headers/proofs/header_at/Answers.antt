-- `headers::header_at` meets its contract. Assumes nothing.
use Rattle.headers.proofs.Inside.{header_whole}
use Rattle.headers.proofs.header_at.Goals as goal

pub returns : goal.returns
returns c =
    let rest = c.in_ok-get.ensures.lookup.0 in
    header_whole c.args.s.now c.in_ok-get.field-0.now c.args.start.0 c.first_chunk.result rest.0 rest.2 c.first_chunk.ensures.cases
