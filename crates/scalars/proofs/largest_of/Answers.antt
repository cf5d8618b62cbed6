use Rattle.std.proofs.Common.{rules, nat_abs}
use borrow.Author.Tests.{tests}
use Rattle.std.proofs.lemmas.Iterator.{YieldsList-from_slice, YieldsList-from_map}
use Rattle.std.proofs.lemmas.Iterator.Consumers.{max_from_yields_List}
use Rattle.std.proofs.lemmas.Iterator.Adapters.{option_map_id}
use Rattle.scalars.proofs.Fit32.{largest_max}
use Rattle.scalars.proofs.largest_of.Goals as goal

pub returns : goal.returns
returns g c =
    let greatest = max_from_yields_List c.map.result _ c.max.ensures.ran (YieldsList-from_map _ nat_abs (YieldsList-from_slice c.args.group cc) c.map.ensures.closure (λ x r q k. search (rules, tests))) in
    rw (c.unwrap_or.ensures, ← (option_map_id c.max.result), greatest) (largest_max c.args.group)
