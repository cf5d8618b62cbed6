use Rattle.listing.proofs.ListingLaws.{PartsPut}
use Rattle.listing.proofs.put_parts.Given as goal

abbrev pub invariant-loop-i : goal.invariant-loop-i
invariant-loop-i l = PartsPut l.table l.from l.size l.src l.out l.i
