use Rattle.listing.specs.Listing.{card_count, card_length, line_length, line_cause}
use Rattle.numbers.proofs.CauseLaws.{NoneBefore}
use Rattle.listing.proofs.check_lines.Given as goal

abbrev pub invariant-loop-i : goal.invariant-loop-i
invariant-loop-i l = NoneBefore (line_cause l.listing) line_length card_count card_length l.i
