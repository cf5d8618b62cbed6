-- `listing::check_lines` meets its contract. Assumes nothing.
use Rattle.std.proofs.Common.{eq-eqb, ne_eqb, get_or, ◌+◌, ◌*◌}
use Rattle.numbers.proofs.CauseLaws.{none_more, none_stop, none_left}
use Rattle.listing.specs.Listing.{card_count, card_length, line_length, line_feed, line_cause}
use Rattle.listing.proofs.check_lines.Goals as goal

pub returns-then-listing-at-ne10 : goal.returns-then-listing-at-ne10
returns-then-listing-at-ne10 c =
    let s = c.args.listing.now in
    let i = c.loop-i.i in
    none_stop (line_cause s) line_length card_count card_length i c.loop-i-test.true c.loop-i.invariant
    (rw (ne_eqb (get_or s (80 + i * 81) 0) line_feed c.if-listing-at-ne10.true))

pub loop-i-preserved : goal.loop-i-preserved
loop-i-preserved c =
    let s = c.args.listing.now in
    let i = c.loop-i.i in
    none_more (line_cause s) line_length card_count card_length i c.loop-i-test.true c.loop-i.invariant
    (rw (eq-eqb (get_or s (80 + i * 81) 0) line_feed c.if-listing-at-ne10.false))

pub returns : goal.returns
returns c = none_left (line_cause c.args.listing.now) line_length card_count card_length c.loop-i.i c.loop-i-test.false c.loop-i.invariant
