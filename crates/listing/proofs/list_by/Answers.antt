-- `listing::list_by` meets its contract. Assumes nothing.
use Rattle.listing.proofs.EndLaws.{long, list_taken}
use Rattle.listing.proofs.ListingLaws.{listing_parts}
use Rattle.listing.specs.Listing.{card_length, line_length}
use Rattle.listing.specs.Parts.{parts_by}
use Rattle.numbers.specs.Walk.{bytes_at}
use Rattle.numbers.proofs.WalkLaws.{bytes_part}
use Rattle.record.specs.Form.{field_head, form_causes}
use Rattle.record.proofs.JudgedLaws.{own}
use Rattle.reel.specs.Layout.{card_bytes}
use Rattle.numbers.specs.Cause.{Fine}
use Rattle.std.proofs.Common.{◌≡◌, sym, ap, ◌∙◌, arith}
use Rattle.listing.proofs.list_by.Goals.{In_ok-judge_record}
use Rattle.listing.proofs.list_by.Goals as goal

fine : (c : In_ok-judge_record) → form_causes c.args.«record».now ≡ Fine
fine c = let r = c.args.«record».now in (own r (form_causes r) (sym c.in_ok-judge_record.ensures)).fine

pub slice_bounds-put_parts-end : goal.slice_bounds-put_parts-end
slice_bounds-put_parts-end c = omega (arith, long c.args.«record».now (fine (goal.at.slice_bounds-put_parts-end c).In_ok-judge_record))

pub returns : goal.returns
returns c =
    let a = c.args in
    let r = a.«record».now in
    let f = fine (goal.at.returns c).In_ok-judge_record in
    let text = bytes_part r field_head card_bytes (long r f) in
    list_taken a.table.now r a.out.now f c.if-out-lt3240.false _
    (c.put_parts.ensures ∙ ap (parts_by a.table.now card_length line_length) text ∙ listing_parts a.table.now (bytes_at r field_head card_bytes))
