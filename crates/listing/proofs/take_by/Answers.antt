-- `listing::take_by` meets its contract. Assumes nothing.
use Rattle.listing.proofs.EndLaws.{long, listing_size, take_taken}
use Rattle.record.specs.Form.{form_causes}
use Rattle.record.proofs.JudgedLaws.{own}
use Rattle.std.proofs.Common.{length, length-take-le, sym}
use Rattle.listing.proofs.take_by.Goals as goal

pub put_record-requires : goal.put_record-requires
put_record-requires c =
    let a = c.args in
    let r = a.«record».now in
    (long r (own r (form_causes r) (sym c.in_ok-own.ensures)).fine, listing_size a.listing.now (sym c.in_ok-check_listing.ensures), length-take-le (length r) a.out.now c.if-out-length.false)

pub returns : goal.returns
returns c =
    let a = c.args in
    let r = a.«record».now in
    take_taken a.bytes.now r a.listing.now a.out.now (own r (form_causes r) (sym c.in_ok-own.ensures)) (sym c.in_ok-check_listing.ensures) c.if-out-length.false _ c.put_record.ensures
