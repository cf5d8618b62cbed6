-- `listing::put_record` meets its contract. Assumes nothing.
use Rattle.listing.specs.Parts.{text_by}
use Rattle.listing.proofs.ListingLaws.{size_by, text_parts, close_all}
use Rattle.record.specs.Form.{field_head, binary_place}
use Rattle.numbers.proofs.Filling.{start, lend, size_over}
use Rattle.numbers.proofs.WalkLaws.{bytes_part, copied, size_bytes}
use Rattle.numbers.specs.Walk.{bytes_at}
use Rattle.std.proofs.Common.{rules, ◌≡◌, ◌-◌, ◌++◌, length, sym, ap, ◌∙◌, arith}
use Rattle.listing.proofs.put_record.Goals as goal

pub returns : goal.returns
returns c =
    let a = c.args in
    let r = a.«record».now in
    let x = bytes_at r 0 field_head in
    let y = text_by a.bytes.now a.listing.now in
    let z = bytes_at r binary_place (length r - binary_place) in
    let y-size = size_by a.bytes.now a.listing.now in
    let parts = text_parts r y c.requires.0 y-size in
    let whole : length a.out.now ≡ length (x ++ (y ++ z)) = c.requires.2 ∙ sym (size_over r y field_head (omega (arith, y-size, c.requires.0))) ∙ ap length parts in
    let front = copied _ _ c.copy.ensures (search rules) ∙ bytes_part r 0 field_head (omega (arith, c.requires.0)) in
    let behind = copied _ _ c.copy-2.ensures (search rules) ∙ bytes_part r binary_place (length r - binary_place) (omega (arith, c.requires.0)) in
    let w₁ = lend x (y ++ z) field_head (start (x ++ (y ++ z)) a.out.now whole) (omega arith) (size_bytes r 0 field_head) front in
    let w₂ = lend y z binary_place w₁ (omega arith) y-size c.put_parts.ensures in
    close_all z w₂ behind ∙ sym parts
