-- `listing::put_parts` meets its contract. Assumes nothing.
use Rattle.listing.proofs.ListingLaws.{parts_begun, parts_more, parts_done, part_within, size_lent}
use Rattle.listing.specs.Listing.{card_length}
use Rattle.listing.specs.Parts.{entry_of, closing, part_by}
use Rattle.numbers.proofs.WalkLaws.{bytes_between}
use Rattle.std.proofs.Common.{ℕ, List, ◌≤◌, ◌+◌, ◌*◌, ◌++◌, map, length, refl, ap₂, ◌∙◌, arith}
use Rattle.listing.proofs.put_parts.Goals as goal

pub loop-i-init : goal.loop-i-init
loop-i-init c =
    let a = c.args in
    parts_begun a.table.now a.from a.size a.src.now a.out.now c.requires.3 c.requires.5

pub loop-i-preserved : goal.loop-i-preserved
unfolding part_by
loop-i-preserved c =
    let a = c.args in
    let l = c.loop-i in
    let at = l.i * a.from in
    let within : at + card_length ≤ length a.src.now = omega (arith, part_within l.i a.from c.loop-i-test.true) in
    let room : l.i * a.size + a.size ≤ length l.out = omega (arith, part_within l.i a.size c.loop-i-test.true) in
    let is =
    c.put_part.ensures
    ∙ ap₂ (λ (x : List ℕ) (n : ℕ). map (entry_of a.table.now) x ++ closing n) (bytes_between a.src.now at (at + card_length) card_length within refl) (size_lent (l.i * a.size) a.size l.out room) in
    parts_more a.table.now a.from a.size a.src.now l.out c.requires.3 l.i c.loop-i-test.true l.invariant is

pub returns : goal.returns
returns c =
    let a = c.args in
    parts_done a.table.now a.from a.size a.src.now c.loop-i.out c.requires.3 c.loop-i.i c.loop-i-test.false c.loop-i.invariant
