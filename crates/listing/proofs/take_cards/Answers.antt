-- `listing::take_cards` meets its contract. Assumes nothing.
use Rattle.code_page.proofs.PageLaws.{latin_one_to_one}
use Rattle.code_page.specs.Page.{latin}
use Rattle.listing.specs.Calls.{take_causes, take_end}
use Rattle.listing.specs.Parts.{take_by}
use Rattle.listing.proofs.ListingLaws.{blanked, text_by_lem}
use Rattle.numbers.proofs.ByteLaws.{all_bytes}
use Rattle.std.proofs.Common.{ℕ, List, length, get_or, set, ap, ap₂, ◌∙◌, arith}
use Rattle.listing.proofs.take_cards.Goals as goal

pub returns : goal.returns
returns c =
    let a = c.args in
    let r = a.«record».now in
    let l = a.listing.now in
    let out = a.out.now in
    let bytes =
    c.card_bytes-bytes.ensures ∙ ap₂ (λ (x t : List ℕ). set x (get_or t 0 0) 0x40) c.codes.ensures c.characters.ensures ∙ blanked latin (latin_one_to_one.character 0 (omega arith)) in
    c.take_by.ensures
    ∙ ap (λ (b : List ℕ). take_by b r l out) bytes
    ∙ ap (λ (x : List ℕ). take_end r x out (take_causes r l (length out))) (text_by_lem latin l (all_bytes l (λ i. omega (arith, c.type_inv.listing i))))
