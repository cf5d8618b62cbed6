-- `record::judge_front` meets its contract. Assumes nothing.
use Rattle.record.proofs.FormLaws.{field_room, cards_fine}
use Rattle.record.specs.Form.{field_head, binary_place, cards_causes}
use Rattle.reel.specs.Layout.{card_bytes}
use Rattle.cards.specs.Cards.{no_zero}
use Rattle.cards.proofs.EightLaws.{text_none}
use Rattle.numbers.proofs.CauseLaws.{then_stop, then_next}
use Rattle.numbers.proofs.WalkLaws.{bytes_between}
use Rattle.numbers.specs.Cause.{checked, Fine}
use Rattle.std.proofs.Common.{◌≡◌, refl, sym, ap, ◌∙◌, rules, Err}
use Rattle.record.proofs.judge_front.Goals as goal

pub returns-in_err-check_field : goal.returns-in_err-check_field
unfolding cards_causes
returns-in_err-check_field c =
    let q : checked c.from_residual.result ≡ checked (Err c.in_err-check_field.field-0.0) = search rules in
    let e = c.in_err-check_field.ensures in
    let cards = e ∙ then_stop _ _ (sym e) in
    q ∙ cards ∙ then_stop _ _ (sym cards)

pub returns-then-is_card_text : goal.returns-then-is_card_text
unfolding cards_causes
returns-then-is_card_text c =
    let s = c.args.«record».now in
    let fine = sym c.in_ok-check_field.ensures in
    let none = text_none _ (sym c.is_card_text.ensures ∙ c.if-is_card_text.true) in
    let text = ap no_zero (bytes_between s field_head binary_place card_bytes (field_room s 1 3200 0 fine) refl) in
    let cards : cards_causes s ≡ Fine = sym (then_next _ _ fine) ∙ cards_fine s card_bytes field_head (sym text ∙ none) in
    c.check_binary.ensures ∙ then_next _ _ cards
