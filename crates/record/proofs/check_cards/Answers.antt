-- `record::check_cards` meets its contract. Assumes nothing.
use Rattle.std.proofs.Common.{◌≡◌, sym, ◌∙◌, rules, Err}
use Rattle.numbers.proofs.CauseLaws.{then_stop, then_next}
use Rattle.numbers.specs.Cause.{checked}
use Rattle.record.specs.Form.{cards_causes}
use Rattle.record.proofs.check_cards.Goals as goal

pub returns-in_err-check_field : goal.returns-in_err-check_field
unfolding cards_causes
returns-in_err-check_field c =
    let q : checked c.from_residual.result ≡ checked (Err c.in_err-check_field.field-0.0) = search rules in
    let e = c.in_err-check_field.ensures in
    q ∙ e ∙ then_stop _ _ (sym e)

pub returns : goal.returns
unfolding cards_causes
returns c = c.check_card_bytes.ensures ∙ then_next _ _ (sym c.in_ok-check_field.ensures)
