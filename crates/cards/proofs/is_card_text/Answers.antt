-- `cards::is_card_text` meets its contract. Assumes nothing.
use Rattle.std.proofs.Common.{◌≡◌, length, not, ap, ◌∙◌, eq-eqb, eqb, arith}
use Rattle.std.proofs.lemmas.Grind.{common_steps}
use Rattle.std.specs.List.{list_any}
use Rattle.cards.specs.Cards.{card_bytes, is_card_text}
use Rattle.cards.proofs.EightLaws.{contains_none}
use Rattle.cards.proofs.is_card_text.Goals as goal

pub returns-then-cards-eq3200 : goal.returns-then-cards-eq3200
unfolding is_card_text
returns-then-cards-eq3200 c =
    let l = c.args.cards.now in
    let some : c.contains.result ≡ list_any (λ b. eqb b 0) l = grind (arith, common_steps) in
    rw (eq-eqb (length l) card_bytes c.if-cards-eq3200.true) (ap not some ∙ contains_none l)
