-- `compare::compare_fronts` meets its contract. Assumes nothing.
use Rattle.compare.proofs.KeyLaws.{first_decides, behind_first, binary_table, cards_order, front_two}
use Rattle.exact.specs.Order.{lex_z}
use Rattle.std.proofs.Common.{arith}
use mathlib.Core.Path.{sym, ap₂, ◌∙◌}
use Rattle.compare.proofs.compare_fronts.Goals as goal

pub returns-then-is_ne : goal.returns-then-is_ne
returns-then-is_ne c =
    let x = c.args.a.now in
    let y = c.args.b.now in
    first_decides _ _ _ (c.cmp-cards.ensures ∙ cards_order x y (omega (arith, c.requires.0)) (omega (arith, c.requires.1))) (sym c.is_ne.ensures ∙ c.if-is_ne.true) ∙ sym (front_two x y)

pub returns : goal.returns
returns c =
    let x = c.args.a.now in
    let y = c.args.b.now in
    c.compare_rows.ensures ∙ ap₂ lex_z (binary_table x) (binary_table y)
    ∙ sym (behind_first _ _ _ (c.cmp-cards.ensures ∙ cards_order x y (omega (arith, c.requires.0)) (omega (arith, c.requires.1))) (sym c.is_ne.ensures ∙ c.if-is_ne.false))
    ∙ sym (front_two x y)
