-- `compare::compare_rows` meets its contract. Assumes nothing.
use Rattle.std.proofs.Common.{◌∙◌, sym, arith}
use Rattle.compare.proofs.KeyLaws.{first_decides, rows_next, rows_room, rows_none, behind_first}
use Rattle.compare.proofs.compare_rows.Goals as goal

pub compare_row-order-requires : goal.compare_row-order-requires
compare_row-order-requires c =
    let r = rows_room c.args.rows.now c.loop-row.row-index c.loop-row-test.true in
    (omega (arith, r.0, c.loop-row.invariant.1, c.requires.0), omega (arith, r.0, c.loop-row.invariant.1, c.requires.1))

pub returns-then-is_ne : goal.returns-then-is_ne
returns-then-is_ne c =
    let a = c.args in
    let n = rows_next a.a.record.now a.b.record.now a.a.place a.b.place a.rows.now c.loop-row.row-index c.loop-row-test.true in
    first_decides _ _ _ c.compare_row-order.ensures (sym c.is_ne.ensures ∙ c.if-is_ne.true) ∙ sym n ∙ sym c.loop-row.invariant.0

pub loop-row-preserved : goal.loop-row-preserved
loop-row-preserved c =
    let a = c.args in
    let n = rows_next a.a.record.now a.b.record.now a.a.place a.b.place a.rows.now c.loop-row.row-index c.loop-row-test.true in
    let r = rows_room a.rows.now c.loop-row.row-index c.loop-row-test.true in
    (c.loop-row.invariant.0 ∙ n ∙ behind_first _ _ _ c.compare_row-order.ensures (sym c.is_ne.ensures ∙ c.if-is_ne.false), omega (arith, r.1, c.loop-row.invariant.1))

pub returns : goal.returns
returns c =
    let a = c.args in
    rows_none a.a.record.now a.b.record.now a.a.place a.b.place a.rows.now c.loop-row.row-index c.loop-row-test.false ∙ sym c.loop-row.invariant.0
