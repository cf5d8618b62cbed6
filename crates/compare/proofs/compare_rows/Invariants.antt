use Rattle.std.proofs.Common.{◌≡◌, ◌≤◌, drop}
use Rattle.exact.specs.Order.{lex_z}
use Rattle.compare.specs.Parts.{rows_key, rows_end}
use Rattle.compare.proofs.compare_rows.Given as goal

-- the rows that are left decide
abbrev pub invariant-loop-row : goal.invariant-loop-row
invariant-loop-row l =
    (lex_z (rows_key l.a.record.now l.a.place l.rows) (rows_key l.b.record.now l.b.place l.rows)
    ≡ lex_z (rows_key l.a.record.now l.a.place (drop l.row-index l.rows)) (rows_key l.b.record.now l.b.place (drop l.row-index l.rows)))
    × (rows_end (drop l.row-index l.rows) ≤ rows_end l.rows)
