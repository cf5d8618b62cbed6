-- `compare::compare_headers` meets its contract. Assumes nothing.
use Rattle.std.proofs.Common.{◌∙◌}
use mathlib.Core.Path.{ap₂}
use Rattle.exact.specs.Order.{lex_z}
use Rattle.compare.proofs.KeyLaws.{header_table}
use Rattle.compare.proofs.compare_headers.Goals as goal

pub returns : goal.returns
returns c =
    let a = c.args in
    c.compare_rows.ensures ∙ ap₂ lex_z (header_table a.a.record.now a.a.place) (header_table a.b.record.now a.b.place)
