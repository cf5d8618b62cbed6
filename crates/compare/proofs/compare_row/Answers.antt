-- `compare::compare_row` meets its contract. Assumes nothing.
use Rattle.std.proofs.Common.{◌+◌, ◌*◌, rules, ◌∙◌}
use Rattle.compare.specs.Parts.{width_bytes, number_at, row_of}
use Rattle.compare.proofs.LexLaws.{order_is, walk_pairs}
use Rattle.compare.proofs.compare_row.Goals as goal

pub returns : goal.returns
unfolding row_of
returns c =
    let a = c.args in
    let p = a.a.place + a.row.offset in
    let q = a.b.place + a.row.offset in
    let w = width_bytes a.row.width in
    c.first_decided.ensures (λ k. number_at a.a.record.now w (p + k * w)) (λ k. number_at a.b.record.now w (q + k * w)) (λ k o l h. search (rules, order_is))
    ∙ walk_pairs (number_at a.a.record.now w) (number_at a.b.record.now w) w w a.row.count p q
