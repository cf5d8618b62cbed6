-- `compare::compare_samples` meets its contract. Assumes nothing.
use Rattle.std.proofs.Common.{◌+◌, ◌*◌, rules, ◌∙◌}
use Rattle.record.specs.Held.{held_value}
use Rattle.compare.proofs.LexLaws.{walk_pairs}
use Rattle.compare.proofs.compare_samples.Goals as goal

pub returns : goal.returns
returns c =
    let a = c.args in
    let p = a.a.place in
    let q = a.b.place in
    c.first_decided.ensures (λ k. held_value a.a.record.now (p + k * 6)) (λ k. held_value a.b.record.now (q + k * 6)) (λ k o l h. search rules)
    ∙ walk_pairs (held_value a.a.record.now) (held_value a.b.record.now) 6 6 a.n p q
