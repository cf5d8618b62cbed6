-- `compare::exact_at` meets its contract. Assumes nothing.
use Rattle.exact.proofs.OrderLaws.{exact_value_lem}
use Rattle.exact.specs.Value.{value_by, exact_of}
use Rattle.value.specs.Pair.{value_of, pair_in}
use Rattle.numbers.proofs.WalkLaws.{six_bytes}
use mathlib.Core.Path.{◌≡◌, sym, ap, ◌∙◌}
use borrow.Author.Rules.{rules}
use Rattle.compare.proofs.exact_at.Goals as goal

pub returns : goal.returns
returns c =
    let p = c.of_bytes-p in
    let a = c.args in
    let x : c.from_pair.result ≡ exact_of p.result.e p.result.m = search rules in
    ap value_by x ∙ exact_value_lem p.result.e p.result.m ∙ ap value_of (p.ensures ∙ ap pair_in (sym (six_bytes a.s.now a.at)))
