-- `exact::Exact::cmp_value` meets its contract. Assumes nothing.
use Rattle.exact.proofs.Exact.cmp_value.Goals as goal
use Rattle.exact.proofs.OrderLaws.{by_sides, sides_decide}
use Rattle.std.proofs.Common.{◌≡◌, rules}
use mathlib.Core.Path.{◌∙◌}

pub returns-in_default : goal.returns-in_default
returns-in_default c =
    let e : c.cmp.result ≡ by_sides c.sign.result c.sign-2.result = search rules in
    e
    ∙ sides_decide _ _ c.sign.result c.sign-2.result c.sign.ensures c.sign-2.ensures
    (search rules) (search rules)
