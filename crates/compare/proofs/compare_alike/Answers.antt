-- `compare::compare_alike` meets its contract. Assumes nothing.
use Rattle.compare.proofs.SharedLaws.{front_stop}
use Rattle.compare.specs.Answer.{compare_said, first_found}
use Rattle.numbers.specs.Cause.{checked}
use Rattle.std.proofs.Common.{◌≡◌, rules}
use mathlib.Core.Path.{sym, ap, ◌∙◌}
use Rattle.compare.proofs.compare_alike.Goals as goal

pub returns-in_err-map_err : goal.returns-in_err-map_err
returns-in_err-map_err c =
    let a = c.args in
    let r = c.judge_front.result in
    let e : compare_said c.from_residual.result ≡ first_found a.a.now a.b.now (checked r) = search rules in
    e ∙ sym (ap (first_found a.a.now a.b.now) (front_stop a.a.now r (search rules) c.judge_front.ensures))
