-- `headers::judge_header` meets its contract. Assumes nothing.
use Rattle.std.proofs.Common.{rules, ◌≡◌, ◌∙◌, sym, ap, Err}
use Rattle.numbers.specs.Cause.{checked}
use Rattle.numbers.proofs.CauseLaws.{then_stop, then_next}
use Rattle.headers.specs.Header.{header_judged}
use Rattle.headers.proofs.Inside.{judged_whole}
use Rattle.headers.proofs.judge_header.Goals as goal

pub returns-in_default : goal.returns-in_default
unfolding header_judged
returns-in_default c = rw c.in_default.ensures

pub returns-in_err-check : goal.returns-in_err-check
returns-in_err-check c =
    let given : c.from_residual.result ≡ Err c.in_err-check.field-0.0 = search rules in
    ap checked given ∙ c.in_err-check.ensures ∙ then_stop _ _ (sym c.in_err-check.ensures) ∙ judged_whole c.args.s.now c.in-Some.header.now c.args.start.0 c.in-Some.ensures.0 c.in-Some.ensures.1

pub returns : goal.returns
returns c = c.check-2.ensures ∙ then_next _ _ (sym c.in_ok-check.ensures) ∙ judged_whole c.args.s.now c.in-Some.header.now c.args.start.0 c.in-Some.ensures.0 c.in-Some.ensures.1
