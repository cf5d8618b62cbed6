-- `record::judge_record` meets its contract. Assumes nothing.
use Rattle.std.proofs.Common.{◌≡◌, sym, ap, ◌∙◌, rules, Err}
use Rattle.record.proofs.FormLaws.{numbers_held}
use Rattle.record.specs.Form.{record_found}
use Rattle.record.specs.Judged.{judged, Fine, Refused}
use Rattle.numbers.specs.Cause.{cause_no}
use Rattle.record.specs.declared.Numbers.{Numbers}
use Rattle.record.proofs.judge_record.Goals as goal

pub returns : goal.returns
returns c =
    let s = c.args.«record».now in
    ap (λ (n : Numbers). Fine n.samples n.traces) c.numbers_in.ensures ∙ numbers_held s (sym c.in_ok-check_form.ensures) ∙ ap (record_found s) c.in_ok-check_form.ensures
