-- `write_reel::judge_target_and_form` meets its contract. Assumes nothing.
use Rattle.std.proofs.Common.{◌≡◌, ap, ◌∙◌, rules, List, ℕ}
use Rattle.formats.specs.Codes.{is_code}
use Rattle.numbers.specs.Cause.{Check, then, cause_no}
use Rattle.numbers.proofs.CauseLaws.{checked_answer}
use Rattle.record.specs.Form.{form_causes, record_found}
use Rattle.record.specs.Judged.{Judged, judged, Refused}
use Rattle.write_reel.proofs.judge_target_and_form.Goals as goal

-- what is found behind a check of the code
behind : List ℕ → Check → Judged
behind s c = record_found s (then c (form_causes s))

pub returns-in_err-check_code : goal.returns-in_err-check_code
unfolding behind
returns-in_err-check_code c =
    let e = c.in_err-check_code.field-0.0 in
    let q : judged c.from_residual.result ≡ Refused (cause_no e.cause) e.place = search rules in
    q ∙ ap (behind c.args.«record».now) (checked_answer (is_code c.args.code) _ c.in_err-check_code.ensures)
