-- `fit::judge_fit` meets its contract. Assumes nothing.
use Rattle.std.proofs.Common.{sym, ap, ◌∙◌}
use Rattle.fit.proofs.FitLaws.{target_form}
use Rattle.record.proofs.FormLaws.{numbers_held}
use Rattle.record.specs.Form.{record_found}
use Rattle.record.specs.Judged.{Fine}
use Rattle.record.specs.declared.Numbers.{Numbers}
use Rattle.fit.proofs.judge_fit.Goals as goal

pub returns : goal.returns
returns c =
    let a = c.args in
    let s = a.«record».now in
    let fine = sym c.in_ok-check_causes.ensures in
    ap (λ (n : Numbers). Fine n.samples n.traces) c.numbers_in.ensures ∙ numbers_held s (target_form s a.code fine) ∙ ap (record_found s) (sym fine)
