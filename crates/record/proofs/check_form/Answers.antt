-- `record::check_form` meets its contract. Assumes nothing.
use Rattle.std.proofs.Common.{◌≡◌, sym, ap, ◌∙◌, ℕ, rules, Err}
use Rattle.record.proofs.FormLaws.{form_is, form_stop}
use Rattle.record.specs.Form.{held_samples, traces_place}
use Rattle.record.specs.Parts.{form_from}
use Rattle.reel.specs.Causes.{most_traces}
use Rattle.numbers.specs.Cause.{checked}
use Rattle.record.proofs.check_form.Goals as goal

pub returns-in_err-judge_front : goal.returns-in_err-judge_front
returns-in_err-judge_front c =
    let q : checked c.from_residual.result ≡ checked (Err c.in_err-judge_front.field-0.0) = search rules in
    q ∙ sym (form_stop c.args.«record».now (sym c.in_err-judge_front.ensures))

pub returns : goal.returns
returns c =
    let s = c.args.«record».now in
    let n = c.binary_number-n in
    let i = c.binary_number-i in
    c.check_rest.ensures ∙ ap (λ (x : ℕ). form_from s x i.result most_traces 0 traces_place) n.ensures
    ∙ ap (λ (x : ℕ). form_from s (held_samples s) x most_traces 0 traces_place) i.ensures ∙ sym (form_is s (sym c.in_ok-judge_front.ensures))
