-- `fit::check_causes` meets its contract. Assumes nothing.
use Rattle.std.proofs.Common.{◌≡◌, sym, ap, ◌∙◌, ℕ, List, true, not, rules, Err}
use Rattle.fit.proofs.FitLaws.{target_is, target_stop}
use Rattle.record.specs.Form.{held_samples, binary_start, traces_place}
use Rattle.fit.specs.Target.{target_causes}
use Rattle.fit.specs.Parts.{fit_from}
use Rattle.record.specs.Parts.{form_from}
use Rattle.reel.specs.Causes.{most_traces}
use Rattle.formats.specs.Codes.{is_code}
use Rattle.numbers.proofs.CauseLaws.{checked_answer, then_stop, passed}
use Rattle.numbers.specs.Cause.{checked, then}
use Rattle.numbers.specs.Places.{place_no, field_place}
use Rattle.numbers.specs.declared.Place.{Place}
use Rattle.numbers.specs.declared.ByteNo.{ByteNo}
use Rattle.reel.specs.Layout.{number16}
use borrow.Author.Tests.{not-false}
use Rattle.fit.proofs.check_causes.Goals.{In_ok-check_code}
use Rattle.fit.proofs.check_causes.Goals as goal

a_code : (c : In_ok-check_code) → is_code c.args.code ≡ true
a_code c = not-false (is_code c.args.code) (passed (not (is_code c.args.code)) 11 0 (sym (checked_answer (is_code c.args.code) _ c.in_ok-check_code.ensures)))

pub returns-in_err-check_code : goal.returns-in_err-check_code
unfolding target_causes
returns-in_err-check_code c =
    let q : checked c.from_residual.result ≡ checked (Err c.in_err-check_code.field-0.0) = search rules in
    let e = checked_answer (is_code c.args.code) _ c.in_err-check_code.ensures in
    q ∙ e ∙ then_stop _ _ (sym e)

pub returns-in_err-check_front : goal.returns-in_err-check_front
returns-in_err-check_front c =
    let q : checked c.from_residual-in_err-check_front.result ≡ checked (Err c.in_err-check_front.field-0.0) = search rules in
    q ∙ sym (target_stop c.args.«record».now c.args.code (a_code (goal.at.returns-in_err-check_front c).In_ok-check_code) (sym c.in_err-check_front.ensures))

pub check_body-requires : goal.check_body-requires
check_body-requires c = a_code (goal.at.check_body-requires c).In_ok-check_code

-- the number in a field of the binary header, whose place the code works out
number_in : (s : List ℕ) (b : ByteNo) {n : ℕ} {p : Place} → p ≡ field_place (record { 0 = binary_start }) b → n ≡ number16 s (place_no p)
    → n ≡ number16 s (place_no (field_place (record { 0 = binary_start }) b))
number_in s b e q = q ∙ ap (λ (p : Place). number16 s (place_no p)) e

pub returns : goal.returns
returns c =
    let s = c.args.«record».now in
    let code = c.args.code in
    let n = number_in s (record { 0 = 3221 }) c.field_at.ensures c.number_at-n.ensures in
    let i = number_in s (record { 0 = 3217 }) c.field_at-2.ensures c.number_at-i.ensures in
    c.check_body.ensures
    ∙ ap (λ (x : ℕ). then (form_from s x c.number_at-i.result most_traces 0 traces_place) (fit_from s code x most_traces traces_place)) n
    ∙ ap (λ (x : ℕ). then (form_from s (held_samples s) x most_traces 0 traces_place) (fit_from s code (held_samples s) most_traces traces_place)) i
    ∙ sym (target_is s code (a_code (goal.at.returns c).In_ok-check_code) (sym c.in_ok-check_front.ensures))
