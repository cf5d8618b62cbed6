-- `compare::compare_bodies` meets its contract. Assumes nothing.
use Rattle.compare.proofs.SharedLaws.{samples_alike, interval_alike, front_alike, form_passed}
use Rattle.compare.specs.Answer.{ordered, compare_said, first_found, second_found}
use Rattle.record.proofs.FormLaws.{headed}
use Rattle.record.specs.Form.{form_causes}
use Rattle.numbers.specs.Cause.{Fine, checked}
use Rattle.std.proofs.Common.{◌≡◌, ◌≤◌, rules, length, arith}
use mathlib.Core.Path.{sym, ap, ◌∙◌}
use Rattle.compare.proofs.compare_bodies.Goals.{After-check_rest, After-check_rest-2, In_ok-map_err, In_ok-map_err-2, Start}
use Rattle.compare.proofs.compare_bodies.Goals as goal

room : (c : Start) → 3266 ≤ length c.args.a.now
room c = (headed c.args.a.now c.requires.0).room

-- the form of each is that of what follows behind the traces that they share
form_a : (c : After-check_rest) → form_causes c.args.a.now ≡ checked c.check_rest.result
form_a c =
    let s = (goal.at.After-check_rest c).Start in
    let a = s.args in
    let z = c.common_traces-shared in
    form_passed a.a.now a.n a.i z.result.traces z.result.place s.requires.0 s.requires.1 s.requires.2 z.ensures.first ∙ sym c.check_rest.ensures

form_b : (c : After-check_rest-2) → form_causes c.args.b.now ≡ checked c.check_rest-2.result
form_b c =
    let s = (goal.at.After-check_rest-2 c).Start in
    let a = s.args in
    let x = a.a.now in
    let y = a.b.now in
    let r = room s in
    let z = c.common_traces-shared in
    form_passed y a.n a.i z.result.traces z.result.place (sym (front_alike x y r s.requires.3 s.requires.4) ∙ s.requires.0) (s.requires.1 ∙ samples_alike x y r s.requires.3 s.requires.4) (s.requires.2 ∙ interval_alike x y r s.requires.3 s.requires.4) z.ensures.second
    ∙ sym c.check_rest-2.ensures

pub common_traces-shared-requires : goal.common_traces-shared-requires
common_traces-shared-requires c =
    let s = (goal.at.common_traces-shared-requires c).Start in
    let h = headed s.args.a.now s.requires.0 in
    (omega (arith, h.n_low, s.requires.1), h.room, s.requires.3, s.requires.4)

pub returns-in_err-map_err : goal.returns-in_err-map_err
returns-in_err-map_err c =
    let a = c.args in
    let e : compare_said c.from_residual.result ≡ first_found a.a.now a.b.now (checked c.check_rest.result) = search rules in
    e ∙ sym (ap (first_found a.a.now a.b.now) (form_a (goal.at.returns-in_err-map_err c).After-check_rest))

-- the first is valid
fine_a : (c : In_ok-map_err) → form_causes c.args.a.now ≡ Fine
fine_a c =
    let e : checked c.check_rest.result ≡ Fine = search rules in
    form_a (goal.at.In_ok-map_err c).After-check_rest ∙ e

pub returns-in_err-map_err-2 : goal.returns-in_err-map_err-2
returns-in_err-map_err-2 c =
    let a = c.args in
    let e : compare_said c.from_residual-in_err-map_err-2.result ≡ second_found a.a.now a.b.now (checked c.check_rest-2.result) = search rules in
    e ∙ sym (ap (first_found a.a.now a.b.now) (fine_a (goal.at.returns-in_err-map_err-2 c).In_ok-map_err) ∙ ap (second_found a.a.now a.b.now) (form_b (goal.at.returns-in_err-map_err-2 c).After-check_rest-2))

-- the second is valid too
fine_b : (c : In_ok-map_err-2) → form_causes c.args.b.now ≡ Fine
fine_b c =
    let e : checked c.check_rest-2.result ≡ Fine = search rules in
    form_b (goal.at.In_ok-map_err-2 c).After-check_rest-2 ∙ e

pub compare_rest-requires : goal.compare_rest-requires
compare_rest-requires c =
    let s = (goal.at.compare_rest-requires c).Start in
    (fine_a (goal.at.compare_rest-requires c).In_ok-map_err, fine_b (goal.at.compare_rest-requires c).In_ok-map_err-2, s.requires.1, s.requires.4, c.common_traces-shared.ensures)

pub returns : goal.returns
returns c =
    let a = c.args in
    ap ordered c.compare_rest.ensures
    ∙ sym (ap (first_found a.a.now a.b.now) (fine_a (goal.at.returns c).In_ok-map_err) ∙ ap (second_found a.a.now a.b.now) (fine_b (goal.at.returns c).In_ok-map_err-2))
