-- `record::check_header` meets its contract. Assumes nothing.
use Rattle.std.proofs.Common.{◌≡◌, sym, ◌∙◌, ◌+◌, ◌≤◌, length, arith, rules, Err, le-leb}
use Rattle.record.proofs.FormLaws.{header_parts, field_room}
use Rattle.headers.specs.Header.{header_size, smallest_causes, header_judged}
use Rattle.numbers.proofs.CauseLaws.{then_stop, then_next}
use Rattle.numbers.specs.Cause.{checked}
use Rattle.numbers.specs.Places.{place_no}
use Rattle.record.proofs.check_header.Goals.{In_ok-check_field, After-judge_header}
use Rattle.record.proofs.check_header.Goals as goal

-- the trace's fields end within the record
room : (c : In_ok-check_field) → let a = c.args in place_no a.at + 183 ≤ length a.«record».now
room c = let a = c.args in field_room a.«record».now 3 180 (place_no a.at) (sym c.in_ok-check_field.ensures)

-- so its scalars are judged
stands : (c : After-judge_header) → let a = c.args in header_judged a.«record».now (place_no a.at + 3) ≡ smallest_causes a.«record».now (place_no a.at + 3)
unfolding header_judged
stands c =
    let a = c.args in
    let l : place_no a.at + 3 + header_size ≤ length a.«record».now = omega (arith, room (goal.at.After-judge_header c).In_ok-check_field) in
    rw (le-leb (place_no a.at + 3 + header_size) (length a.«record».now) l)

pub returns-in_err-judge_header : goal.returns-in_err-judge_header
returns-in_err-judge_header c =
    let a = c.args in
    let q : checked c.from_residual-in_err-judge_header.result ≡ checked (Err c.in_err-judge_header.field-0.0) = search rules in
    let e = c.in_err-judge_header.ensures ∙ stands (goal.at.returns-in_err-judge_header c).After-judge_header in
    q ∙ e ∙ then_stop _ _ (sym e) ∙ then_next _ _ (sym c.in_ok-check_field.ensures) ∙ sym (header_parts a.«record».now a.n a.i (place_no a.at))

pub returns-in_err-check_like : goal.returns-in_err-check_like
returns-in_err-check_like c =
    let a = c.args in
    let q : checked c.from_residual-in_err-check_like.result ≡ checked (Err c.in_err-check_like.field-0.0) = search rules in
    let e = c.in_err-check_like.ensures in
    let h = sym (stands (goal.at.returns-in_err-check_like c).After-judge_header) ∙ sym c.in_ok-judge_header.ensures in
    q ∙ e ∙ then_stop _ _ (sym e) ∙ then_next _ _ h ∙ then_next _ _ (sym c.in_ok-check_field.ensures) ∙ sym (header_parts a.«record».now a.n a.i (place_no a.at))

pub returns : goal.returns
returns c =
    let a = c.args in
    let h = sym (stands (goal.at.returns c).After-judge_header) ∙ sym c.in_ok-judge_header.ensures in
    c.check_like-2.ensures ∙ then_next _ _ (sym c.in_ok-check_like.ensures) ∙ then_next _ _ h ∙ then_next _ _ (sym c.in_ok-check_field.ensures)
    ∙ sym (header_parts a.«record».now a.n a.i (place_no a.at))
