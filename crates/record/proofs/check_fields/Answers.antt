-- `record::check_fields` meets its contract. Assumes nothing.
use Rattle.numbers.proofs.CauseLaws.{then_stop}
use Rattle.numbers.specs.Cause.{checked, then, Fine}
use Rattle.record.specs.Parts.{field_by, fields_by}
use Rattle.record.proofs.FormLaws.{fields_none, fields_more, one_room}
use Rattle.std.proofs.Common.{◌≡◌, sym, ap, ap₂, ◌∙◌, ℕ, ◌+◌, ◌-◌, ◌*◌, ◌≤◌, min, length, arith, rules, Err}
use Rattle.record.proofs.check_fields.Goals.{In_ok-check_one}
use Rattle.record.proofs.check_fields.Goals as goal

pub returns-in_err-check_one : goal.returns-in_err-check_one
returns-in_err-check_one c =
    let a = c.args in
    let s = a.«record».now in
    let left = c.fields.left in
    let at = c.fields.at in
    let rest = fields_by a.target s a.c (left - a.c) (at + (3 + min a.c left * 6)) in
    let q : checked c.from_residual.result ≡ checked (Err c.in_err-check_one.field-0.0) = search rules in
    let e = c.in_err-check_one.ensures in
    q ∙ e ∙ then_stop _ rest (sym e)
    ∙ ap (λ (x : ℕ). then (field_by a.target s x at) rest) c.next_count-count.ensures
    ∙ sym (c.fields.invariant.0 ∙ fields_more a.target s a.c c.requires.0 left at c.fields-test.true)

-- the field ends within the record
room : (c : In_ok-check_one) → let a = c.args in c.fields.at + (3 + c.next_count-count.result * 6) ≤ length a.«record».now
room c = let a = c.args in one_room a.target a.«record».now c.next_count-count.result c.fields.at (sym c.in_ok-check_one.ensures)

pub overflow_add-at-in-fields : goal.overflow_add-at-in-fields
overflow_add-at-in-fields c = omega (arith, room (goal.at.overflow_add-at-in-fields c).In_ok-check_one)

pub fields-preserved : goal.fields-preserved
fields-preserved c =
    let a = c.args in
    let s = a.«record».now in
    let left = c.fields.left in
    let at = c.fields.at in
    let count = c.next_count-count.result in
    let q : count ≡ min a.c left = c.next_count-count.ensures in
    let less : left - a.c ≡ left - count = omega arith in (
      c.fields.invariant.0
          ∙ fields_more a.target s a.c c.requires.0 left at c.fields-test.true
          ∙ ap (λ x. then x (fields_by a.target s a.c (left - a.c) (at + (3 + min a.c left * 6)))) (ap (λ (x : ℕ). field_by a.target s x at) (sym q) ∙ sym c.in_ok-check_one.ensures)
          ∙ ap₂ (λ (x y : ℕ). fields_by a.target s a.c x (at + (3 + y * 6))) less (sym q),
      omega (arith, c.next_count-count.ensures, c.fields.invariant.1),
    )

pub returns : goal.returns
returns c =
    let a = c.args in
    sym (c.fields.invariant.0 ∙ fields_none a.target a.«record».now a.c c.requires.0 c.fields.left c.fields.at c.fields-test.false)
