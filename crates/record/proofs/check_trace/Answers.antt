-- `record::check_trace` meets its contract. Assumes nothing.
use Rattle.record.proofs.FormLaws.{share_some, header_room}
use Rattle.record.specs.Kind.{tag04}
use Rattle.record.specs.Parts.{fields_by, trace_by}
use Rattle.numbers.proofs.CauseLaws.{then_next}
use Rattle.std.proofs.Common.{◌≡◌, sym, ap, subst, ◌∙◌, ℕ, ◌+◌, ◌<◌, ◌≤◌, length, arith, rules}
use Rattle.record.proofs.check_trace.Goals.{After-share_at-c, In_ok-check_header}
use Rattle.record.proofs.check_trace.Goals as goal

-- the header ends within the record
room : (c : In_ok-check_header) → let a = c.args in a.at.0 + 183 ≤ length a.«record».now
room c = let a = c.args in header_room a.«record».now a.n a.i a.at.0 (sym c.in_ok-check_header.ensures)

pub returns-in_err-check_header : goal.returns-in_err-check_header
unfolding trace_by
returns-in_err-check_header c = search rules

some : (c : After-share_at-c) → 0 < c.share_at-c.result
some c = let a = c.args in subst (λ (x : ℕ). 0 < x) (sym c.share_at-c.ensures) (share_some tag04 a.«record».now a.n (a.at.0 + 183))

pub overflow_add-at : goal.overflow_add-at
overflow_add-at c = omega (arith, room (goal.at.overflow_add-at c).In_ok-check_header)

pub check_fields-requires : goal.check_fields-requires
check_fields-requires c = (some (goal.at.check_fields-requires c).After-share_at-c, search rules)

pub returns : goal.returns
unfolding trace_by
returns c =
    let a = c.args in
    let s = a.«record».now in
    c.check_fields.ensures ∙ ap (λ (x : ℕ). fields_by a.target s x a.n (a.at.0 + 183)) c.share_at-c.ensures
    ∙ then_next _ _ (sym c.in_ok-check_header.ensures)
