-- `record::check_rest` meets its contract. Assumes nothing.
use Rattle.record.proofs.FormLaws.{trace_form, is_more, more_few, form_more, form_end, form_room}
use Rattle.record.specs.Kind.{tag04}
use Rattle.record.specs.Form.{trace_form_in, behind_trace_in}
use Rattle.record.specs.Parts.{form_from}
use Rattle.reel.specs.Causes.{most_traces}
use Rattle.numbers.proofs.CauseLaws.{then_stop}
use Rattle.numbers.specs.Cause.{checked, then, Fine}
use Rattle.std.proofs.Common.{◌≡◌, sym, ap, subst, ◌∙◌, ℕ, ◌+◌, ◌-◌, ◌≤◌, ◌<◌, true, length, arith, rules, Err}
use Rattle.record.proofs.check_rest.Goals.{After-stride_at-at, In_ok-check_trace, In-traces}
use Rattle.record.proofs.check_rest.Goals as goal

is_more_lem : (c : In-traces) → is_more c.args.«record».now c.traces.t c.traces.at ≡ true
is_more_lem c = sym c.is_trace.ensures ∙ c.traces-test.true

few : (c : In-traces) → c.traces.t < most_traces
few c = more_few c.args.«record».now c.traces.t c.traces.at (is_more_lem (goal.at.In-traces c).In-traces)

fine : (c : In_ok-check_trace) → let a = c.args in trace_form_in tag04 a.«record».now a.n a.i c.traces.at ≡ Fine
fine c = let a = c.args in sym (trace_form a.«record».now a.n a.i c.traces.at) ∙ sym c.in_ok-check_trace.ensures

-- the place behind the trace, which ends within the record
behind : (c : After-stride_at-at) → let a = c.args in let at = c.traces.at in at + c.stride_at-at.result ≡ behind_trace_in tag04 a.«record».now a.n at
unfolding behind_trace_in
behind c = ap (λ (x : ℕ). c.traces.at + x) c.stride_at-at.ensures

room : (c : After-stride_at-at) → let a = c.args in c.traces.at + c.stride_at-at.result ≤ length a.«record».now
room c =
    let a = c.args in
    subst (λ (x : ℕ). x ≤ length a.«record».now) (sym (behind (goal.at.After-stride_at-at c).After-stride_at-at)) (form_room tag04 a.«record».now a.n a.i c.traces.at (fine (goal.at.After-stride_at-at c).In_ok-check_trace))

pub returns-in_err-check_trace : goal.returns-in_err-check_trace
returns-in_err-check_trace c =
    let a = c.args in
    let q : checked c.from_residual.result ≡ checked (Err c.in_err-check_trace.field-0.0) = search rules in
    let e = c.in_err-check_trace.ensures ∙ trace_form a.«record».now a.n a.i c.traces.at in
    q ∙ e ∙ then_stop _ _ (sym e) ∙ sym (c.traces.invariant ∙ form_more a.«record».now a.n a.i c.traces.t c.traces.at (is_more_lem (goal.at.returns-in_err-check_trace c).In-traces))

pub overflow_add-at : goal.overflow_add-at
overflow_add-at c = omega (arith, room (goal.at.overflow_add-at c).After-stride_at-at)

pub overflow_add-t : goal.overflow_add-t
overflow_add-t c = omega (arith, few (goal.at.overflow_add-t c).In-traces)

pub traces-smaller : goal.traces-smaller
traces-smaller c = omega (arith, few (goal.at.traces-smaller c).In-traces)

pub traces-preserved : goal.traces-preserved
traces-preserved c =
    let a = c.args in
    let s = a.«record».now in
    c.traces.invariant ∙ form_more s a.n a.i c.traces.t c.traces.at (is_more_lem (goal.at.traces-preserved c).In-traces)
    ∙ ap (λ x. then x (form_from s a.n a.i (most_traces - (c.traces.t + 1)) (c.traces.t + 1) (behind_trace_in tag04 s a.n c.traces.at))) (fine (goal.at.traces-preserved c).In_ok-check_trace)
    ∙ ap (form_from s a.n a.i (most_traces - (c.traces.t + 1)) (c.traces.t + 1)) (sym (behind (goal.at.traces-preserved c).After-stride_at-at))

pub returns : goal.returns
returns c =
    let a = c.args in
    c.check_end.ensures ∙ sym (c.traces.invariant ∙ form_end a.«record».now a.n a.i c.traces.t c.traces.at (sym c.is_trace.ensures ∙ c.traces-test.false))
