-- `fit::check_body` meets its contract. Assumes nothing.
use Rattle.fit.proofs.FitLaws.{trace_fine, fit_end, body_more, body_stop}
use Rattle.record.proofs.FormLaws.{is_more, more_few, form_room, form_end}
use Rattle.record.specs.Kind.{tag04}
use Rattle.record.specs.Form.{behind_trace_in}
use Rattle.fit.specs.Parts.{fit_from}
use Rattle.record.specs.Parts.{trace_by, form_from}
use Rattle.reel.specs.Causes.{most_traces}
use Rattle.numbers.proofs.CauseLaws.{then_last}
use Rattle.numbers.specs.Cause.{checked, then}
use Rattle.numbers.specs.Cause.{Fine}
use lib.ListN.{length}
use Rattle.std.proofs.Common.{true, Some}
use Prim.Native.Nat.{ℕ, ◌+◌, ◌-◌, ◌≤◌, ◌<◌}
use mathlib.Core.Path.{◌≡◌, sym, ap, ap₂, subst, ◌∙◌}
use native.Mathlib.Omega.{arith}
use Rattle.fit.proofs.check_body.Goals.{After-stride_at-at, In_default, In-traces}
use Rattle.fit.proofs.check_body.Goals as goal

is_more_lem : (c : In-traces) → is_more c.args.«record».now c.traces.t c.traces.at ≡ true
is_more_lem c = sym c.is_trace.ensures ∙ c.traces-test.true

few : (c : In-traces) → c.traces.t < most_traces
few c = more_few c.args.«record».now c.traces.t c.traces.at (is_more_lem (goal.at.In-traces c).In-traces)

fine : (c : In_default) → let a = c.args in trace_by (Some a.code) a.«record».now a.n a.i c.traces.at ≡ Fine
fine c = sym c.check_trace.ensures ∙ ap checked c.in_default.is

-- the place behind the trace, which ends within the record
behind : (c : After-stride_at-at) → let a = c.args in let at = c.traces.at in at + c.stride_at-at.result ≡ behind_trace_in tag04 a.«record».now a.n at
unfolding behind_trace_in
behind c = ap (λ (x : ℕ). c.traces.at + x) c.stride_at-at.ensures

room : (c : After-stride_at-at) → let a = c.args in c.traces.at + c.stride_at-at.result ≤ length a.«record».now
room c =
    let b = c in
    let a = b.args in
    let s = a.«record».now in
    let at = c.traces.at in
    subst (λ (x : ℕ). x ≤ length s) (sym (behind (goal.at.After-stride_at-at c).After-stride_at-at)) (form_room tag04 s a.n a.i at (trace_fine s a.code a.n a.i b.requires at (fine (goal.at.After-stride_at-at c).In_default)).0)

pub returns-in-Err : goal.returns-in-Err
returns-in-Err c =
    let h = c in
    let a = c.args in
    let s = a.«record».now in
    let e = c.check_trace.ensures in
    c.check_later.ensures ∙ ap (then (form_from s a.n a.i (most_traces - h.traces.t) h.traces.t h.traces.at)) (sym (ap checked c.in-Err.is) ∙ e)
    ∙ body_stop s a.n a.code a.i c.requires h.traces.t h.traces.at (is_more_lem (goal.at.returns-in-Err c).In-traces) (sym e ∙ ap checked c.in-Err.is) ∙ sym h.traces.invariant

pub overflow_add-at : goal.overflow_add-at
overflow_add-at c = omega (arith, room (goal.at.overflow_add-at c).After-stride_at-at)

pub overflow_add-t : goal.overflow_add-t
overflow_add-t c = omega (arith, few (goal.at.overflow_add-t c).In-traces)

pub traces-smaller : goal.traces-smaller
traces-smaller c = omega (arith, few (goal.at.traces-smaller c).In-traces)

pub traces-preserved : goal.traces-preserved
traces-preserved c =
    let h = c in
    let b = c in
    let a = b.args in
    let s = a.«record».now in
    h.traces.invariant ∙ body_more s a.n a.code a.i b.requires h.traces.t h.traces.at (is_more_lem (goal.at.traces-preserved c).In-traces) (fine (goal.at.traces-preserved c).In_default)
    ∙ ap (λ (x : ℕ). then (form_from s a.n a.i (most_traces - (h.traces.t + 1)) (h.traces.t + 1) x) (fit_from s a.code a.n (most_traces - (h.traces.t + 1)) x)) (sym (behind (goal.at.traces-preserved c).After-stride_at-at))

pub returns : goal.returns
returns c =
    let h = c in
    let a = c.args in
    let s = a.«record».now in
    let none = sym c.is_trace.ensures ∙ c.traces-test.false in
    c.check_end.ensures ∙ sym (then_last _) ∙ sym (h.traces.invariant ∙ ap₂ then (form_end s a.n a.i h.traces.t h.traces.at none) (fit_end s a.n a.code h.traces.t h.traces.at none))
