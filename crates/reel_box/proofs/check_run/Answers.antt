-- `reel_box::check_run` meets its contract. Assumes nothing.
use Rattle.std.proofs.Common.{◌≡◌, ◌+◌, ◌-◌, ◌*◌, ◌^◌, ◌≤◌, ◌<◌, length, rules, refl, sym, ap, ◌∙◌, arith, mul-le-mul_left, mul-le-mul_right, suc-mul}
use Rattle.numbers.specs.Cause.{checked, cause_no, Refused}
use Rattle.numbers.proofs.CauseLaws.{then_stop, then_next}
use Rattle.numbers.proofs.WalkLaws.{at_zero}
use Rattle.reel_box.specs.Box.{run_rules}
use Rattle.reel_box.proofs.BoxLaws.{run_turn, run_none}
use Rattle.reel_box.proofs.StepLaws.{wide}
use Rattle.reel_box.proofs.check_run.Goals as goal

pub check_trace-requires : goal.check_trace-requires
check_trace-requires c =
    let a = c.args in
    let o = a.own in
    let w : 240 ≤ o.stride = omega (arith, o.stride_is, wide o.layout o.samples o.width) in
    let few = mul-le-mul_left o.traces w in
    let room = mul-le-mul_right o.stride c.loop-i-test.true in
    let all : length a.s.now < 2 ^ 64 = search rules in
    (omega (arith, room, suc-mul c.loop-i.i o.stride, c.requires), omega (arith, few, c.requires, all, c.loop-i-test.true))

pub loop-i-init : goal.loop-i-init
loop-i-init c =
    let o = c.args.own in
    let z : o.traces - 0 ≡ o.traces = omega arith in
    rw (z, at_zero c.args.start o.stride) refl

pub returns-in_err-check_trace : goal.returns-in_err-check_trace
returns-in_err-check_trace c =
    let a = c.args in
    let o = a.own in
    let l = c.loop-i in
    let r = c.in_err-check_trace.field-0.0 in
    let q : checked c.from_residual.result ≡ Refused (cause_no r.cause) r.place = search rules in
    q ∙ c.in_err-check_trace.ensures ∙ then_stop _ _ (sym c.in_err-check_trace.ensures)
    ∙ sym (l.invariant ∙ run_turn a.s.now o.stride o.traces a.start l.i l.expected c.loop-i-test.true)

pub loop-i-preserved : goal.loop-i-preserved
loop-i-preserved c =
    let a = c.args in
    let o = a.own in
    let l = c.loop-i in
    l.invariant ∙ run_turn a.s.now o.stride o.traces a.start l.i l.expected c.loop-i-test.true ∙ sym (then_next _ _ (sym c.in_ok-check_trace.ensures))
    ∙ ap (run_rules a.s.now o.stride (o.traces - (l.i + 1)) (a.start + (l.i + 1) * o.stride) (l.i + 1 + 1)) (sym c.next_of-expected.ensures)

pub returns : goal.returns
returns c =
    let a = c.args in
    let o = a.own in
    let l = c.loop-i in
    run_none a.s.now o.stride (o.traces - l.i) (a.start + l.i * o.stride) (l.i + 1) l.expected (omega (arith, c.loop-i-test.false)) ∙ sym l.invariant
