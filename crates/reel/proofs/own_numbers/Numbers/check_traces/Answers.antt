-- `reel::Numbers::check_traces` meets its contract. Assumes nothing.
use Rattle.reel.specs.Causes.{trace_causes_by}
use Rattle.reel.specs.Layout.{first_trace}
use Rattle.std.proofs.Common.{sym}
use Rattle.numbers.proofs.CauseLaws.{none_more}
use Rattle.reel.proofs.own_numbers.Numbers.check_traces.Goals as goal

pub loop-t-preserved : goal.loop-t-preserved
loop-t-preserved c =
    let a = c.args in
    let o = a.self in
    none_more (trace_causes_by o.layout a.reel.now o.code o.samples o.interval) o.stride o.traces first_trace c.loop-t.t c.loop-t-test.true c.loop-t.invariant (sym c.in_ok-check_whole.ensures)
