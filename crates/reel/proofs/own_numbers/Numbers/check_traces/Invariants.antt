use Rattle.reel.specs.Causes.{trace_causes_by}
use Rattle.reel.specs.Layout.{first_trace}
use Rattle.numbers.proofs.CauseLaws.{NoneBefore}
use Rattle.reel.proofs.own_numbers.Numbers.check_traces.Given as goal

abbrev pub invariant-loop-t : goal.invariant-loop-t
invariant-loop-t l =
    let o = l.self in
    NoneBefore (trace_causes_by o.layout l.reel o.code o.samples o.interval) o.stride o.traces first_trace l.t
