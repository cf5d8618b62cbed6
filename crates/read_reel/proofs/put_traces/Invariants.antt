use Rattle.std.proofs.Common.{◌≡◌, ◌+◌, ◌-◌, ◌*◌, map}
use Rattle.numbers.specs.Walk.{flat}
use Rattle.numbers.proofs.Filling.{Filling}
use Rattle.read_samples.specs.Samples.{places}
use Rattle.read_reel.specs.Copied.{record_trace_copied}
use Rattle.reel.specs.Layout.{first_trace}
use Rattle.reel.specs.NotNormal.{not_normal_among}
use Rattle.read_reel.proofs.put_traces.Given as goal

abbrev pub invariant-loop-t : goal.invariant-loop-t
invariant-loop-t l =
    let o = l.own in
    let at = first_trace + l.t * o.stride in
    let left = o.traces - l.t in
    let trace = record_trace_copied l.reel o.code o.samples o.interval in
    record {
      filling : Filling (flat (map trace (places o.stride o.traces first_trace))) l.out (l.t * l.m) (flat (map trace (places o.stride left at)));
      counted : l.count + not_normal_among l.reel o.code o.samples o.stride left at ≡ not_normal_among l.reel o.code o.samples o.stride o.traces first_trace;
    }
