use Rattle.formats.specs.Codes.{code_no}
use Rattle.write_reel.specs.Copied.{traces_copied, traces_changed_at}
use Rattle.record.specs.Form.{trace_place}
use Rattle.numbers.proofs.Filling.{Filling}
use Prim.Native.Nat.{◌+◌, ◌-◌, ◌*◌, ◌≤◌}
use mathlib.Core.Path.{◌≡◌}
use Rattle.write_reel.proofs.Target.put_traces.Given as goal

abbrev pub invariant-loop-j : goal.invariant-loop-j
invariant-loop-j g l =
    let o = l.self in
    let code = code_no o.code in
    let left = o.traces - l.j in
    record {
      place : l.at ≡ trace_place l.«record» o.samples l.j;
      filling : Filling (traces_copied g.W.Way.near l.«record» code o.samples o.traces 0) l.out (l.j * o.size) (traces_copied g.W.Way.near l.«record» code o.samples left l.j);
      few : l.count ≤ l.j * o.samples;
      counted : l.count + traces_changed_at g.W.Way.near l.«record» code o.samples left l.j ≡ traces_changed_at g.W.Way.near l.«record» code o.samples o.traces 0;
    }
