use Rattle.record.specs.Parts.{form_from}
use Rattle.reel.specs.Causes.{most_traces}
use Prim.Native.Nat.{◌-◌}
use mathlib.Core.Path.{◌≡◌}
use Rattle.record.proofs.check_rest.Given as goal

abbrev pub invariant-traces : goal.invariant-traces
invariant-traces l =
    form_from l.«record» l.n l.i (most_traces - l.done) l.done l.initial.at ≡ form_from l.«record» l.n l.i (most_traces - l.t) l.t l.at

abbrev pub decreases-traces : goal.decreases-traces
decreases-traces l = most_traces - l.t
