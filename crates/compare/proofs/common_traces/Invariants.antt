use Rattle.compare.specs.Parts.{Shared}
use Rattle.reel.specs.Causes.{most_traces}
use Prim.Native.Nat.{◌-◌}
use Rattle.compare.proofs.common_traces.Given as goal

abbrev pub invariant-loop-shared : goal.invariant-loop-shared
invariant-loop-shared l = Shared l.a l.b l.n l.i l.shared.traces l.shared.place

abbrev pub decreases-loop-shared : goal.decreases-loop-shared
decreases-loop-shared l = most_traces - l.shared.traces
