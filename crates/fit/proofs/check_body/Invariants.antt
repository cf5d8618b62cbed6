use Rattle.record.specs.Form.{traces_place}
use Rattle.fit.specs.Parts.{fit_from}
use Rattle.record.specs.Parts.{form_from}
use Rattle.reel.specs.Causes.{most_traces}
use Rattle.numbers.specs.Cause.{then}
use Prim.Native.Nat.{◌-◌}
use mathlib.Core.Path.{◌≡◌}
use Rattle.fit.proofs.check_body.Given as goal

abbrev pub invariant-traces : goal.invariant-traces
invariant-traces l =
    then (form_from l.«record» l.n l.i most_traces 0 traces_place) (fit_from l.«record» l.code l.n most_traces traces_place) ≡ then (form_from l.«record» l.n l.i (most_traces - l.t) l.t l.at) (fit_from l.«record» l.code l.n (most_traces - l.t) l.at)

abbrev pub decreases-traces : goal.decreases-traces
decreases-traces l = most_traces - l.t
