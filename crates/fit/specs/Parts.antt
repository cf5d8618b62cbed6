-- Parts of the causes against writing a record, for the functions inside this crate.
use Rattle.std.specs.Prelude.{ℕ, zero, suc, List, eqb, get_or}
use Rattle.numbers.specs.Walk.{pick}
use Rattle.numbers.specs.Cause.{then}
use Rattle.numbers.specs.Cause.{Check}
use Rattle.numbers.specs.Cause.{Fine}
use Rattle.record.specs.Kind.{tag04}
use Rattle.record.specs.Form.{behind_trace_in}
use Rattle.fit.specs.Target.{trace_fit}

-- From the place `at` on, where at most `left` more traces are counted: the fit of the samples that follow.
unfoldable pub fit_from : List ℕ → ℕ → ℕ → ℕ → ℕ → Check
fit_from s code n zero at = Fine
fit_from s code n (suc left) at =
    pick (eqb (get_or s at 0) 3) (then (trace_fit s code n at) (fit_from s code n left (behind_trace_in tag04 s n at))) Fine
