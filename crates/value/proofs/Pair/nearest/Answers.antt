-- `value::Pair::nearest` meets its contract. Assumes nothing.
use Rattle.formats.proofs.CodeLaws.{code_no_is}
use Rattle.formats.specs.Codes.{code_no}
use Rattle.value.specs.Parts.{PartsOf}
use Rattle.value.proofs.PartsLaws.{near_zero}
use Rattle.value.specs.declared.parts.Odd.{Odd}
use Rattle.std.specs.Prelude.{Option}
use Rattle.std.proofs.Common.{Ok, None, sym, subst}
use Rattle.value.proofs.Pair.nearest.Goals as goal

pub returns-in-Ok-None : goal.returns-in-Ok-None
returns-in-Ok-None c =
    let p = c.args.self in
    let zero : PartsOf p (Ok None) = subst (λ (r : Option Odd). PartsOf p (Ok r)) c.in-Ok-None.field-0-is (subst (PartsOf p) c.in-Ok-None.is c.parts.ensures) in
    sym (near_zero (code_no c.args.code) p (code_no_is c.args.code) zero)
