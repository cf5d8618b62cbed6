-- `value::Pair::word` meets its contract. Assumes nothing.
use Rattle.formats.proofs.CodeLaws.{code_no_is}
use Rattle.formats.specs.Codes.{code_no}
use Rattle.value.specs.Parts.{PartsOf}
use Rattle.value.proofs.PartsLaws.{zero_pair}
use Rattle.value.specs.declared.parts.Odd.{Odd}
use Rattle.std.specs.Prelude.{Option}
use Rattle.std.proofs.Common.{Ok, None, sym, subst}
use Rattle.value.proofs.Pair.word.Goals as goal

pub returns-in-None : goal.returns-in-None
returns-in-None c =
    let zero : PartsOf c.args.self (Ok None) = subst (λ (r : Option Odd). PartsOf c.args.self (Ok r)) c.in-None.is (c.in_ok-parts.ensures) in
    sym (zero_pair (code_no c.args.code) c.args.self (code_no_is c.args.code) zero)
