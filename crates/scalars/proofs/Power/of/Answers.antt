use Rattle.std.proofs.Common.{rules, ◌≡◌, ℤ, nat_eq, of_z}
use Rattle.std.specs.List.{position}
use borrow.Author.Tests.{tests}
use mir.Syntax.{w16}
use Rattle.std.proofs.lemmas.Iterator.{YieldsList-from_slice}
use Rattle.std.proofs.lemmas.Iterator.Search.{position_from_yields_List}
use Rattle.scalars.specs.declared.TheConstants.{SCALARS}
use Rattle.scalars.proofs.Found.{power_found}
use Rattle.scalars.proofs.Power.of.Goals as goal

pub returns : goal.returns
returns c =
    let same = λ (s : ℤ). nat_eq (of_z w16 s) (of_z w16 c.args.scalar) in
    let found : c.position-found.result ≡ position same SCALARS = position_from_yields_List same _ _ c.position-found.result c.position-found.ensures.ran (YieldsList-from_slice SCALARS cc) (λ x b q k. search (rules, tests)) in
    rw (c.unwrap_or.ensures, found) (power_found c.args.scalar c.ranges.scalar)
