-- `slices::put` meets its contract. Assumes nothing.
use Rattle.std.proofs.Common.{◌≡◌, length, arith, ◌∙◌}
use Rattle.numbers.proofs.ByteLaws.{length_bytes}
use Rattle.numbers.proofs.WalkLaws.{left_alone}
use Rattle.slices.proofs.put.Goals as goal

pub returns-else-out-SIZE : goal.returns-else-out-SIZE
returns-else-out-SIZE g c =
    left_alone _ _ (λ e.
    let k : length c.args.out.now ≡ g.N.Number.SIZE = e ∙ length_bytes g.N.Number.SIZE (g.N.Number.value c.args.n) in
    grind arith)
