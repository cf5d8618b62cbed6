-- `record::pair_at` meets its contract. Assumes nothing.
use Rattle.numbers.proofs.WalkLaws.{six_bytes}
use Rattle.value.specs.Pair.{pair_in}
use mathlib.Core.Path.{sym, ap, ◌∙◌}
use Rattle.record.proofs.pair_at.Goals as goal

pub returns : goal.returns
returns c =
    let a = c.args in
    c.of_bytes.ensures ∙ ap pair_in (sym (six_bytes a.«record».now a.at))
