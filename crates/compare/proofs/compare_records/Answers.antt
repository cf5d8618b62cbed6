-- `compare::compare_records` meets its contract. Assumes nothing.
use Rattle.compare.proofs.BytesLaws.{part_bytes, more_alike, none_alike}
use mathlib.Core.Path.{refl, sym, ◌∙◌}
use Rattle.compare.proofs.compare_records.Goals as goal

pub compare_alike-requires : goal.compare_alike-requires
compare_alike-requires c =
    let x = c.args.a.now in
    let y = c.args.b.now in
    let h = c.if-a-ge3266.true in
    let k = c.if-b-ge3266.true in
    let same = sym c.eq.ensures ∙ c.if-eq.true in
    (h, k, more_alike x y 0 3266 (none_alike x y) (part_bytes x y 0 3266 0 3266 3266 h k refl refl same))
