-- `compare::compare_run` meets its contract. Assumes nothing.
use Rattle.compare.proofs.BytesLaws.{part_bytes}
use Rattle.compare.proofs.RunLaws.{run_same}
use Prim.Native.Nat.{◌+◌, ◌*◌}
use mathlib.Core.Path.{refl, sym, ◌∙◌}
use Rattle.compare.proofs.compare_run.Goals as goal

pub returns-then-eq : goal.returns-then-eq
returns-then-eq c =
    let a = c.args in
    let p = a.a.place in
    let q = a.b.place in
    run_same a.a.record.now a.b.record.now p q a.n
    (part_bytes a.a.record.now a.b.record.now p (p + a.n * 6) q (q + a.n * 6) (a.n * 6) c.requires.0 c.requires.1 refl refl (sym c.eq.ensures ∙ c.if-eq.true))
