-- `slices::copy` meets its contract. Assumes nothing.
use Rattle.std.proofs.Common.{sym, refl, ◌∙◌, drop_of_length-le}
use Rattle.numbers.proofs.Filling.{start, finish, again, put}
use Rattle.numbers.proofs.WalkLaws.{drop_next, copied, left_alone}
use Rattle.slices.proofs.copy.Goals as goal

pub loop-i-init : goal.loop-i-init
loop-i-init c = start _ _ c.if-out-src.true

pub loop-i-preserved : goal.loop-i-preserved
loop-i-preserved c = put _ (again c.loop-i.invariant (drop_next c.args.src.now c.loop-i.i c.loop-i-test.true))

pub returns-after-loop-i : goal.returns-after-loop-i
returns-after-loop-i c =
    let a = c.args in
    finish c.loop-i.invariant (drop_of_length-le a.src.now c.loop-i-test.false) ∙ sym (copied a.src.now a.out.now refl c.if-out-src.true)

pub returns-else-out-src : goal.returns-else-out-src
returns-else-out-src c = left_alone _ _ c.if-out-src.false
