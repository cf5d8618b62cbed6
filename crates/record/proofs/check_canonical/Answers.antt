-- `record::check_canonical` meets its contract. Assumes nothing.
use Rattle.std.proofs.Common.{◌≡◌, ◌+◌, ◌*◌, not, sym, ap, ◌∙◌}
use Rattle.numbers.proofs.CauseLaws.{none_more, none_stop}
use Rattle.numbers.specs.Cause.{refuse_if}
use Rattle.numbers.specs.Walk.{bytes_at}
use Rattle.record.specs.Kind.{tag04}
use Rattle.record.specs.Form.{pair_cause_in}
use Rattle.value.specs.Pair.{is_canonical, pair_in}
use Rattle.record.proofs.check_canonical.Goals.{After-is_canonical}
use Rattle.record.proofs.check_canonical.Goals as goal

canonical : (c : After-is_canonical) → c.is_canonical.result ≡ is_canonical (pair_in (bytes_at c.args.«record».now (c.args.start + c.loop-i.i * 6) 6))
canonical c = c.is_canonical.ensures ∙ ap is_canonical c.pair_at.ensures

pub returns-then-not-is_canonical : goal.returns-then-not-is_canonical
returns-then-not-is_canonical c =
    let a = c.args in
    let s = a.«record».now in
    let k = ap (λ b. refuse_if (not b) 13 (a.start + c.loop-i.i * 6)) (sym (canonical (goal.at.returns-then-not-is_canonical c).After-is_canonical) ∙ c.if-not-is_canonical.true) in
    none_stop (pair_cause_in tag04 s) 6 a.n a.start c.loop-i.i c.loop-i-test.true c.loop-i.invariant k

pub loop-i-preserved : goal.loop-i-preserved
loop-i-preserved c =
    let a = c.args in
    let s = a.«record».now in
    let k = ap (λ b. refuse_if (not b) 13 (a.start + c.loop-i.i * 6)) (sym (canonical (goal.at.loop-i-preserved c).After-is_canonical) ∙ c.if-not-is_canonical.false) in
    none_more (pair_cause_in tag04 s) 6 a.n a.start c.loop-i.i c.loop-i-test.true c.loop-i.invariant k
