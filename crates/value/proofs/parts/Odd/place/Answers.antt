-- `value::parts::Odd::place` meets its contract. Assumes nothing.
use Rattle.formats.proofs.FitLaws.{placed_high}
use Rattle.formats.specs.Steps.{Length}
use Rattle.formats.specs.declared.Format.{Format}
use Rattle.numbers.specs.Walk.{pick}
use Rattle.value.specs.Parts.{format}
use Rattle.std.proofs.Common.{sym, subst, ◌≤◌, Bool}
use Rattle.value.proofs.parts.Odd.place.Goals as goal

pub returns-then-format-c : goal.returns-then-format-c
returns-then-format-c c =
    let v = c.args.self in
    let high = subst (λ (x : Format). x.characteristics ≤ c.lowest-c.result) c.format.ensures c.if-format-c.true in
    let length = subst (λ (b : Bool). Length (pick b 1 0) v.odd c.length.result) c.one_more.ensures c.length.ensures.0 in
    sym (placed_high (format c.args.code) v.negative v.odd v.power v.is_odd c.length.result length c.lowest-c.result c.lowest-c.ensures high)
