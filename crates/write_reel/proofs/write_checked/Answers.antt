-- `write_reel::write_checked` meets its contract. Assumes nothing.
use Rattle.std.proofs.Common.{◌≡◌, sym, ap, ◌∙◌, Result, Err, rules, arith}
use Rattle.fit.specs.Target.{target_causes}
use Rattle.record.specs.Answer.{outcome, counted_outcome}
use Rattle.record.specs.declared.Counted.{Counted}
use Rattle.numbers.specs.declared.Refusal.{Refusal}
use Rattle.record.proofs.JudgedLaws.{Own, own}
use Rattle.write_reel.specs.Writing.{write_outcome}
use Rattle.write_reel.proofs.WriteLaws.{own_judged, without_count, own_form, exact_end}
use Rattle.numbers.proofs.ByteLaws.{all_bytes}
use Rattle.write_reel.proofs.write_checked.Goals.{After-put_checked, Start}
use Rattle.write_reel.proofs.write_checked.Goals as goal

owns : (c : Start) → let a = c.args in Own a.«record».now (target_causes a.«record».now a.code) a.own.samples a.own.traces
owns c = let a = c.args in own a.«record».now (target_causes a.«record».now a.code) c.requires

pub put_checked-requires : goal.put_checked-requires
put_checked-requires c =
    let s = (goal.at.put_checked-requires c).Start in
    let a = s.args in
    let f = own_form a.«record».now a.code a.reel.now a.own.samples a.own.traces (owns s) in
    (f.0, own_judged a.«record».now a.own.samples a.own.traces f.1)

-- the answer without its count, by what was told of it
ends : (c : After-put_checked) (r : Result Counted Refusal) → c.put_checked.result ≡ r
    → let a = c.args in without_count (counted_outcome r c.put_checked.new.reel) ≡ write_outcome a.«record».now a.code a.reel.now
ends c r told =
    let b = (goal.at.After-put_checked c).Start in
    let a = b.args in
    let s = a.«record».now in
    ap (λ (x : Result Counted Refusal). without_count (counted_outcome x c.put_checked.new.reel)) (sym told) ∙ ap without_count c.put_checked.ensures
    ∙ exact_end s a.code a.reel.now a.own.samples a.own.traces (all_bytes s (λ i. omega (arith, c.shared_slice_known-1.given i))) (owns b)

pub returns : goal.returns
returns c = ends (goal.at.returns c).After-put_checked _ c.in_ok-c.was

pub returns-in_err-c : goal.returns-in_err-c
returns-in_err-c c =
    let r = c.in_err-c.field-0.0 in
    let q : outcome c.from_residual.result c.put_checked.new.reel ≡ without_count (counted_outcome (Err r) c.put_checked.new.reel) = search rules in
    q ∙ ends (goal.at.returns-in_err-c c).After-put_checked (Err r) c.in_err-c.was
