-- `reel_box::State::step_over` meets its contract. Assumes nothing.
use Rattle.std.proofs.Common.{◌≡◌, ℕ, ◌+◌, ◌*◌, ◌^◌, ◌<◌, length, rules, sym, ap, ap₂, ◌∙◌, arith}
use Rattle.reel_box.proofs.PlaceBounds.{place_within}
use Rattle.reel_box.proofs.StepLaws.{part_is, part_length, lies, step_refused, step_fine}
use Rattle.reel_box.specs.Box.{reel_at, head_rules, run_rules}
use Rattle.reel_box.specs.Answer.{step_on}
use Rattle.reel_box.specs.Answer as step
use Rattle.reel.specs.Causes.{causes_of, reel_judged}
use Rattle.reel.specs.declared.Layout.TheVariants.{Plain}
use Rattle.reel.proofs.JudgedLaws.{Own, own, refused_is}
use Rattle.numbers.specs.Cause.{Refused, cause_no, then}
use Rattle.numbers.specs.Terms.{at_place}
use Rattle.reel_box.proofs.State.step_over.Goals.{In-Ok, In-Err}
use Rattle.reel_box.proofs.State.step_over.Goals as goal

refused : (c : In-Err)
    → let a = c.args in let r = c.in-Err.refusal in
    causes_of (reel_at a.s.now a.at a.l) ≡ Refused (cause_no r.cause) r.place
refused c = let a = c.args in refused_is Plain _ (sym (c.in-Err.ensures.is ∙ ap reel_judged (part_is a.s.now a.at a.l)))

pub in_slice-requires : goal.in_slice-requires
in_slice-requires c =
    let a = c.args in
    let all : length a.s.now < 2 ^ 64 = search rules in
    omega (arith, place_within (reel_at a.s.now a.at a.l) (refused (goal.at.in_slice-requires c).In-Err), part_length a.s.now a.at a.l c.requires, c.requires, all)

pub returns-in-Err : goal.returns-in-Err
returns-in-Err c =
    let a = c.args in
    ap₂ step.Refused c.in_slice.ensures.is (ap at_place c.in_slice.ensures.place) ∙ step_refused a.s.now a.at a.l a.self (refused (goal.at.returns-in-Err c).In-Err)

-- a reel with no cause of its own, by its numbers
owns : (c : In-Ok)
    → let a = c.args in let o = c.in-Ok.own in
    Own Plain (reel_at a.s.now a.at a.l) o.code o.samples o.interval o.width o.stride o.traces
owns c = let a = c.args in own Plain _ (sym (c.in-Ok.ensures.is ∙ ap reel_judged (part_is a.s.now a.at a.l)))

pub step_on-requires : goal.step_on-requires
step_on-requires c =
    let a = c.args in
    let o = owns (goal.at.step_on-requires c).In-Ok in
    omega (arith, (lies a.s.now a.at a.l c.requires o.fine).room, ap₂ (λ (w t : ℕ). t * w) o.w_is o.t_is)

pub returns-in-Ok : goal.returns-in-Ok
returns-in-Ok c =
    let a = c.args in
    let s = a.s.now in
    let o = owns (goal.at.returns-in-Ok c).In-Ok in
    c.step_on.ensures
    ∙ ap₂ (λ (w t : ℕ). step_on s a.at w t a.self (then (head_rules s a.at a.self) (run_rules s w t (a.at + 3600) 1 a.self.trace))) (sym o.w_is) (sym o.t_is)
    ∙ step_fine s a.at a.l a.self o.fine
