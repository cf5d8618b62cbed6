-- `reel::Numbers::check_trace` meets its contract. Assumes nothing.
use Rattle.std.proofs.Common.{rules, ◌≡◌, ◌+◌, sym, ap, ◌∙◌, arith, ℕ}
use Rattle.reel.proofs.CheckLaws.{trace_parts, none_bad, four_bytes_long}
use Rattle.numbers.proofs.CauseLaws.{then_next}
use Rattle.reel.proofs.own_numbers.Numbers.check_trace.Goals.{In_ok-check_head}
use Rattle.reel.specs.Causes.{word_cause, trace_causes}
use Rattle.reel.specs.Parts.{trace_header_causes}
use Rattle.formats.specs.Codes.{sample_bytes}
use Rattle.numbers.specs.Cause.{checked, then, first_of, Fine}
use Rattle.numbers.specs.Walk.{walk}
use Rattle.reel.proofs.own_numbers.Numbers.check_trace.Goals as goal

pub returns-in_err-check_head : goal.returns-in_err-check_head
returns-in_err-check_head c =
    let a = c.args in
    let o = a.self in
    let e : checked c.from_residual.result ≡ then (trace_header_causes a.reel.now o.samples o.interval a.at) (first_of (walk (word_cause a.reel.now o.code) (sample_bytes o.code) o.samples (a.at + 240))) = search rules in
    e ∙ sym (trace_parts a.reel.now o.code o.samples o.interval a.at)

-- the words of a code that isn't 4 or 5 have no cause
none : (c : In_ok-check_head) → let o = c.args.self in (o.code ≡ 4 → ⊥) → (o.code ≡ 5 → ⊥) → Fine ≡ trace_causes c.args.reel.now o.code o.samples o.interval c.args.at
none c h l =
    let a = c.args in
    let o = a.self in
    sym (none_bad a.reel.now o.code h l (sample_bytes o.code) o.samples (a.at + 240)) ∙ then_next _ _ (sym c.in_ok-check_head.ensures) ∙ sym (trace_parts a.reel.now o.code o.samples o.interval a.at)

pub returns-then-self-lt4 : goal.returns-then-self-lt4
returns-then-self-lt4 c = none (goal.at.returns-then-self-lt4 c).In_ok-check_head (λ e. omega (arith, c.if-self-lt4.true, e)) (λ e. omega (arith, c.if-self-lt4.true, e))

pub returns-then-self-lt6 : goal.returns-then-self-lt6
returns-then-self-lt6 c =
    let a = c.args in
    let o = a.self in
    let w = (four_bytes_long o.code c.if-self-lt4.false c.if-self-lt6.true).1 in
    c.check_words.ensures ∙ ap (λ (k : ℕ). first_of (walk (word_cause a.reel.now o.code) k o.samples (a.at + 240))) (sym w)
    ∙ then_next _ _ (sym c.in_ok-check_head.ensures) ∙ sym (trace_parts a.reel.now o.code o.samples o.interval a.at)

pub returns : goal.returns
returns c = none (goal.at.returns c).In_ok-check_head (λ e. omega (arith, c.if-self-lt6.false, e)) (λ e. omega (arith, c.if-self-lt6.false, e))
