-- `look_up::look_up` meets its contract. Assumes nothing.
use Rattle.std.proofs.Common.{◌≡◌, rules, refl, sym, ◌∙◌, pos, lt-ltb, le-ltb}
use mir.Facts.{to_z-of_z}
use mir.Syntax.{w32}
use borrow.Author.Rules.{sfits_of}
use Rattle.numbers.specs.Cause.{Fine, Refused, cause_no}
use Rattle.numbers.specs.Terms.{at_place}
use Rattle.reel.proofs.JudgedLaws.{refused_is}
use Rattle.reel.specs.Layout.{traces_of}
use Rattle.reel.specs.declared.Layout.TheVariants.{Plain}
use Rattle.header_fields.specs.HeaderField.{field_of}
use Rattle.look_up.specs.LookUp.{found, none, field_at, number_said, looked_up}
use Rattle.look_up.specs.Parts.{Own}
use Rattle.look_up.proofs.CallLaws.{stopped_is, outcome_is, own_numbers}
use Rattle.look_up.proofs.look_up.Goals.{In_ok-own}
use Rattle.look_up.proofs.look_up.Goals as goal

-- the reel's own numbers
owns : (c : In_ok-own) → let o = c.in_ok-own.own in Own c.args.reel.now o.samples o.interval o.stride × (o.traces ≡ traces_of c.args.reel.now)
owns c = own_numbers c.args.reel.now (sym c.in_ok-own.ensures.is)

pub returns-in_err-own : goal.returns-in_err-own
returns-in_err-own c =
    let a = c.args in
    let r = c.in_err-own.field-0.0 in
    let q : looked_up c.from_residual.result ≡ number_said (Refused (cause_no r.cause) r.place) (pos 0) = search rules in
    q ∙ stopped_is a.reel.now a.trace a.b (refused_is Plain a.reel.now (sym c.in_err-own.ensures.is))

pub returns-then-own-trace : goal.returns-then-own-trace
returns-then-own-trace c =
    let a = c.args in
    let o = owns (goal.at.returns-then-own-trace c).In_ok-own in
    outcome_is a.reel.now _ a.trace a.b (Refused 15 (at_place 0)) (field_at a.trace a.b) o.0.fine o.1 refl (rw (lt-ltb c.in_ok-own.own.traces a.trace c.if-own-trace.true))

pub returns-in_default : goal.returns-in_default
returns-in_default c =
    let a = c.args in
    let o = owns (goal.at.returns-in_default c).In_ok-own in
    outcome_is a.reel.now _ a.trace a.b (Refused 16 (at_place 0)) none o.0.fine o.1 c.in_default.ensures (rw (le-ltb c.in_ok-own.own.traces a.trace c.if-own-trace.false))

pub returns : goal.returns
returns c =
    let a = c.args in
    let o = owns (goal.at.returns c).In_ok-own in
    rw (to_z-of_z {w = w32} (sfits_of c.header_number.type_inv), c.header_number.ensures)
    (outcome_is a.reel.now _ a.trace a.b Fine (found (field_of c.in-Some.field)) o.0.fine o.1 c.in-Some.ensures (rw (le-ltb c.in_ok-own.own.traces a.trace c.if-own-trace.false)))
