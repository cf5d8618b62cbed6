-- `write_reel::write_nearest` meets its contract. Assumes nothing.
use Rattle.std.proofs.Common.{◌≡◌, sym, ◌∙◌, not, rules, Err, arith}
use Rattle.numbers.specs.Cause.{Check, refuse_if, then}
use Rattle.formats.specs.Codes.{is_code}
use Rattle.record.specs.Form.{form_causes}
use Rattle.record.specs.Answer.{counted_outcome}
use Rattle.record.proofs.JudgedLaws.{Own, own, refused_is}
use Rattle.write_reel.proofs.WriteLaws.{own_judged, nearest_call_refused, own_valid, nearest_call_end}
use Rattle.numbers.proofs.ByteLaws.{all_bytes}
use Rattle.write_reel.proofs.write_nearest.Goals.{In_ok-own, Start}
use Rattle.write_reel.proofs.write_nearest.Goals as goal

-- 11, 12 and 13
abbrev causes : Start → Check
causes b = then (refuse_if (not (is_code b.args.code)) 11 0) (form_causes b.args.«record».now)

owns : (c : In_ok-own) → let b = (goal.at.In_ok-own c).Start in let o = c.in_ok-own.own in Own b.args.«record».now (causes b) o.samples o.traces
owns c =
    let b = (goal.at.In_ok-own c).Start in
    own b.args.«record».now (causes b) (sym c.in_ok-own.ensures)

pub put_checked-requires : goal.put_checked-requires
put_checked-requires c =
    let k = (goal.at.put_checked-requires c).In_ok-own in
    let a = k.args in
    let f = own_valid a.«record».now a.code a.reel.now _ _ (owns k) in
    (f.0, own_judged a.«record».now _ _ f.1)

pub returns-in_err-own : goal.returns-in_err-own
returns-in_err-own c =
    let b = (goal.at.returns-in_err-own c).Start in
    let a = b.args in
    let r = c.in_err-own.field-0.0 in
    let q : counted_outcome c.from_residual.result a.reel.now ≡ counted_outcome (Err r) a.reel.now = search rules in
    q ∙ nearest_call_refused a.«record».now a.code a.reel.now r (refused_is a.«record».now (causes b) (sym c.in_err-own.ensures))

pub returns : goal.returns
returns c =
    let k = (goal.at.returns c).In_ok-own in
    let a = c.args in
    let s = a.«record».now in
    c.put_checked.ensures ∙ nearest_call_end s a.code a.reel.now _ _ (all_bytes s (λ i. omega (arith, k.shared_slice_known-1.given i))) (owns k)
