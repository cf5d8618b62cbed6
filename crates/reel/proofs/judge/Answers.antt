-- `reel::judge` meets its contract. Assumes nothing.
use Rattle.std.proofs.Common.{◌≡◌, rules, sym, ap, ◌∙◌, refl}
use Rattle.reel.specs.Causes.{causes_by, behind_causes_by, found_by}
use Rattle.reel.specs.Judged.{judged, Refused}
use Rattle.reel.proofs.JudgedLaws.{causes_long}
use Rattle.numbers.proofs.CauseLaws.{then_stop, then_next}
use Rattle.numbers.specs.Cause.{cause_no}
use Rattle.reel.proofs.judge.Goals as goal

pub returns-then-size-lt3600 : goal.returns-then-size-lt3600
unfolding causes_by behind_causes_by
returns-then-size-lt3600 c = search rules

pub returns-in_err-check_header : goal.returns-in_err-check_header
returns-in_err-check_header c =
    let k = c.args.layout in
    let s = c.args.reel.now in
    let e = c.in_err-check_header.field-0.0 in
    let q : judged c.from_residual.result ≡ Refused (cause_no e.cause) e.place = search rules in
    let b = rw (c.binary_number-code.ensures.is, c.binary_number-samples.ensures.is, c.binary_number-interval.ensures.is) at c.in_err-check_header.ensures in
    record { is = q ∙ ap (found_by k s) (b ∙ then_stop _ _ (sym b) ∙ sym (causes_long k s c.if-size-lt3600.false)); layout = search rules }

pub returns-in_err-check_size : goal.returns-in_err-check_size
returns-in_err-check_size c =
    let k = c.args.layout in
    let s = c.args.reel.now in
    let e = c.in_err-check_size.field-0.0 in
    let q : judged c.from_residual-in_err-check_size.result ≡ Refused (cause_no e.cause) e.place = search rules in
    let h = rw (c.binary_number-code.ensures.is, c.binary_number-samples.ensures.is, c.binary_number-interval.ensures.is) at c.in_ok-check_header.ensures in
    let b = rw (c.stride_in-stride.ensures, c.width_of-width.ensures.0, c.binary_number-code.ensures.is, c.binary_number-samples.ensures.is) at c.in_err-check_size.ensures in
    record { is = q ∙ ap (found_by k s) (b ∙ then_stop _ _ (sym b) ∙ then_next _ _ (sym h) ∙ sym (causes_long k s c.if-size-lt3600.false)); layout = search rules }

pub returns-in_err-check_traces : goal.returns-in_err-check_traces
returns-in_err-check_traces c =
    let k = c.args.layout in
    let s = c.args.reel.now in
    let e = c.in_err-check_traces.field-0.0 in
    let q : judged c.from_residual-in_err-check_traces.result ≡ Refused (cause_no e.cause) e.place = search rules in
    let h = rw (c.binary_number-code.ensures.is, c.binary_number-samples.ensures.is, c.binary_number-interval.ensures.is) at c.in_ok-check_header.ensures in
    let z = rw (c.stride_in-stride.ensures, c.width_of-width.ensures.0, c.binary_number-code.ensures.is, c.binary_number-samples.ensures.is) at c.in_ok-check_size.ensures in
    let b = rw (c.stride_in-stride.ensures, c.width_of-width.ensures.0, c.binary_number-code.ensures.is, c.binary_number-samples.ensures.is, c.binary_number-interval.ensures.is) at c.in_err-check_traces.ensures in
    record { is = q ∙ ap (found_by k s) (b ∙ then_next _ _ (sym z) ∙ then_next _ _ (sym h) ∙ sym (causes_long k s c.if-size-lt3600.false)); layout = search rules }

pub returns : goal.returns
returns c =
    let k = c.args.layout in
    let s = c.args.reel.now in
    let h = rw (c.binary_number-code.ensures.is, c.binary_number-samples.ensures.is, c.binary_number-interval.ensures.is) at c.in_ok-check_header.ensures in
    let z = rw (c.stride_in-stride.ensures, c.width_of-width.ensures.0, c.binary_number-code.ensures.is, c.binary_number-samples.ensures.is) at c.in_ok-check_size.ensures in
    let b = rw (c.stride_in-stride.ensures, c.width_of-width.ensures.0, c.binary_number-code.ensures.is, c.binary_number-samples.ensures.is, c.binary_number-interval.ensures.is) at c.in_ok-check_traces.ensures in
    record {
      is =
          rw (c.stride_in-stride.ensures, c.width_of-width.ensures.0, c.binary_number-code.ensures.is, c.binary_number-samples.ensures.is, c.binary_number-interval.ensures.is)
          (ap (found_by k s) (b ∙ then_next _ _ (sym z) ∙ then_next _ _ (sym h) ∙ sym (causes_long k s c.if-size-lt3600.false)));
      layout = refl;
    }
