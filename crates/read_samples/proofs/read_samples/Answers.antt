-- `read_samples::read_samples` meets its contract. Assumes nothing.
use Rattle.std.proofs.Common.{◌+◌, ◌*◌, length, leb, sym, refl, ap, ◌∙◌}
use borrow.Author.Tests.{leb-true, eqb-true}
use Rattle.formats.specs.Codes.{code_no}
use Rattle.formats.proofs.CodeLaws.{code_no_is}
use Rattle.read_samples.proofs.SampleLaws.{no_code, not_there, other_length, fit_read}
use Rattle.read_samples.proofs.read_samples.Goals as goal

pub returns-in_default : goal.returns-in_default
returns-in_default c = let a = c.args in no_code a.reel.now a.code a.code a.n a.start.0 refl a.out.now c.in_default.ensures

pub returns-then-not-are_within : goal.returns-then-not-are_within
returns-then-not-are_within c =
    let a = c.args in
    let k = c.in-Some.code in
    let e = ap (λ w. leb (a.start.0 + a.n * w) (length a.reel.now)) (sym c.width.ensures.0) ∙ sym c.are_within.ensures ∙ c.if-not-are_within.true in
    not_there a.reel.now (code_no k) a.code a.n a.start.0 c.in-Some.ensures a.out.now (code_no_is k) e

pub put_words-requires : goal.put_words-requires
put_words-requires c =
    let a = c.args in
    let e = ap (λ w. leb (a.start.0 + a.n * w) (length a.reel.now)) (sym c.width.ensures.0) ∙ sym c.are_within.ensures ∙ c.if-not-are_within.false in
    record {
      there = leb-true _ _ e;
      room = eqb-true (length a.out.now) (a.n * 6) (sym c.make_up.ensures ∙ c.if-make_up.true);
    }

pub returns-then-make_up : goal.returns-then-make_up
returns-then-make_up c =
    let a = c.args in
    let k = c.in-Some.code in
    let e = ap (λ w. leb (a.start.0 + a.n * w) (length a.reel.now)) (sym c.width.ensures.0) ∙ sym c.are_within.ensures ∙ c.if-not-are_within.false in
    fit_read a.reel.now (code_no k) a.code a.n a.start.0 c.in-Some.ensures a.out.now (code_no_is k) e (sym c.make_up.ensures ∙ c.if-make_up.true) c.put_words.ensures

pub returns-else-make_up : goal.returns-else-make_up
returns-else-make_up c =
    let a = c.args in
    let k = c.in-Some.code in
    let e = ap (λ w. leb (a.start.0 + a.n * w) (length a.reel.now)) (sym c.width.ensures.0) ∙ sym c.are_within.ensures ∙ c.if-not-are_within.false in
    other_length a.reel.now (code_no k) a.code a.n a.start.0 c.in-Some.ensures a.out.now (code_no_is k) e (sym c.make_up.ensures ∙ c.if-make_up.false)
