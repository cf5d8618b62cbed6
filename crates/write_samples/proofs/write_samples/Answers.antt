-- `write_samples::write_samples` meets its contract. Assumes nothing.
use Rattle.std.proofs.Common.{◌*◌, length, eqb, sym, refl, ap, ◌∙◌}
use Rattle.formats.specs.Codes.{code_no}
use Rattle.formats.proofs.CodeLaws.{code_no_is}
use Rattle.write_samples.proofs.WordLaws.{no_code, not_there, as_long, room, written_then, kept, put}
use Rattle.write_samples.proofs.write_samples.Goals as goal

pub returns-in_default : goal.returns-in_default
returns-in_default c =
    let a = c.args in
    kept a.record.now a.code a.n a.start.0 a.out.now (no_code a.record.now a.code a.code a.n a.start.0 refl a.out.now c.in_default.ensures)

pub returns-in_default-pairs_at : goal.returns-in_default-pairs_at
returns-in_default-pairs_at c =
    let a = c.args in
    let k = c.in-Some.code in
    kept a.record.now a.code a.n a.start.0 a.out.now
    (not_there a.record.now (code_no k) a.code a.n a.start.0 c.in-Some.ensures a.out.now (code_no_is k) c.in_default-pairs_at.ensures)

pub put_samples-requires : goal.put_samples-requires
put_samples-requires c =
    let a = c.args in
    room a.record.now a.n a.start.0 c.in-Some-pairs_at.ensures.1 c.width.ensures.0 (sym c.make_up.ensures ∙ c.if-make_up.true)

pub returns-then-make_up : goal.returns-then-make_up
returns-then-make_up c =
    let a = c.args in
    let k = c.in-Some.code in
    let s = a.record.now in
    let there = c.in-Some-pairs_at.ensures in
    let size = ap (λ w. eqb (length a.out.now) (a.n * w)) (sym c.width.ensures.0) ∙ sym c.make_up.ensures ∙ c.if-make_up.true in
    put s a.code a.n a.start.0 a.out.now (as_long s (code_no k) a.code a.n a.start.0 c.in-Some.ensures a.out.now (code_no_is k) there.0 size)
    (written_then s (code_no k) a.code a.n a.start.0 c.in-Some.ensures a.out.now there.1 c.put_samples.ensures)

pub returns-else-make_up : goal.returns-else-make_up
returns-else-make_up c =
    let a = c.args in
    let k = c.in-Some.code in
    let s = a.record.now in
    let size = ap (λ w. eqb (length a.out.now) (a.n * w)) (sym c.width.ensures.0) ∙ sym c.make_up.ensures ∙ c.if-make_up.false in
    kept s a.code a.n a.start.0 a.out.now (as_long s (code_no k) a.code a.n a.start.0 c.in-Some.ensures a.out.now (code_no_is k) c.in-Some-pairs_at.ensures.0 size)
