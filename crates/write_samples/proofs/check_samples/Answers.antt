-- `write_samples::check_samples` meets its contract. Assumes nothing.
use Rattle.std.proofs.Common.{refl}
use Rattle.formats.specs.Codes.{code_no}
use Rattle.formats.proofs.CodeLaws.{code_no_is}
use Rattle.write_samples.proofs.WordLaws.{no_code_said, not_there_said, pairs_said}
use Rattle.write_samples.proofs.check_samples.Goals as goal

pub returns-in_default : goal.returns-in_default
returns-in_default c = let a = c.args in no_code_said a.record.now a.code a.code a.n a.start.0 refl c.in_default.ensures

pub returns-in_default-pairs_at : goal.returns-in_default-pairs_at
returns-in_default-pairs_at c =
    let a = c.args in
    let k = c.in-Some.code in
    not_there_said a.record.now (code_no k) a.code a.n a.start.0 c.in-Some.ensures (code_no_is k) c.in_default-pairs_at.ensures

pub returns : goal.returns
returns c =
    let a = c.args in
    let k = c.in-Some.code in
    let there = c.in-Some-pairs_at.ensures in
    pairs_said a.record.now (code_no k) a.code a.n a.start.0 c.in-Some.ensures (code_no_is k) there.0 there.1 c.check_by.ensures
