-- `write_reel::Exact` puts samples as `Way` says. Assumes nothing.
use Rattle.formats.specs.Codes.{code_no}
use Rattle.formats.proofs.CodeLaws.{code_no_is}
use Rattle.write_samples.specs.Samples.{samples_written}
use Rattle.write_samples.proofs.CallLaws.{samples_written_lem}
use Rattle.write_reel.specs.Copied.{samples_copied, samples_changed_at}
use Prim.Native.Nat.{ℕ}
use mathlib.Core.Path.{refl, ap, ◌∙◌}
use Rattle.write_reel.proofs.ExactWay.put_samples.Goals as goal

pub returns : goal.returns
unfolding samples_copied samples_changed_at
returns c =
    let a = c.args in
    let s = a.«record».now in
    let code = code_no a.code in
    (refl, c.write_samples.ensures ∙ ap (λ (x : ℕ). samples_written s x a.n a.start a.out.now) c.number.ensures ∙ samples_written_lem s code a.n a.start a.out.now (code_no_is a.code) c.requires.0 c.requires.1)
