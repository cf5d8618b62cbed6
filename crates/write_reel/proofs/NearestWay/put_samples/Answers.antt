-- `write_reel::Nearest` puts samples as `Way` says. Assumes nothing.
use Rattle.formats.specs.Codes.{code_no}
use Rattle.formats.proofs.CodeLaws.{code_no_is}
use Rattle.write_samples.specs.Nearest.{nearest_samples_counted, nearest_samples_written}
use Rattle.write_samples.proofs.CallLaws.{as_nearest}
use Rattle.write_reel.specs.Copied.{samples_copied, samples_changed_at}
use Prim.Native.Nat.{ℕ}
use mathlib.Core.Path.{ap, ◌∙◌}
use Rattle.write_reel.proofs.NearestWay.put_samples.Goals as goal

pub returns : goal.returns
unfolding samples_copied samples_changed_at
returns c =
    let a = c.args in
    let s = a.«record».now in
    let code = code_no a.code in
    let w = c.write_nearest.ensures in
    let n = as_nearest s code a.n a.start a.out.now (code_no_is a.code) c.requires.0 c.requires.1 in (
      w.0 ∙ ap (λ (x : ℕ). nearest_samples_counted s x a.n a.start a.out.now) c.number.ensures ∙ n.0,
      w.1 ∙ ap (λ (x : ℕ). nearest_samples_written s x a.n a.start a.out.now) c.number.ensures ∙ n.1,
    )
