-- `write_reel::put_header` meets its contract. Assumes nothing.
use Rattle.write_reel.proofs.CopiedLaws.{zeroed, size_header}
use Rattle.write_reel.specs.Copied.{reel_header_copied}
use Rattle.numbers.proofs.Filling.{start, lend, close}
use Rattle.numbers.proofs.WalkLaws.{copied}
use lib.ListN.{length, replicate, length-replicate}
use Prim.Native.Nat.{ℕ, ◌-◌}
use mathlib.Core.List.{List}
use mathlib.Core.Path.{sym, ◌∙◌}
use native.Mathlib.Omega.{arith}
use Rattle.write_reel.proofs.put_header.Goals as goal

pub returns : goal.returns
unfolding reel_header_copied
returns c =
    let copy = c in
    let b = c in
    let l = b.args.assigned.now in
    let out = b.args.out.now in
    let k = length l in
    let e = length out in
    let zeros : List ℕ = replicate (e - k) 0 in
    let w = lend l zeros k (start _ out (sym (size_header e l b.requires))) (omega arith) (omega arith) (copied _ _ copy.copy.ensures (copy.copy-arg-1.given.2 ∙ omega arith)) in
    close zeros e w b.requires (length-replicate {A = ℕ} (e - k) 0) (zeroed _ (e - k) c.put_zeros.ensures c.put_zeros-arg-1.given.2)
