-- `slices::make_up` meets its contract. Assumes nothing.
use borrow.Author.Tests.{leb-true, leb-false, ne_eqb}
use Prim.Native.Nat.{◌+◌, ◌*◌, ◌≤◌, ◌<◌}
use mathlib.Core.Path.{◌≡◌, sym, ◌∙◌}
use native.Mathlib.Omega.{arith}
use Rattle.slices.proofs.make_up.Goals as goal

pub returns-then-not-are_within : goal.returns-then-not-are_within
returns-then-not-are_within c =
    let a = c.args in
    let l : a.bytes < 0 + a.n * a.w = leb-false (0 + a.n * a.w) a.bytes (sym c.are_within.ensures ∙ c.if-not-are_within.true) in
    let n : a.bytes ≡ a.n * a.w → ⊥ = λ e. omega (arith, l, e) in
    sym (ne_eqb a.bytes (a.n * a.w) n)

pub overflow_mul-result : goal.overflow_mul-result
overflow_mul-result c =
    let s = c in
    let l : 0 + s.args.n * s.args.w ≤ s.args.bytes = leb-true (0 + s.args.n * s.args.w) s.args.bytes (sym c.are_within.ensures ∙ c.if-not-are_within.false) in
    omega (arith, l, s.ranges.bytes.fits)
