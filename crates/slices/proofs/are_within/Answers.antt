-- `slices::are_within` meets its contract. Assumes nothing.
use borrow.Author.Tests.{le-leb, lt-leb}
use lib.Dec.{leb}
use native.Mathlib.Nat.{le-div_iff_mul-le, mul-zero}
use native.Mathlib.Omega.{arith}
use mathlib.Core.Logic.{⊎_elim}
use mathlib.Core.Path.{◌≡◌, sym, ap, ◌∙◌}
use Prim.Native.Nat.{ℕ, ◌+◌, ◌-◌, ◌*◌, ◌/◌, ◌≤◌, ◌<◌}
use Rattle.numbers.proofs.SignLaws.{below_or}
use Rattle.slices.proofs.are_within.Goals as goal

-- a quotient in place of a product
quotient : (b n w s : ℕ) → s ≤ b → 0 < w → leb n ((b - s) / w) ≡ leb (s + n * w) b
quotient b n w s h p = ⊎_elim beyond within (below_or ((b - s) / w) n)
  where
    beyond : (b - s) / w < n → leb n ((b - s) / w) ≡ leb (s + n * w) b
    beyond l = lt-leb n ((b - s) / w) l ∙ sym (lt-leb (s + n * w) b (⊎_elim (λ (y : b < s + n * w). y) none (below_or b (s + n * w))))
      where
        none : s + n * w ≤ b → b < s + n * w
        none y =
            let k : n * w ≤ b - s = omega arith in
            let q : n ≤ (b - s) / w = (le-div_iff_mul-le p).1 k in
            absurd (let z : ⊥ = omega (arith, q, l) in z)

    within : n ≤ (b - s) / w → leb n ((b - s) / w) ≡ leb (s + n * w) b
    within l =
        let q : n * w ≤ b - s = (le-div_iff_mul-le p).0 l in
        le-leb n ((b - s) / w) l ∙ sym (le-leb (s + n * w) b (omega (arith, q)))

pub returns-then-bytes-start : goal.returns-then-bytes-start
returns-then-bytes-start c = let a = c.args in sym (lt-leb (a.start + a.n * a.w) a.bytes (omega (arith, c.if-bytes-start.true)))

pub returns-then-w-lt1 : goal.returns-then-w-lt1
returns-then-w-lt1 c =
    let a = c.args in
    let z : a.w ≡ 0 = omega (arith, c.if-w-lt1.true) in
    let n : a.n * a.w ≡ 0 = ap (λ (w : ℕ). a.n * w) z ∙ mul-zero a.n in
    sym (le-leb (a.start + a.n * a.w) a.bytes (omega (arith, c.if-bytes-start.false, n)))

pub returns : goal.returns
returns c = let a = c.args in quotient a.bytes a.n a.w a.start c.if-bytes-start.false (omega (arith, c.if-w-lt1.false))
