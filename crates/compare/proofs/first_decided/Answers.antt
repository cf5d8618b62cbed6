-- `compare::first_decided` meets its contract. Assumes nothing.
use Rattle.std.proofs.Common.{◌≡◌, inl, inr, sym, ap, ◌∙◌, subst, arith}
use native.Mathlib.Nat.{not-suc-le-zero}
use Rattle.numbers.proofs.SignLaws.{below_or}
use Rattle.exact.specs.Order.{order_z}
use Rattle.std.specs.Ordering.{is_ne}
use Rattle.std.specs.declared.cmp.Ordering.TheVariants.{Equal}
use Rattle.compare.proofs.LexLaws.{undecided, lex_all, lex_first}
use Rattle.compare.proofs.first_decided.Goals as goal

pub loop-k-init : goal.loop-k-init
loop-k-init g c = λ u v h j l. absurd (not-suc-le-zero l)

pub returns-then-is_ne : goal.returns-then-is_ne
returns-then-is_ne g c = λ u v h.
    let k = c.loop-k.k in
    let l = c.loop-k-test.true in
    let e = h k c.compare-order.result l c.compare-order.ensures in
    e ∙ lex_first u v c.args.n k l (c.loop-k.invariant u v h) (ap is_ne (sym e) ∙ sym c.is_ne.ensures ∙ c.if-is_ne.true)

pub loop-k-preserved : goal.loop-k-preserved
loop-k-preserved g c = λ u v h j l.
    let k = c.loop-k.k in
    let e = h k c.compare-order.result c.loop-k-test.true c.compare-order.ensures in
    let last : order_z (u k) (v k) ≡ Equal = sym e ∙ undecided c.compare-order.result (sym c.is_ne.ensures ∙ c.if-is_ne.false) in
    elim (below_or j k) [
      | inl m ↦ c.loop-k.invariant u v h j m
      | inr m ↦ subst (λ x. order_z (u x) (v x) ≡ Equal) (let z : k ≡ j = omega arith in z) last
    ]

pub returns : goal.returns
returns g c = λ u v h. lex_all u v c.args.n (λ j l. c.loop-k.invariant u v h j (omega (arith, c.loop-k-test.false, l)))
