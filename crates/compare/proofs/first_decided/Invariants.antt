use Rattle.std.proofs.Common.{◌≡◌, ℕ, ℤ, ◌<◌}
use Rattle.exact.specs.Order.{order_z}
use Rattle.std.specs.declared.cmp.Ordering.{Ordering}
use Rattle.std.specs.declared.cmp.Ordering.TheVariants.{Equal}
use Rattle.compare.proofs.first_decided.Given as goal

-- all pairs so far are the same
abbrev pub invariant-loop-k : goal.invariant-loop-k
invariant-loop-k g l =
    (u v : ℕ → ℤ) → ((k : ℕ) (c : Ordering) → k < l.n → goal.F-post g l.compare k c → c ≡ order_z (u k) (v k)) → (j : ℕ) → j < l.k → order_z (u j) (v j) ≡ Equal
