use Rattle.std.specs.declared.cmp.Ordering.{Ordering}
use Rattle.numbers.specs.Walk.{walk}
use Rattle.exact.specs.Order.{lex_z}
use Rattle.record.specs.Held.{held_value}
use Rattle.fields.specs.Fields.{each, pair_place}
use Rattle.std.proofs.Common.{◌≡◌, ℕ, ◌-◌, ◌≤◌, List}
use Rattle.compare.proofs.compare_fields.Given as goal

-- samples from sample j on
abbrev pub from : List ℕ → ℕ → ℕ → List ℕ → ℕ → ℕ → ℕ → ℕ → Ordering
from a p c b q d n j = lex_z (walk (λ x. held_value a (pair_place 6 c p x)) 1 (n - j) j) (walk (λ x. held_value b (pair_place 6 d q x)) 1 (n - j) j)

abbrev pub invariant-loop-j : goal.invariant-loop-j
invariant-loop-j l =
    (lex_z (each (λ x. held_value l.a.record.now (pair_place 6 l.c l.a.place x)) l.n) (each (λ x. held_value l.b.record.now (pair_place 6 l.d l.b.place x)) l.n)
    ≡ from l.a.record.now l.a.place l.c l.b.record.now l.b.place l.d l.n l.j) × (l.j ≤ l.n)

abbrev pub decreases-loop-j : goal.decreases-loop-j
decreases-loop-j l = l.n - l.j
