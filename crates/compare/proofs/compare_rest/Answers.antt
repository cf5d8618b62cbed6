-- `compare::compare_rest` meets its contract. Assumes nothing.
use Rattle.compare.proofs.SharedLaws.{front_fine, samples_alike, order_alike, rest_room, count_rest}
use Rattle.compare.specs.Parts.{behind_traces, key_from, more_traces}
use Rattle.record.proofs.FormLaws.{headed}
use Rattle.record.specs.Form.{held_samples}
use Rattle.record.specs.declared.Numbers.{Numbers}
use Rattle.exact.specs.Order.{lex_z}
use lib.ListN.{length}
use Prim.Native.Nat.{ℕ, ◌-◌, ◌≤◌}
use mathlib.Core.Path.{◌≡◌, sym, ap₂, ◌∙◌, subst}
use Rattle.compare.proofs.compare_rest.Goals.{After-numbers_in-x, After-numbers_in-y, Start}
use Rattle.compare.proofs.compare_rest.Goals as goal

-- both have their first two fields, and the same N
room_a : (c : Start) → 3266 ≤ length c.args.a.now
room_a c = (headed c.args.a.now (front_fine c.args.a.now c.requires.0)).room

room_b : (c : Start) → 3266 ≤ length c.args.b.now
room_b c = (headed c.args.b.now (front_fine c.args.b.now c.requires.1)).room

n_b : (c : Start) → held_samples c.args.b.now ≡ c.args.n
n_b c = sym (c.requires.2 ∙ samples_alike c.args.a.now c.args.b.now (room_a (goal.at.Start c).Start) (room_b (goal.at.Start c).Start) c.requires.3)

-- the traces that follow in each
more_a : (c : After-numbers_in-x)
    → let a = c.args in
    (a.shared.traces ≤ c.numbers_in-x.result.traces) × (c.numbers_in-x.result.traces - a.shared.traces ≡ more_traces a.a.now a.n a.shared.traces)
more_a c =
    let s = (goal.at.After-numbers_in-x c).Start in
    let a = s.args in
    subst (λ (r : Numbers). (a.shared.traces ≤ r.traces) × (r.traces - a.shared.traces ≡ more_traces a.a.now a.n a.shared.traces)) (sym c.numbers_in-x.ensures) (count_rest a.a.now a.n a.i a.shared.traces a.shared.place s.requires.0 (sym s.requires.2) s.requires.4.first)

more_b : (c : After-numbers_in-y)
    → let a = c.args in
    (a.shared.traces ≤ c.numbers_in-y.result.traces) × (c.numbers_in-y.result.traces - a.shared.traces ≡ more_traces a.b.now a.n a.shared.traces)
more_b c =
    let s = (goal.at.After-numbers_in-y c).Start in
    let a = s.args in
    subst (λ (r : Numbers). (a.shared.traces ≤ r.traces) × (r.traces - a.shared.traces ≡ more_traces a.b.now a.n a.shared.traces)) (sym c.numbers_in-y.ensures) (count_rest a.b.now a.n a.i a.shared.traces a.shared.place s.requires.1 (n_b s) s.requires.4.second)

pub compare_traces-requires : goal.compare_traces-requires
compare_traces-requires c =
    let s = (goal.at.compare_traces-requires c).Start in
    let a = s.args in
    let x = a.a.now in
    let y = a.b.now in (
      subst (λ (k : ℕ). behind_traces x a.n k a.shared.place ≤ length x) (sym (more_a (goal.at.compare_traces-requires c).After-numbers_in-x).1) (rest_room x a.n a.i a.shared.traces a.shared.place s.requires.0 (sym s.requires.2) s.requires.4.first),
      subst (λ (k : ℕ). behind_traces y a.n k a.shared.place ≤ length y) (sym (more_b (goal.at.compare_traces-requires c).After-numbers_in-y).1) (rest_room y a.n a.i a.shared.traces a.shared.place s.requires.1 (n_b s) s.requires.4.second),
    )

pub returns : goal.returns
returns c =
    let k = (goal.at.returns c).After-numbers_in-y in
    let s = (goal.at.returns c).Start in
    let a = s.args in
    let x = a.a.now in
    let y = a.b.now in
    c.compare_traces.ensures
    ∙ ap₂ (λ (u v : ℕ). lex_z (key_from x a.n u a.shared.place) (key_from y a.n v a.shared.place)) (more_a (goal.at.returns c).After-numbers_in-x).1 (more_b k).1
    ∙ sym (order_alike x y (room_a s) (room_b s) s.requires.3 a.n s.requires.2 ∙ s.requires.4.order)

pub overflow_sub-x : goal.overflow_sub-x
overflow_sub-x c = (more_a (goal.at.overflow_sub-x c).After-numbers_in-x).0

pub overflow_sub-y : goal.overflow_sub-y
overflow_sub-y c = (more_b (goal.at.overflow_sub-y c).After-numbers_in-y).0
