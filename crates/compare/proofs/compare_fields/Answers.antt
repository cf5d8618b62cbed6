-- `compare::compare_fields` meets its contract. Assumes nothing.
use Rattle.compare.proofs.LexLaws.{undecided}
use Rattle.compare.proofs.KeyLaws.{first_decides}
use Rattle.compare.proofs.RunLaws.{run_room, run_some, run_next}
use Rattle.compare.specs.Parts.{run_of}
use Rattle.exact.specs.Order.{or_else, lex_z}
use Rattle.std.specs.declared.cmp.Ordering.{Ordering}
use Rattle.record.specs.Held.{held_value}
use Rattle.fields.specs.Fields.{each, pair_place}
use Rattle.numbers.specs.Walk.{walk}
use lib.IntN.{ℤ}
use lib.ListN.{length}
use Prim.Native.Nat.{ℕ, ◌+◌, ◌-◌, ◌*◌, ◌≤◌, ◌<◌}
use mathlib.Core.Path.{◌≡◌, sym, ap, ap₂, ◌∙◌}
use native.Mathlib.Omega.{arith}
use Rattle.compare.proofs.compare_fields.Invariants.{from}
use Rattle.compare.proofs.compare_fields.Goals.{After-compare_run-order, After-run_of-m, In-loop-j}
use Rattle.compare.proofs.compare_fields.Goals as goal

pub loop-j-init : goal.loop-j-init
loop-j-init c =
    let a = c.args in
    let f : ℕ → ℤ = λ x. held_value a.a.record.now (pair_place 6 a.c a.a.place x) in
    let g : ℕ → ℤ = λ x. held_value a.b.record.now (pair_place 6 a.d a.b.place x) in
    let e : a.n ≡ a.n - 0 = omega arith in
    (ap (λ (k : ℕ). lex_z (walk f 1 k 0) (walk g 1 k 0)) e, omega arith)

-- the run and its places, all within both records
room : (c : In-loop-j) → (m : ℕ)
    → let h = c.loop-j in let a = c.args in
    h.j + m ≤ a.n
    → (pair_place 6 a.c a.a.place h.j + m * 6 ≤ length a.a.record.now) × (pair_place 6 a.d a.b.place h.j + m * 6 ≤ length a.b.record.now)
room c m l =
    let h = c.loop-j in
    let s = c in
    let a = s.args in
    let t = c.loop-j-test.true in
    (omega (arith, run_room a.c s.requires.0 a.a.place a.n h.j m l t, s.requires.3), omega (arith, run_room a.d s.requires.1 a.b.place a.n h.j m l t, s.requires.4))

pub compare_run-order-requires : goal.compare_run-order-requires
compare_run-order-requires c =
    let i = (goal.at.compare_run-order-requires c).In-loop-j in
    let r = room i c.run_of-m.result (omega (arith, c.run_of-m.ensures, i.loop-j-test.true)) in
    (omega (arith, r.0, c.place_of.ensures), omega (arith, r.1, c.place_of-in-loop-j.ensures))

-- what the run gives
found : (c : After-compare_run-order)
    → let i = (goal.at.After-compare_run-order c).In-loop-j in let h = i.loop-j in let a = i.args in
    let m = run_of a.c a.d a.n h.j in
    c.compare_run-order.result ≡ lex_z (walk (held_value a.a.record.now) 6 m (pair_place 6 a.c a.a.place h.j)) (walk (held_value a.b.record.now) 6 m (pair_place 6 a.d a.b.place h.j))
found c =
    let y = c in
    let x = c in
    let k = (goal.at.After-compare_run-order c).After-run_of-m in
    let i = (goal.at.After-compare_run-order c).In-loop-j in
    let h = i.loop-j in
    let a = i.args in
    let f = held_value a.a.record.now in
    let g = held_value a.b.record.now in
    let m = run_of a.c a.d a.n h.j in
    c.compare_run-order.ensures
    ∙ ap (λ (z : ℕ). lex_z (walk f 6 z x.place_of.result) (walk g 6 z y.place_of-in-loop-j.result)) k.run_of-m.ensures
    ∙ ap₂ (λ (u v : ℕ). lex_z (walk f 6 m u) (walk g 6 m v)) x.place_of.ensures y.place_of-in-loop-j.ensures

-- a run, then those behind it
next : (i : In-loop-j)
    → let h = i.loop-j in let a = i.args in
    let m = run_of a.c a.d a.n h.j in
    lex_z (each (λ x. held_value a.a.record.now (pair_place 6 a.c a.a.place x)) a.n) (each (λ x. held_value a.b.record.now (pair_place 6 a.d a.b.place x)) a.n)
    ≡ or_else (lex_z (walk (held_value a.a.record.now) 6 m (pair_place 6 a.c a.a.place h.j)) (walk (held_value a.b.record.now) 6 m (pair_place 6 a.d a.b.place h.j))) (from a.a.record.now a.a.place a.c a.b.record.now a.b.place a.d a.n (h.j + m))
next i =
    let h = i.loop-j in
    let s = i in
    let a = s.args in
    h.invariant.0 ∙ run_next a.a.record.now a.b.record.now a.c a.d s.requires.0 s.requires.1 a.a.place a.b.place a.n h.j i.loop-j-test.true

pub returns-then-is_ne : goal.returns-then-is_ne
returns-then-is_ne c =
    let d = c in
    let g = (goal.at.returns-then-is_ne c).After-compare_run-order in
    first_decides _ _ _ (found g) (sym d.is_ne.ensures ∙ c.if-is_ne.true) ∙ sym (next (goal.at.returns-then-is_ne c).In-loop-j)

pub loop-j-preserved : goal.loop-j-preserved
loop-j-preserved c =
    let d = c in
    let g = (goal.at.loop-j-preserved c).After-compare_run-order in
    let k = (goal.at.loop-j-preserved c).After-run_of-m in
    let i = (goal.at.loop-j-preserved c).In-loop-j in
    let h = i.loop-j in
    let a = i.args in
    let m = run_of a.c a.d a.n h.j in
    let rest : ℕ → Ordering = λ x. from a.a.record.now a.a.place a.c a.b.record.now a.b.place a.d a.n (h.j + x) in (
      next i ∙ ap (λ (o : Ordering). or_else o (rest m)) (sym (found g) ∙ undecided g.compare_run-order.result (sym d.is_ne.ensures ∙ c.if-is_ne.false)) ∙ ap rest (sym k.run_of-m.ensures),
      omega (arith, k.run_of-m.ensures, i.loop-j-test.true),
    )

-- a run has some samples
some : (c : After-run_of-m) → 0 < c.run_of-m.result
some c =
    let i = (goal.at.After-run_of-m c).In-loop-j in
    let s = c in
    let a = s.args in
    omega (arith, c.run_of-m.ensures, run_some a.a.record.now a.b.record.now a.c a.d s.requires.0 s.requires.1 a.a.place a.b.place a.n i.loop-j.j i.loop-j-test.true)

pub returns : goal.returns
returns c =
    let h = c.loop-j in
    let a = c.args in
    let f : ℕ → ℤ = λ x. held_value a.a.record.now (pair_place 6 a.c a.a.place x) in
    let g : ℕ → ℤ = λ x. held_value a.b.record.now (pair_place 6 a.d a.b.place x) in
    let e : 0 ≡ a.n - h.j = omega (arith, c.loop-j-test.false) in
    ap (λ (k : ℕ). lex_z (walk f 1 k h.j) (walk g 1 k h.j)) e ∙ sym h.invariant.0

pub run_of-m-requires : goal.run_of-m-requires
run_of-m-requires c = let s = c in (s.requires.0, s.requires.1, c.loop-j.invariant.1)

pub place_of-requires : goal.place_of-requires
place_of-requires c = let s = c in (s.requires.0, omega (arith, (room (goal.at.place_of-requires c).In-loop-j 1 (omega (arith, c.loop-j-test.true))).0))

pub place_of-requires-in-loop-j : goal.place_of-requires-in-loop-j
place_of-requires-in-loop-j c = let s = c in (s.requires.1, omega (arith, (room (goal.at.place_of-requires-in-loop-j c).In-loop-j 1 (omega (arith, c.loop-j-test.true))).1))

pub overflow_add-j : goal.overflow_add-j
overflow_add-j c = omega (arith, c.run_of-m.ensures, c.loop-j-test.true)

pub loop-j-smaller : goal.loop-j-smaller
loop-j-smaller c = omega (arith, some (goal.at.loop-j-smaller c).After-run_of-m, c.loop-j-test.true)
