-- `compare::compare_trace` meets its contract. Assumes nothing.
use Rattle.compare.proofs.KeyLaws.{first_decides, behind_first, trace_parts}
use Rattle.record.proofs.FormLaws.{share_some}
use Rattle.record.specs.Kind.{tag04}
use Rattle.record.specs.Form.{share_in, behind_trace_in}
use Rattle.record.specs.Held.{held_value, held_values_in}
use Rattle.fields.specs.Fields.{each, pair_place, fields_length}
use Rattle.exact.specs.Order.{lex_z}
use lib.ListN.{length}
use Prim.Native.Nat.{ℕ, ◌+◌, ◌≤◌, ◌<◌}
use mathlib.Core.Path.{◌≡◌, sym, ap₂, ◌∙◌, subst}
use native.Mathlib.Omega.{arith}
use borrow.Author.Rules.{rules}
use Rattle.compare.proofs.compare_trace.Goals.{After-share_at-d, Start}
use Rattle.compare.proofs.compare_trace.Goals as goal

-- both traces lie within their records
room : (c : Start)
    → let a = c.args in
    (a.a.place + 183 + fields_length 6 (share_in tag04 a.a.record.now a.n (a.a.place + 183)) a.n ≤ length a.a.record.now) × (a.b.place + 183 + fields_length 6 (share_in tag04 a.b.record.now a.n (a.b.place + 183)) a.n ≤ length a.b.record.now)
unfolding behind_trace_in
room c = (omega (arith, c.requires.0), omega (arith, c.requires.1))

pub returns-then-is_ne : goal.returns-then-is_ne
returns-then-is_ne c =
    let g = c in
    let a = g.args in
    first_decides _ _ _ g.compare_headers-order.ensures (sym c.is_ne.ensures ∙ c.if-is_ne.true) ∙ sym (trace_parts a.a.record.now a.b.record.now a.a.place a.b.place a.n)

-- how many samples stand in each field but the last
shares : (c : After-share_at-d)
    → let a = c.args in
    (c.share_at-c.result ≡ share_in tag04 a.a.record.now a.n (a.a.place + 183)) × (c.share_at-d.result ≡ share_in tag04 a.b.record.now a.n (a.b.place + 183))
shares c = (c.share_at-c.ensures, c.share_at-d.ensures)

pub compare_fields-requires : goal.compare_fields-requires
compare_fields-requires c =
    let s = (goal.at.compare_fields-requires c).Start in
    let a = s.args in
    let h = shares (goal.at.compare_fields-requires c).After-share_at-d in
    let r = room s in (
      subst (λ (x : ℕ). 0 < x) (sym h.0) (share_some tag04 a.a.record.now a.n (a.a.place + 183)),
      subst (λ (x : ℕ). 0 < x) (sym h.1) (share_some tag04 a.b.record.now a.n (a.b.place + 183)),
      search rules,
      subst (λ (x : ℕ). a.a.place + 183 + fields_length 6 x a.n ≤ length a.a.record.now) (sym h.0) r.0,
      subst (λ (x : ℕ). a.b.place + 183 + fields_length 6 x a.n ≤ length a.b.record.now) (sym h.1) r.1,
    )

pub returns : goal.returns
unfolding held_values_in
returns c =
    let k = (goal.at.returns c).After-share_at-d in
    let e = c in
    let g = c in
    let a = g.args in
    let h = shares k in
    (c.compare_fields.ensures
    ∙ ap₂ (λ (x y : ℕ). lex_z (each (λ j. held_value a.a.record.now (pair_place 6 x (a.a.place + 183) j)) a.n) (each (λ j. held_value a.b.record.now (pair_place 6 y (a.b.place + 183) j)) a.n)) h.0 h.1)
    ∙ sym (behind_first _ _ _ g.compare_headers-order.ensures (sym e.is_ne.ensures ∙ e.if-is_ne.false))
    ∙ sym (trace_parts a.a.record.now a.b.record.now a.a.place a.b.place a.n)

pub overflow_add-a : goal.overflow_add-a
overflow_add-a c = omega (arith, (room (goal.at.overflow_add-a c).Start).0)

pub overflow_add-b : goal.overflow_add-b
overflow_add-b c = omega (arith, (room (goal.at.overflow_add-b c).Start).1)

pub compare_headers-order-requires : goal.compare_headers-order-requires
compare_headers-order-requires c = (omega (arith, (room (goal.at.compare_headers-order-requires c).Start).0), omega (arith, (room (goal.at.compare_headers-order-requires c).Start).1))

pub overflow_add-a-2 : goal.overflow_add-a-2
overflow_add-a-2 c = omega (arith, (room (goal.at.overflow_add-a-2 c).Start).0)

pub overflow_add-b-2 : goal.overflow_add-b-2
overflow_add-b-2 c = omega (arith, (room (goal.at.overflow_add-b-2 c).Start).1)
