-- `compare::compare_valid` meets its contract. Assumes nothing.
use Rattle.compare.proofs.LexLaws.{undecided}
use Rattle.compare.proofs.KeyLaws.{first_decides, behind_first, key_is, front_parts, front_same, same_samples}
use Rattle.compare.proofs.SharedLaws.{front_fine, all_room}
use Rattle.compare.specs.Key.{card_key, binary_key, order_of}
use Rattle.compare.specs.Parts.{behind_traces, key_from}
use Rattle.record.proofs.FormLaws.{Headed, headed}
use Rattle.record.specs.Form.{held_samples, traces_place}
use Rattle.exact.specs.Order.{or_else, lex_z}
use lib.ListN.{length}
use Prim.Native.Nat.{ℕ, ◌≤◌}
use mathlib.Core.Path.{◌≡◌, refl, sym, ap₂, ◌∙◌, subst}
use mathlib.Core.List.{◌++◌}
use native.Mathlib.Omega.{arith}
use Rattle.compare.proofs.compare_valid.Goals.{Else-is_ne, After-compare_fronts-order, After-binary_number-n, Start}
use Rattle.compare.proofs.compare_valid.Goals as goal

-- the first two fields of each
first : (c : Start) → Headed c.args.a.now
first c = headed c.args.a.now (front_fine c.args.a.now c.requires.0)

second : (c : Start) → Headed c.args.b.now
second c = headed c.args.b.now (front_fine c.args.b.now c.requires.1)

-- the two parts of the keys
parts : (c : Start)
    → let a = c.args in
    order_of a.a.now a.b.now
    ≡ or_else (lex_z (card_key a.a.now ++ binary_key a.a.now) (card_key a.b.now ++ binary_key a.b.now)) (lex_z (key_from a.a.now (held_samples a.a.now) a.s traces_place) (key_from a.b.now (held_samples a.b.now) a.t traces_place))
parts c =
    let a = c.args in
    let x = a.a.now in
    let y = a.b.now in
    ap₂ lex_z (key_is x (held_samples x) a.s refl (sym c.requires.2)) (key_is y (held_samples y) a.t refl (sym c.requires.3))
    ∙ front_parts x y (key_from x (held_samples x) a.s traces_place) (key_from y (held_samples y) a.t traces_place)

-- what stands before the traces
front : (c : After-compare_fronts-order)
    → let a = c.args in
    c.compare_fronts-order.result ≡ lex_z (card_key a.a.now ++ binary_key a.a.now) (card_key a.b.now ++ binary_key a.b.now)
front c = c.compare_fronts-order.ensures

pub compare_fronts-order-requires : goal.compare_fronts-order-requires
compare_fronts-order-requires c =
    let s = (goal.at.compare_fronts-order-requires c).Start in
    ((first s).room, (second s).room)

pub returns-then-is_ne : goal.returns-then-is_ne
returns-then-is_ne c =
    first_decides _ _ _ (front (goal.at.returns-then-is_ne c).After-compare_fronts-order) (sym c.is_ne.ensures ∙ c.if-is_ne.true) ∙ sym (parts (goal.at.returns-then-is_ne c).Start)

-- both have the same N
same : (c : Else-is_ne) → let a = c.args in held_samples a.b.now ≡ held_samples a.a.now
same c =
    let s = (goal.at.Else-is_ne c).Start in
    let a = s.args in
    let f = front (goal.at.Else-is_ne c).After-compare_fronts-order in
    let e = front_same a.a.now a.b.now (sym f ∙ undecided c.compare_fronts-order.result (sym c.is_ne.ensures ∙ c.if-is_ne.false)) in
    sym (same_samples a.a.now a.b.now (omega (arith, (first s).n_high)) (omega (arith, (second s).n_high)) e)

-- which is read of the first
read : (c : After-binary_number-n) → c.binary_number-n.result ≡ held_samples c.args.a.now
read c = c.binary_number-n.ensures

pub compare_traces-requires : goal.compare_traces-requires
compare_traces-requires c =
    let s = (goal.at.compare_traces-requires c).Start in
    let a = s.args in
    let x = a.a.now in
    let y = a.b.now in
    let n = sym (read (goal.at.compare_traces-requires c).After-binary_number-n) in
    let e = same (goal.at.compare_traces-requires c).Else-is_ne in (
      subst (λ (z : ℕ). behind_traces x z a.s traces_place ≤ length x) n (subst (λ (z : ℕ). behind_traces x (held_samples x) z traces_place ≤ length x) (sym s.requires.2) (all_room x (held_samples x) s.requires.0 refl)),
      subst (λ (z : ℕ). behind_traces y z a.t traces_place ≤ length y) (e ∙ n) (subst (λ (z : ℕ). behind_traces y (held_samples y) z traces_place ≤ length y) (sym s.requires.3) (all_room y (held_samples y) s.requires.1 refl)),
    )

pub returns : goal.returns
returns c =
    let f = (goal.at.returns c).Else-is_ne in
    let s = (goal.at.returns c).Start in
    let a = s.args in
    let n = read (goal.at.returns c).After-binary_number-n in
    c.compare_traces.ensures
    ∙ ap₂ (λ (m n : ℕ). lex_z (key_from a.a.now m a.s traces_place) (key_from a.b.now n a.t traces_place)) n (n ∙ sym (same f))
    ∙ sym (behind_first _ _ _ (front (goal.at.returns c).After-compare_fronts-order) (sym c.is_ne.ensures ∙ c.if-is_ne.false))
    ∙ sym (parts s)
