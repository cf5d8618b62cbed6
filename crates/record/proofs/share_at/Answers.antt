-- `record::share_at` meets its contract. Assumes nothing.
use Rattle.record.proofs.FormLaws.{nothing_there}
use Rattle.reel.specs.Layout.{number16}
use borrow.Author.Tests.{le-ltb, lt-ltb, le-leb, lt-leb, leb-true, leb-false, eq-eqb, ne_eqb}
use lib.Dec.{leb}
use lib.ListN.{length}
use mathlib.Core.Bool.{false}
use Prim.Native.Nat.{ℕ, ◌+◌, ◌*◌, ◌≤◌, ◌<◌}
use mathlib.Core.Path.{◌≡◌, sym, ap, ◌∙◌}
use native.Mathlib.Omega.{arith}
use Rattle.record.proofs.share_at.Goals.{Else-not-ends_within}
use Rattle.record.proofs.share_at.Goals as goal

pub returns-then-n-le6000 : goal.returns-then-n-le6000
returns-then-n-le6000 c = let a = c.args in rw (le-ltb 6000 a.n c.if-n-le6000.true)

pub returns-then-n-gt8000 : goal.returns-then-n-gt8000
returns-then-n-gt8000 c = let a = c.args in rw (lt-ltb 6000 a.n c.if-n-le6000.false, lt-leb a.n 8000 c.if-n-gt8000.true)

-- the header ends within the record, or it doesn't, and then no length stands behind it
pub returns-then-not-ends_within : goal.returns-then-not-ends_within
returns-then-not-ends_within c =
    let a = c.args in
    let s = a.«record».now in
    let cut : leb (a.at.0 + (3 + 180)) (length s) ≡ false = sym c.ends_within.ensures ∙ c.if-not-ends_within.true in
    let none : number16 s (a.at.0 + 183 + 1) ≡ 0 = nothing_there s (a.at.0 + 183 + 1) (omega (arith, leb-false (a.at.0 + (3 + 180)) (length s) cut)) in
    let n_low = c.if-n-le6000.false in
    rw (lt-ltb 6000 a.n n_low, le-leb a.n 8000 c.if-n-gt8000.false, ne_eqb (number16 s (a.at.0 + 183 + 1)) (a.n * 6) (λ q. no a.n n_low (sym none ∙ q)))
  where
    no : (n : ℕ) → 6000 < n → 0 ≡ n * 6 → ⊥
    no n l q = omega arith

room : (c : Else-not-ends_within) → let a = c.args in a.at.0 + (3 + 180) ≤ length a.«record».now
room c =
    let a = c.args in
    leb-true (a.at.0 + (3 + 180)) (length a.«record».now) (sym c.ends_within.ensures ∙ c.if-not-ends_within.false)

pub returns-then-number_at-n : goal.returns-then-number_at-n
returns-then-number_at-n c =
    let b = (goal.at.returns-then-number_at-n c).Else-not-ends_within in
    let a = b.args in
    let s = a.«record».now in
    let e : a.at.0 + 184 ≡ a.at.0 + 183 + 1 = omega arith in
    let is = c.number_at.ensures ∙ ap (number16 s) e in
    rw (lt-ltb 6000 a.n b.if-n-le6000.false, le-leb a.n 8000 b.if-n-gt8000.false, ne_eqb (number16 s (a.at.0 + 183 + 1)) (a.n * 6) (λ q. c.if-number_at-n.true (is ∙ q)))

pub returns : goal.returns
returns c =
    let b = (goal.at.returns c).Else-not-ends_within in
    let a = b.args in
    let s = a.«record».now in
    let e : a.at.0 + 184 ≡ a.at.0 + 183 + 1 = omega arith in
    let is = c.number_at.ensures ∙ ap (number16 s) e in
    rw (lt-ltb 6000 a.n b.if-n-le6000.false, le-leb a.n 8000 b.if-n-gt8000.false, eq-eqb (number16 s (a.at.0 + 183 + 1)) (a.n * 6) (sym is ∙ c.if-number_at-n.false))

pub overflow_add-p : goal.overflow_add-p
overflow_add-p c = omega (arith, room (goal.at.overflow_add-p c).Else-not-ends_within)
