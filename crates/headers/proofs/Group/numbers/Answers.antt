-- `headers::Group::numbers` meets its contract. Assumes nothing.
use Rattle.std.proofs.Common.{rules, ◌≡◌, ◌∙◌, ap, ℕ, ◌+◌, ◌*◌, ◌<◌, ◌-◌, pos, get_or, arith}
use borrow.Author.Tests.{tests}
use Rattle.numbers.specs.Places.{place_no, byte_no}
use Rattle.numbers.specs.Walk.{walk}
use Rattle.numbers.proofs.PlaceLaws.{field_place_lem}
use Rattle.headers.specs.Parts.{number4, numbers_in}
use Rattle.numbers.proofs.FromFn.{made_at, walk_is}
use Rattle.headers.proofs.Group.numbers.Goals as goal

pub returns : goal.returns
unfolding numbers_in
returns g c =
    let h = c.args.header.now in
    let w = c.args.self.within in
    let p = c.field_at-first.result.0 in
    let place : p ≡ 0 + (byte_no c.args.self.first - 1) = ap place_no (c.field_at-first.ensures ∙ field_place_lem (record { 0 = 0 }) c.args.self.first w.0 (omega (arith, w.1))) in
    let each : (j : ℕ) → j < g.row.K → get_or c.from_fn.result j (pos 0) ≡ number4 h (p + j * 4) =
    λ j l.
    let z : 0 + j ≡ j = omega arith in
    let e : 4 * j ≡ j * 4 = omega arith in
    rw z at (made_at _ (λ (x : ℕ). number4 h (p + 4 * x)) _ (λ x y q k. search (rules, tests)) c.from_fn.result 0 g.row.K c.from_fn.ensures.items.each j l (pos 0))
    ∙ ap (λ (x : ℕ). number4 h (p + x)) e in
    walk_is (number4 h) 4 c.from_fn.result g.row.K p (pos 0) c.from_fn.ensures.items.long each ∙ ap (λ (x : ℕ). walk (number4 h) 4 g.row.K x) place
