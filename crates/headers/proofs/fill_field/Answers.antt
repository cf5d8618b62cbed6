-- `headers::fill_field` meets its contract. Assumes nothing.
use Rattle.std.proofs.Common.{◌≡◌, rules, ◌∙◌, refl, ap, ap₂, ℕ, ◌+◌, arith}
use Rattle.numbers.specs.Walk.{overwritten}
use Rattle.numbers.specs.BigEndian.{bytes_of}
use Rattle.numbers.specs.Places.{place_no, byte_no, byte_place}
use Rattle.numbers.proofs.WalkLaws.{copied}
use Rattle.numbers.proofs.Filling.{over}
use Rattle.numbers.proofs.PlaceLaws.{field_place_lem}
use Rattle.reel.specs.Layout.{number16}
use Rattle.headers.specs.Parts.{own_or}
use Rattle.headers.proofs.fill_field.Goals as goal

pub returns : goal.returns
returns c =
    let a = c.args in
    let p = c.field_at-at.result.0 in
    let place : p ≡ byte_place 0 (byte_no a.field) = ap place_no (c.field_at-at.ensures ∙ field_place_lem (record { 0 = 0 }) a.field c.requires.0 (omega (arith, c.requires.1))) in
    let filled : c.own_or.result ≡ own_or a.own (number16 a.header.now (byte_place 0 (byte_no a.field))) =
    c.own_or.ensures ∙ ap (own_or a.own) (c.number_at.ensures ∙ ap (number16 a.header.now) place) in
    over a.out.now (bytes_of 2 c.own_or.result) p (p + 2) refl (copied (bytes_of 2 c.own_or.result) _ c.put.ensures (search rules)) ∙ ap₂ (λ (x v : ℕ). overwritten a.out.now x (bytes_of 2 v)) place filled
