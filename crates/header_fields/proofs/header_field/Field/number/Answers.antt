-- `header_fields::Field::number` meets its contract. Assumes nothing.
use Rattle.std.proofs.Common.{rules, ℕ, ◌≡◌, ◌^◌, ◌<◌, length, List, ap, arith}
use Rattle.numbers.specs.Walk.{bytes_at}
use Rattle.numbers.specs.Places.{place_no, byte_no, byte_place}
use borrow.Author.Rules.{sfits_of}
use mir.Syntax.{w16, w32}
use mir.Facts.{to_z-of_z}
use Rattle.numbers.specs.BigEndian.{number}
use Rattle.numbers.specs.TwosComplement.{signed_of}
use Rattle.header_fields.proofs.PlaceLaws.{bytes_there}
use Rattle.header_fields.proofs.header_field.Field.number.Goals as goal

pub returns-in-Two : goal.returns-in-Two
returns-in-Two c =
    let a = c.args in
    let l : length a.s.now < 2 ^ 64 = search rules in
    let bits : c.number_at.result ≡ number (bytes_at a.s.now (byte_place (place_no a.start) (byte_no a.self.begins)) 2) =
    rw (c.number_at.ensures, c.place-place.ensures) (ap number (bytes_there a.s.now a.start a.self.begins 2 a.self.counted l)) in
    rw (to_z-of_z {w = w32} (sfits_of c.from.type_inv), c.from.ensures, to_z-of_z {w = w16} (sfits_of c.signed.type_inv), c.signed.ensures, c.in-Two.is)
    (grind (arith, bits))

pub returns-in-Four : goal.returns-in-Four
returns-in-Four c =
    let a = c.args in
    let l : length a.s.now < 2 ^ 64 = search rules in
    rw (to_z-of_z {w = w32} (sfits_of c.signed-in-Four.type_inv), c.signed-in-Four.ensures, c.number_at-in-Four.ensures, c.place-place.ensures, c.in-Four.is)
    (ap (λ (b : List ℕ). signed_of 32 (number b)) (bytes_there a.s.now a.start a.self.begins 4 a.self.counted l))
