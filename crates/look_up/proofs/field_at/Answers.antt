-- `look_up::field_at` meets its contract. Assumes nothing.
use Rattle.std.proofs.Common.{◌≡◌, ℕ, ◌<◌, rules, sym, ap, ◌∙◌, arith}
use Rattle.header_fields.specs.declared.header_field.Width.{Width}
use Rattle.header_fields.specs.declared.header_field.Width.TheVariants.{Two, Four}
use Rattle.header_fields.specs.HeaderField.{bytes_of}
use Rattle.look_up.specs.Parts.{found_field, the_field}
use Rattle.look_up.specs.LookUp.{found, none}
use Rattle.numbers.specs.Places.{byte_no}
use Rattle.look_up.proofs.FieldLaws.{told_in}
use Rattle.look_up.proofs.field_at.Goals as goal

-- a width has bytes
some : (w : Width) → 0 < bytes_of w
some Two = omega arith
some Four = omega arith

pub returns-in_err-width : goal.returns-in_err-width
returns-in_err-width c =
    let a = c.args in
    let q : found_field c.from_residual.result ≡ none = search rules in
    q ∙ sym ((told_in a.trace (byte_no a.b)).missing (sym c.in_err-width.ensures))

pub invariant_of-result : goal.invariant_of-result
invariant_of-result c =
    let a = c.args in
    record { counted = ((told_in a.trace (byte_no a.b)).lies (rw c.in_ok-width.ensures at (some c.in_ok-width.width))).low }

pub returns : goal.returns
returns c =
    let a = c.args in
    ap (λ (n : ℕ). found (the_field (byte_no a.b) n)) c.in_ok-width.ensures
    ∙ sym ((told_in a.trace (byte_no a.b)).is (rw c.in_ok-width.ensures at (some c.in_ok-width.width)))
