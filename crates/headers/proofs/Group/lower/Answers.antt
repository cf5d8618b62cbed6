-- `headers::Group::lower` meets its contract. Assumes nothing.
use Rattle.std.proofs.Common.{◌≡◌, rules, ◌∙◌, refl, ap, ℕ, ◌+◌, ◌-◌, length, take, take_all, arith, to_z, of_z, to_z-of_z, get_or, pos}
use lib.ListN.{length-map}
use borrow.Author.Rules.{sfits_of}
use mir.Syntax.{w16}
use mir.Val.{SFits}
use Rattle.numbers.specs.Walk.{overwritten}
use Rattle.numbers.specs.BigEndian.{bytes_of}
use Rattle.numbers.specs.TwosComplement.{bits_of}
use Rattle.numbers.specs.Places.{place_no, byte_no, byte_place}
use Rattle.numbers.proofs.WalkLaws.{copied}
use Rattle.numbers.proofs.Filling.{over}
use Rattle.numbers.proofs.PlaceLaws.{field_place_lem}
use Rattle.scalars.specs.Parts.{Fit32}
use Rattle.scalars.proofs.Fit32.{array_fits}
use Rattle.headers.specs.Parts.{number2, times_factor, group_bytes}
use Rattle.headers.proofs.GroupLaws.{size_in, factor_fits}
use Rattle.headers.proofs.Lowered.{product_fits, product_is, none_over, stored_more, lowered_is}
use Rattle.headers.proofs.Group.lower.Goals as goal

pub loop-k-init : goal.loop-k-init
loop-k-init g c = none_over c.args.out.now c.field_at-first.result.0

pub overflow_mul-number : goal.overflow_mul-number
overflow_mul-number g c =
    let a = c.args in
    let ns = c.numbers-numbers.result in
    let scale = c.scale_of-scale in
    let size : length ns ≡ g.row.K = ap length c.numbers-numbers.ensures ∙ size_in a.header.now g.row.K (byte_place 0 (byte_no a.self.first)) in
    let w : Fit32 ns = (array_fits ns _ c.numbers-numbers.type_inv.1).1 in
    let v : Fit32 (times_factor scale.result.factor ns) = rw (scale.ensures) (factor_fits ns _ w) in
    product_fits ns scale.result.factor c.loop-k.k (omega (arith, c.loop-k-test.true)) w v scale.type_inv.1.1.0.1

pub loop-k-preserved : goal.loop-k-preserved
loop-k-preserved g c =
    let a = c.args in
    let ns = c.numbers-numbers.result in
    let scale = c.scale_of-scale in
    let p = c.field_at-first.result.0 in
    let inside = a.self.within in
    let size : length ns ≡ g.row.K = ap length c.numbers-numbers.ensures ∙ size_in a.header.now g.row.K (byte_place 0 (byte_no a.self.first)) in
    let w : Fit32 ns = (array_fits ns _ c.numbers-numbers.type_inv.1).1 in
    let v : Fit32 (times_factor scale.result.factor ns) = rw (scale.ensures) (factor_fits ns _ w) in
    let place : p ≡ 0 + (byte_no a.self.first - 1) = ap place_no (c.field_at-first.ensures ∙ field_place_lem (record { 0 = 0 }) a.self.first inside.0 (omega (arith, inside.1))) in
    let sizes : length (times_factor scale.result.factor ns) ≡ length ns = length-map ns _ in
    let number : c.of_signed.result ≡ bits_of 32 (get_or (times_factor scale.result.factor ns) c.loop-k.k (pos 0)) =
    c.of_signed.ensures ∙ ap (bits_of 32) (product_is ns scale.result.factor c.loop-k.k (omega (arith, c.loop-k-test.true)) w v scale.type_inv.1.1.0.1) in
    stored_more c.loop-k.out a.out.now (times_factor scale.result.factor ns) p c.loop-k.k (omega (arith, c.loop-k-test.true)) (omega (arith, inside.1, c.told-out))
    c.loop-k.invariant (copied (bytes_of 4 c.of_signed.result) _ c.put.ensures (search rules) ∙ ap (bytes_of 4) number)

pub returns : goal.returns
returns g c =
    let a = c.args in
    let ns = c.numbers-numbers.result in
    let scale = c.scale_of-scale in
    let inside = a.self.within in
    let q = c.field_at-at.result.0 in
    let size : length ns ≡ g.row.K = ap length c.numbers-numbers.ensures ∙ size_in a.header.now g.row.K (byte_place 0 (byte_no a.self.first)) in
    let w : Fit32 ns = (array_fits ns _ c.numbers-numbers.type_inv.1).1 in
    let p-is : c.field_at-first.result.0 ≡ byte_place 0 (byte_no a.self.first) = ap place_no (c.field_at-first.ensures ∙ field_place_lem (record { 0 = 0 }) a.self.first inside.0 (omega (arith, inside.1))) in
    let q-is : q ≡ byte_place 0 (byte_no a.self.scalar) = ap place_no (c.field_at-at.ensures ∙ field_place_lem (record { 0 = 0 }) a.self.scalar inside.2 (omega (arith, inside.3))) in
    let sizes : length (times_factor scale.result.factor ns) ≡ length ns = length-map ns _ in
    let all : take c.loop-k.k (times_factor scale.result.factor ns) ≡ times_factor scale.result.factor ns = take_all c.loop-k.k (times_factor scale.result.factor ns) (omega (arith, c.loop-k-test.false)) in
    let stored : c.loop-k.out ≡ overwritten a.out.now (byte_place 0 (byte_no a.self.first)) (group_bytes (times_factor scale.result.factor ns)) = rw (all, p-is) at c.loop-k.invariant in
    let fits : SFits w16 scale.result.scalar = record { sfits = scale.type_inv.1.1.1.0.1 } in
    let scalar : c.of_signed-2.result ≡ bits_of 16 scale.result.scalar = c.of_signed-2.ensures ∙ ap (bits_of 16) (to_z-of_z fits) in
    let own : to_z w16 (of_z w16 c.scalar.result) ≡ number2 a.header.now (byte_place 0 (byte_no a.self.scalar)) = to_z-of_z {w = w16} (sfits_of c.scalar.type_inv) ∙ c.scalar.ensures in
    over c.loop-k.out (bytes_of 2 (bits_of 16 scale.result.scalar)) q (q + 2) refl (copied (bytes_of 2 c.of_signed-2.result) _ c.put-2.ensures (search rules) ∙ ap (bytes_of 2) scalar)
    ∙ ap (λ (x : ℕ). overwritten c.loop-k.out x (bytes_of 2 (bits_of 16 scale.result.scalar))) q-is
    ∙ lowered_is a.header.now a.out.now c.loop-k.out g.row.K (byte_place 0 (byte_no a.self.first)) (byte_place 0 (byte_no a.self.scalar)) ns _ scale.result c.numbers-numbers.ensures own scale.ensures w stored
