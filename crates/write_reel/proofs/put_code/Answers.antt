-- `write_reel::put_code` meets its contract. Assumes nothing.
use Rattle.formats.proofs.CodeLaws.{code_limits, code_no_is}
use Rattle.formats.specs.Codes.{code_no}
use Rattle.numbers.proofs.Filling.{over}
use Rattle.numbers.proofs.PlaceLaws.{field_place_lem}
use Rattle.numbers.proofs.WalkLaws.{copied}
use Rattle.numbers.specs.BigEndian.{bytes_of}
use Rattle.numbers.specs.Places.{place_no, byte_place}
use Rattle.numbers.specs.Walk.{overwritten}
use Prim.Native.Nat.{ℕ, ◌+◌}
use mathlib.Core.Path.{◌≡◌, refl, ap, ◌∙◌}
use native.Mathlib.Omega.{arith}
use Rattle.write_reel.proofs.put_code.Goals.{After-field_at-p}
use Rattle.write_reel.proofs.put_code.Goals as goal

-- the field's place
place : (c : After-field_at-p) → place_no c.field_at-p.result ≡ byte_place 0 3225
place c = ap place_no (c.field_at-p.ensures ∙ field_place_lem (record { 0 = 0 }) (record { 0 = 3225 }) (omega arith) (omega arith))

pub overflow_cast-number : goal.overflow_cast-number
overflow_cast-number c = omega (arith, c.number.ensures, code_limits (code_no c.args.code) (code_no_is c.args.code))

pub overflow_add-p : goal.overflow_add-p
overflow_add-p c = omega (arith, place (goal.at.overflow_add-p c).After-field_at-p)

pub slice_bounds-put-end : goal.slice_bounds-put-end
slice_bounds-put-end c = omega (arith, place (goal.at.slice_bounds-put-end c).After-field_at-p, c.requires)

pub returns : goal.returns
returns c =
    let f = (goal.at.returns c).After-field_at-p in
    let a = f.args in
    let p = place_no f.field_at-p.result in
    let new : c.put.new.out ≡ bytes_of 2 (code_no a.code) =
    copied (bytes_of 2 _) _ c.put.ensures (c.put-arg-1.given.2 ∙ omega arith) ∙ ap (bytes_of 2) (omega arith ∙ c.number.ensures) in
    over a.out.now (bytes_of 2 (code_no a.code)) p (p + 2) refl new ∙ ap (λ (x : ℕ). overwritten a.out.now x (bytes_of 2 (code_no a.code))) (place f)
