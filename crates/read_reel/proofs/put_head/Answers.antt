-- `read_reel::put_head` meets its contract. Assumes nothing.
use Rattle.read_reel.proofs.CopiedLaws.{size_fields}
use Rattle.read_reel.specs.Copied.{head_copied}
use Rattle.record.specs.Form.{code_place}
use Rattle.numbers.proofs.PlaceLaws.{field_place_lem}
use Rattle.numbers.specs.BigEndian.{bytes_of}
use Rattle.numbers.specs.Places.{place_no}
use Rattle.numbers.specs.Walk.{overwritten}
use Prim.Native.Nat.{ℕ}
use mathlib.Core.List.{List}
use mathlib.Core.Path.{◌≡◌, ap, ap₂, ◌∙◌}
use lib.ListN.{length}
use native.Mathlib.Omega.{arith}
use Rattle.read_reel.proofs.put_head.Goals.{After-field_at}
use Rattle.read_reel.proofs.put_head.Goals as goal

-- the code's place in the record
place : (c : After-field_at) → place_no c.field_at.result ≡ code_place
place c = ap place_no (c.field_at.ensures ∙ field_place_lem (record { 0 = 6 }) (record { 0 = 3225 }) (omega arith) (omega arith))

pub put_over-requires : goal.put_over-requires
put_over-requires c = let f = c in omega (arith, place (goal.at.put_over-requires c).After-field_at, ap length f.put_fields.ensures ∙ size_fields f.args.layout f.args.reel.now)

pub returns : goal.returns
unfolding head_copied
returns c =
    let f = (goal.at.returns c).After-field_at in
    c.put_over.ensures ∙ ap₂ (λ (l : List ℕ) (p : ℕ). overwritten l p (bytes_of 2 0)) f.put_fields.ensures (place f)
