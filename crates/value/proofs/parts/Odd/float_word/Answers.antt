-- `value::parts::Odd::float_word` meets its contract. Assumes nothing.
use Rattle.formats.proofs.PlacedLaws.{placed_is}
use Rattle.formats.proofs.WordLaws.{room_for}
use Rattle.formats.specs.Format.{placed}
use Rattle.value.specs.Parts.{format, worth}
use Rattle.std.proofs.Common.{◌≡◌, Some, sym, ap, ◌∙◌}
use Rattle.std.specs.Result.{result_ok}
use Rattle.value.proofs.parts.Odd.float_word.Goals as goal

pub packed-requires : goal.packed-requires
packed-requires c =
    let v = worth c.args.self in
    let x = format c.args.code in
    let p = c.in_ok-p.p in
    let at : placed x v ≡ Some p = sym c.place.ensures ∙ c.ok_or.ensures.ok_part ∙ ap result_ok (c.in_ok-p.was) in
    (c.requires.low, room_for x 32 c.args.y v _ _ c.requires (placed_is x v _ _ at))
