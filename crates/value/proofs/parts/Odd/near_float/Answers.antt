-- `value::parts::Odd::near_float` meets its contract. Assumes nothing.
use Rattle.formats.proofs.CodeLaws.{code_no_is}
use Rattle.formats.proofs.NearestLaws.{code_rounds}
use Rattle.formats.specs.Codes.{code_no}
use Rattle.formats.specs.Words.{float_bits, float_word, word_bits}
use Rattle.value.specs.Parts.{format, worth}
use Rattle.value.proofs.NearLaws.{as_rounded, near_room, near_float}
use Rattle.value.proofs.Twos.{odd_shl}
use Rattle.std.proofs.Common.{◌*◌, ◌^◌, Bool, sym, ap, ◌∙◌}
use Rattle.value.proofs.parts.Odd.near_float.Goals as goal

pub packed-requires : goal.packed-requires
packed-requires c =
    let v = c.args.self in
    (c.requires.low, near_room (format c.args.code) v.negative (v.odd * 2 ^ v.power) (odd_shl v.odd v.power v.is_odd) c.near_place-p.result c.near_place-p.ensures 32 c.args.y c.requires)

pub returns : goal.returns
returns c =
    let v = c.args.self in
    let x = format c.args.code in
    let n = c.near_place-p.result.place in
    as_rounded (float_word x 32 c.args.y) x (worth v) (record { bits = c.packed.result; changed = c.near_place-p.result.changed })
    (c.packed.ensures ∙ ap (λ (b : Bool). float_bits 32 c.args.y b n.characteristic n.fraction) c.sign_of.ensures
    ∙ ap word_bits (sym (near_float x v.negative (v.odd * 2 ^ v.power) (odd_shl v.odd v.power v.is_odd) c.near_place-p.result c.near_place-p.ensures 32 c.args.y c.requires.even (code_rounds (code_no c.args.code) (code_no_is c.args.code)).small)))
    c.near_place-p.ensures.changes
