-- `value::parts::Odd::near_gain` meets its contract. Assumes nothing.
use Rattle.formats.specs.Codes.{gain_format}
use Rattle.formats.specs.Words.{gain_word, word_bits}
use Rattle.value.specs.Parts.{worth}
use Rattle.value.proofs.NearLaws.{as_rounded, near_value}
use Rattle.value.proofs.Twos.{odd_shl}
use Rattle.std.proofs.Common.{ℤ, ◌*◌, ◌^◌, sym, ap, ◌∙◌}
use Rattle.value.proofs.parts.Odd.near_gain.Goals as goal

pub returns : goal.returns
returns c =
    let v = c.args.self in
    as_rounded gain_word gain_format (worth v) (record { bits = c.gain_bits.result; changed = c.near_place-p.result.changed })
    (c.gain_bits.ensures ∙ ap (λ (v : ℤ). word_bits (gain_word v)) (sym (near_value gain_format v.negative (v.odd * 2 ^ v.power) (odd_shl v.odd v.power v.is_odd) c.near_place-p.result c.near_place-p.ensures)))
    c.near_place-p.ensures.changes
