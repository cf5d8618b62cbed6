-- `value::parts::Odd::near_whole` meets its contract. Assumes nothing.
use Rattle.formats.specs.Codes.{whole_format}
use Rattle.formats.specs.Words.{whole_word, word_bits}
use Rattle.formats.specs.Nearest.{nearest_in}
use Rattle.formats.specs.declared.Format.{Format}
use Rattle.numbers.specs.SignMagnitude.{sign_magnitude}
use Rattle.numbers.specs.TwosComplement.{bits_of}
use Rattle.value.specs.Parts.{format, sample_bits, worth, NearPlace}
use Rattle.value.proofs.NearLaws.{as_rounded, near_whole, signed_by, signed_low, signed_high}
use Rattle.value.specs.declared.Rounded.{Rounded}
use lib.Pow.{pow_pos}
use Rattle.value.proofs.Twos.{odd_shl}
use Rattle.std.proofs.Common.{ℕ, ◌-◌, ◌*◌, ◌^◌, sym, ap, subst, ◌∙◌, Bool}
use Rattle.value.proofs.parts.Odd.near_whole.Goals.{After-near_place-p}
use Rattle.value.proofs.parts.Odd.near_whole.Goals as goal

-- the place is one of such numbers
near : (c : After-near_place-p) → let v = c.args.self in NearPlace (whole_format (sample_bits c.args.code)) v.negative (v.odd * 2 ^ v.power) c.near_place-p.result
near c = let v = c.args.self in subst (λ (x : Format). NearPlace x v.negative (v.odd * 2 ^ v.power) c.near_place-p.result) c.requires c.near_place-p.ensures

pub complement-requires : goal.complement-requires
complement-requires c =
    let n = near (goal.at.complement-requires c).After-near_place-p in
    let f = c.near_place-p.result.place.fraction in
    rw c.sign_of.ensures (c.sample_bits.ensures.1, c.sample_bits.ensures.2, signed_low c.args.self.negative f, rw c.sample_bits.ensures.0 (signed_high c.args.self.negative f _ (pow_pos (sample_bits c.args.code - 1)) n.fits))

pub returns : goal.returns
returns c =
    let v = c.args.self in
    let w = sample_bits c.args.code in
    let n = near (goal.at.returns c).After-near_place-p in
    let f = c.near_place-p.result.place.fraction in
    let r : Rounded = record { bits = c.complement.result; changed = c.near_place-p.result.changed } in
    as_rounded (whole_word w) (format c.args.code) (worth v) r
    (c.complement.ensures.0 ∙ ap (λ (w : ℕ). bits_of w (sign_magnitude c.sign_of.result f)) c.sample_bits.ensures.0 ∙ ap (λ (b : Bool). bits_of w (sign_magnitude b f)) c.sign_of.ensures ∙ ap (bits_of w) (signed_by v.negative f)
    ∙ sym (near_whole w v.negative (v.odd * 2 ^ v.power) (odd_shl v.odd v.power v.is_odd) c.near_place-p.result n) ∙ ap (λ (x : Format). word_bits (whole_word w (nearest_in x (worth v)))) (sym c.requires))
    c.near_place-p.ensures.changes
