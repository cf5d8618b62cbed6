-- `value::parts::Odd::whole_word` meets its contract. Assumes nothing.
use Rattle.formats.proofs.FitLaws.{placed_low}
use Rattle.formats.proofs.PlacedLaws.{placed_is}
use Rattle.formats.specs.Codes.{whole_format}
use Rattle.formats.specs.Format.{placed}
use Rattle.formats.specs.Words.{whole_of}
use Rattle.formats.specs.declared.Format.{Format}
use Rattle.numbers.specs.SignMagnitude.{is_negative}
use Rattle.numbers.specs.Walk.{pick}
use Rattle.value.specs.Parts.{sample_bits, worth}
use Rattle.value.proofs.PlaceLaws.{fraction_some, odd_sign, signed_some}
use Rattle.std.proofs.Common.{◌≡◌, ◌+◌, ◌-◌, ◌^◌, ◌<◌, Bool, Some, sym, ap, subst, ◌∙◌}
use Rattle.std.specs.Result.{result_ok}
use Rattle.value.proofs.parts.Odd.whole_word.Goals as goal

pub returns-then-self-lt-DENOMINATOR_POWER : goal.returns-then-self-lt-DENOMINATOR_POWER
returns-then-self-lt-DENOMINATOR_POWER c =
    let v = c.args.self in
    sym (ap (whole_of (sample_bits c.args.code) (is_negative (worth v))) (placed_low (whole_format (sample_bits c.args.code)) v.negative v.odd v.power v.is_odd c.if-self-lt-DENOMINATOR_POWER.true))

pub complement-requires : goal.complement-requires
complement-requires c =
    let v = c.args.self in
    let w = sample_bits c.args.code in
    let at : placed (whole_format w) (worth v) ≡ Some c.in_ok-p.p =
    ap (λ (x : Format). placed x (worth v)) (sym c.requires) ∙ sym c.place.ensures ∙ c.ok_or.ensures.ok_part ∙ ap result_ok (c.in_ok-p.was) in
    let p = placed_is (whole_format w) (worth v) _ _ at in
    let f = c.in_ok-p.p.fraction in (
      c.sample_bits.ensures.1,
      c.sample_bits.ensures.2,
      signed_some v.negative (fraction_some (whole_format w) v.negative v.odd v.power _ f v.is_odd p),
      rw c.sample_bits.ensures.0 (subst (λ (b : Bool). f < 2 ^ (w - 1) + pick b 1 0) (odd_sign v.negative v.odd v.power v.is_odd) p.fits),
    )
