-- `value::parts::Odd::near_place` meets its contract. Assumes nothing.
use Rattle.formats.proofs.CodeLaws.{code_no_is, code_sound}
use Rattle.formats.proofs.RoundLaws.{multiple_lifted}
use Rattle.formats.proofs.NearestLaws.{ShortDigits, code_rounds}
use Rattle.value.proofs.PlaceLaws.{shift_placed}
use Rattle.value.proofs.NearLaws.{near_end, near_exact, near_last, near_next, near_inner}
use Rattle.formats.specs.Codes.{code_no}
use Rattle.formats.specs.Format.{unit, beside}
use Rattle.formats.specs.Nearest.{nearest_multiple}
use Rattle.formats.specs.Steps.{Length}
use Rattle.formats.specs.declared.Format.{Format}
use Rattle.numbers.specs.Walk.{pick}
use Rattle.value.specs.Parts.{format, NearPlace}
use Rattle.value.specs.declared.parts.Odd.{Odd}
use Rattle.value.specs.declared.rounding.RoundedPlace.{RoundedPlace}
use Rattle.std.proofs.Common.{ℕ, ◌+◌, ◌-◌, ◌*◌, ◌^◌, ◌<◌, min, Bool, true, ◌&&◌, ◌≡◌, sym, ap, subst, ◌∙◌}
use native.Mathlib.Omega.{arith}
use Rattle.value.proofs.parts.Odd.near_place.Goals.{After-lowest-c, After-rounded_whole-f}
use Rattle.value.proofs.parts.Odd.near_place.Goals as goal

module _ (c : After-lowest-c) where
  abbrev v : Odd
  v = c.args.self

  abbrev x : Format
  x = format c.args.code

  length : Length (pick (x.more && v.negative) 1 0) v.odd c.length.result
  length = subst (λ (b : Bool). Length (pick b 1 0) v.odd c.length.result) c.one_more.ensures c.length.ensures.0

  rounds : ShortDigits x
  rounds = code_rounds (code_no c.args.code) (code_no_is c.args.code)

  -- the last characteristic
  end : c.format-x.result.characteristics - 1 ≡ x.characteristics - 1
  end = ap (λ (y : Format). y.characteristics - 1) c.format-x.ensures

  -- a place by its parts
  by : (r : RoundedPlace) (n f : ℕ) (b : Bool) → r ≡ record { place = beside n f; changed = b } → NearPlace x v.negative (v.odd * 2 ^ v.power) (record { place = beside n f; changed = b })
      → NearPlace x v.negative (v.odd * 2 ^ v.power) r
  by r n f b e p = subst (NearPlace x v.negative (v.odd * 2 ^ v.power)) (sym e) p

pub returns-then-end-c : goal.returns-then-end-c
returns-then-end-c c =
    let l = (goal.at.returns-then-end-c c).After-lowest-c in
    by l c.placed.result _ _ _ (c.placed.ensures ∙ ap (λ (n : ℕ). record { place = beside n c.most.result; changed = true }) (end l))
    (near_end (x l) (rounds l) (v l).negative (v l).odd (v l).power (v l).is_odd l.length.result (length l) l.lowest-c.result l.lowest-c.ensures (omega (arith, c.if-end-c.true, end l)) _ c.most.ensures)

pub shifted_up-requires : goal.shifted_up-requires
shifted_up-requires c =
    let l = (goal.at.shifted_up-requires c).After-lowest-c in
    let sound = code_sound (code_no l.args.code) (code_no_is l.args.code) in
    shift_placed (x l) (v l).negative (v l).odd (v l).power (v l).is_odd l.length.result (length l) l.lowest-c.result c.last_place-last.result sound.few c.last_place-last.ensures c.if-last-self.true (omega (arith, l.lowest-c.ensures.enough))

pub returns-then-last-self : goal.returns-then-last-self
returns-then-last-self c =
    let l = (goal.at.returns-then-last-self c).After-lowest-c in
    let p = c.last_place-last.ensures in
    by l c.placed-then-last-self.result _ _ _ c.placed-then-last-self.ensures
    (near_exact (x l) (rounds l) (v l).negative (v l).odd (v l).power (v l).is_odd l.length.result (length l) l.lowest-c.result l.lowest-c.ensures (omega (arith, c.if-end-c.false, (rounds l).some, end l)) (omega (arith, c.if-last-self.true, p)) _
    (c.shifted_up.ensures ∙ ap (λ (y : ℕ). (v l).odd * 2 ^ ((v l).power - y)) p))

-- the value is rounded to a whole number of last places
module _ (c : After-rounded_whole-f) where
  abbrev found : After-lowest-c
  found = (goal.at.After-rounded_whole-f c).After-lowest-c

  above : (v found).power < (x found).base + (x found).digit * found.lowest-c.result
  above = omega (arith, c.if-last-self.false, c.last_place-last.ensures)

  rounded : c.rounded_whole-f.result * unit (x found) found.lowest-c.result ≡ nearest_multiple (unit (x found) found.lowest-c.result) ((v found).odd * 2 ^ (v found).power)
  rounded =
      let o = (v found).odd in
      let k = (v found).power in
      multiple_lifted o k ((x found).base + (x found).digit * found.lowest-c.result) c.rounded_whole-f.result (omega (arith, above))
      (subst (λ (u : ℕ). c.rounded_whole-f.result * 2 ^ (u - k) ≡ nearest_multiple (2 ^ (u - k)) o) c.last_place-last.ensures c.rounded_whole-f.ensures)

pub returns-then-c-end : goal.returns-then-c-end
returns-then-c-end c =
    let r = (goal.at.returns-then-c-end c).After-rounded_whole-f in
    let l = found r in
    by l c.placed-then-c-end.result _ _ _ c.placed-then-c-end.ensures
    (near_last (x l) (rounds l) (v l).negative (v l).odd (v l).power (v l).is_odd l.length.result (length l) l.lowest-c.result l.lowest-c.ensures (above r) r.rounded_whole-f.result (rounded r) (omega (arith, c.if-c-end.true, end l)) _
    (c.min.ensures ∙ ap (min r.rounded_whole-f.result) c.most-then-c-end.ensures))

pub returns-then-f-two_to : goal.returns-then-f-two_to
returns-then-f-two_to c =
    let r = (goal.at.returns-then-f-two_to c).After-rounded_whole-f in
    let l = found r in
    let e = l.format-x.ensures in
    by l c.placed-then-f-two_to.result _ _ _ c.placed-then-f-two_to.ensures
    (near_next (x l) (rounds l) (v l).negative (v l).odd (v l).power (v l).is_odd l.length.result (length l) l.lowest-c.result l.lowest-c.ensures (above r) r.rounded_whole-f.result (rounded r) (omega (arith, c.if-c-end.false, r.if-end-c.false, end l))
    (c.if-f-two_to.true ∙ c.two_to.ensures.0 ∙ ap (λ (y : Format). 2 ^ y.fraction) e) _ (c.two_to-then-f-two_to.ensures.0 ∙ ap (λ (y : Format). 2 ^ (y.fraction - y.digit)) e))

pub returns : goal.returns
returns c =
    let r = (goal.at.returns c).After-rounded_whole-f in
    let l = found r in
    by l c.placed-2.result _ _ _ c.placed-2.ensures
    (near_inner (x l) (rounds l) (v l).negative (v l).odd (v l).power (v l).is_odd l.length.result (length l) l.lowest-c.result l.lowest-c.ensures (above r) r.rounded_whole-f.result (rounded r) (omega (arith, c.if-c-end.false, r.if-end-c.false, end l))
    (λ e. c.if-f-two_to.false (e ∙ sym (c.two_to.ensures.0 ∙ ap (λ (y : Format). 2 ^ y.fraction) l.format-x.ensures))))
