-- `write_reel::put_checked` meets its contract. Assumes nothing.
use Rattle.record.specs.Form.{form_causes}
use Rattle.record.proofs.JudgedLaws.{Own, own}
use Rattle.write_reel.proofs.WriteLaws.{Fit, fit, short_end, taken_end}
use Rattle.reel.specs.Layout.{first_trace, stride}
use Rattle.formats.specs.Codes.{code_no, CodeOf, sample_bytes}
use Rattle.write_reel.specs.Copied.{traces_changed_at, reel_copied}
use lib.Seq.{length-take-le}
use Prim.Native.Nat.{ℕ, ◌+◌, ◌*◌, ◌≤◌}
use mathlib.Core.Path.{◌≡◌, sym, ap, subst, ◌∙◌}
use native.Mathlib.Omega.{arith}
use Rattle.write_reel.proofs.put_checked.Given.{Over}
use Rattle.write_reel.proofs.put_checked.Goals.{After-width-width, After-unwrap-code, Start}
use Rattle.write_reel.proofs.put_checked.Goals as goal

owns : (g : Over) (c : Start g) → let a = c.args in Own a.«record».now (form_causes a.«record».now) a.own.samples a.own.traces
owns g c = let a = c.args in own a.«record».now (form_causes a.«record».now) c.requires.1

fits : (g : Over) (c : Start g) → let a = c.args in Fit a.«record».now a.code a.own.samples a.own.traces
fits g c = let a = c.args in fit a.«record».now a.code a.own.samples a.own.traces c.requires.0 (owns g (goal.at.Start g c).Start)

-- the code has that number
numbered : (g : Over) (c : After-unwrap-code g) → code_no c.unwrap-code.result ≡ c.args.code
numbered g c = subst (CodeOf c.args.code) c.unwrap-code.ensures c.of.ensures

-- its bytes of a sample
width_is : (g : Over) (c : After-width-width g) → c.width-width.result ≡ sample_bytes c.args.code
width_is g c = c.width-width.ensures.0 ∙ ap sample_bytes (numbered g (goal.at.After-width-width g c).After-unwrap-code)

-- a trace's bytes on the reel, and the reel's length
wide : (g : Over) (c : After-width-width g) → 240 + c.args.own.samples * c.width-width.result ≤ 131308
wide g c = subst (λ (v : ℕ). 240 + c.args.own.samples * v ≤ 131308) (sym (width_is g c)) (fits g (goal.at.After-width-width g c).Start).wide

most : (g : Over) (c : After-width-width g) → c.args.own.traces * (240 + c.args.own.samples * c.width-width.result) ≤ 100000 * 131308
most g c = subst (λ (v : ℕ). c.args.own.traces * (240 + c.args.own.samples * v) ≤ 100000 * 131308) (sym (width_is g c)) (fits g (goal.at.After-width-width g c).Start).size

size : (g : Over) (c : After-width-width g) → let a = c.args in 3600 + a.own.traces * (240 + a.own.samples * c.width-width.result) ≡ first_trace + a.own.traces * stride a.own.samples (sample_bytes a.code)
size g c = let a = c.args in ap (λ (v : ℕ). 3600 + a.own.traces * (240 + a.own.samples * v)) (width_is g c)

pub overflow_mul-size : goal.overflow_mul-size
overflow_mul-size g c = omega (arith, wide g (goal.at.overflow_mul-size g c).After-width-width)

pub overflow_add-size : goal.overflow_add-size
overflow_add-size g c = omega (arith, wide g (goal.at.overflow_add-size g c).After-width-width)

pub overflow_mul-length : goal.overflow_mul-length
overflow_mul-length g c = omega (arith, most g (goal.at.overflow_mul-length g c).After-width-width)

pub overflow_add-length : goal.overflow_add-length
overflow_add-length g c = omega (arith, most g (goal.at.overflow_add-length g c).After-width-width)

pub returns-then-reel-length : goal.returns-then-reel-length
returns-then-reel-length g c =
    let a = c.args in
    short_end g.W.Way.near a.«record».now a.code a.own.samples a.own.traces a.reel.now (3600 + a.own.traces * (240 + a.own.samples * c.width-width.result)) (size g (goal.at.returns-then-reel-length g c).After-width-width) c.if-reel-length.true

pub overflow_cast-target : goal.overflow_cast-target
overflow_cast-target g c = omega (arith, (fits g (goal.at.overflow_cast-target g c).Start).n_high)

pub put_reel-count-requires : goal.put_reel-count-requires
put_reel-count-requires g c =
    let a = c.args in
    let f = fits g (goal.at.put_reel-count-requires g c).Start in
    (f.front, f.room, length-take-le (3600 + a.own.traces * (240 + a.own.samples * c.width-width.result)) a.reel.now c.if-reel-length.false)

pub returns : goal.returns
returns g c =
    let a = c.args in
    let k = numbered g (goal.at.returns g c).After-unwrap-code in
    taken_end g.W.Way.near a.«record».now a.code a.own.samples a.own.traces a.reel.now (3600 + a.own.traces * (240 + a.own.samples * c.width-width.result)) (size g (goal.at.returns g c).After-width-width) _ _
    (c.put_reel-count.ensures.0 ∙ ap (λ (x : ℕ). traces_changed_at g.W.Way.near a.«record».now x a.own.samples a.own.traces 0) k)
    (c.put_reel-count.ensures.1 ∙ ap (λ (x : ℕ). reel_copied g.W.Way.near a.«record».now x a.own.samples a.own.traces) k) c.if-reel-length.false
