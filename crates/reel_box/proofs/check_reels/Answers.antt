-- `reel_box::check_reels` meets its contract. Assumes nothing.
use Rattle.std.proofs.Common.{◌≡◌, ℕ, ◌+◌, ◌≤◌, List, [], ◌∷◌, length, get_or, drop, rules, sym, ap, ◌∙◌, arith}
use lib.ListN.{drop_of_length-le}
use Rattle.numbers.specs.Cause.{Fine, cause_no}
use Rattle.numbers.specs.Outcome.{taken, refused}
use Rattle.numbers.specs.Places.{place_no}
use Rattle.numbers.proofs.WalkLaws.{drop_next}
use Rattle.reel_box.specs.Box.{at_first, reels_checks, traces_from, box_found}
use Rattle.reel_box.specs.Answer.{box_said}
use Rattle.reel_box.proofs.BoxLaws.{sum_drop}
use Rattle.reel_box.proofs.StepLaws.{goes_on, stops, own_fine, lies, reels_next, reels_stop, reels_none}
use Rattle.reel_box.proofs.check_reels.Goals as goal

pub returns-in_err-next : goal.returns-in_err-next
returns-in_err-next c =
    let l = c.loop-l in
    let s = c.args.s.now in
    let ls = c.args.lengths.now in
    let m = get_or ls l.l-index 0 in
    let r = c.in_err-next.field-0.0 in
    let q : box_said c.from_residual.result ≡ refused (cause_no r.cause) (place_no r.place) = search rules in
    let d = drop_next ls l.l-index c.loop-l-test.true in
    q ∙ sym (ap (box_found s ls) (l.invariant.fine ∙ ap (λ (q : List ℕ). reels_checks s q l.at l.expected) d
    ∙ reels_stop s l.at m l.expected (drop (l.l-index + 1) ls) (stops s l.at m l.expected (sym c.in_err-next.ensures))))

pub loop-l-preserved : goal.loop-l-preserved
loop-l-preserved c =
    let l = c.loop-l in
    let s = c.args.s.now in
    let ls = c.args.lengths.now in
    let m = get_or ls l.l-index 0 in
    let rest = drop (l.l-index + 1) ls in
    let d = drop_next ls l.l-index c.loop-l-test.true in
    let e = sum_drop ls l.l-index c.loop-l-test.true in
    let room : l.at + m ≤ length s = omega (arith, e, l.invariant.room) in
    let g = goes_on s l.at m l.expected (sym c.in_ok-next.ensures) in
    record {
      room = omega (arith, e, l.invariant.room);
      few = omega (arith, l.invariant.few, g.count, (lies s l.at m room (own_fine s l.at m l.expected g.checks)).few);
      fine =
          l.invariant.fine ∙ ap (λ (q : List ℕ). reels_checks s q l.at l.expected) d ∙ reels_next s l.at m l.expected rest g.checks
          ∙ ap (reels_checks s rest (l.at + m)) (sym g.state);
      counted = omega (arith, l.invariant.counted, ap (λ (q : List ℕ). traces_from s q l.at) d, g.count);
    }

pub returns : goal.returns
returns c =
    let l = c.loop-l in
    let s = c.args.s.now in
    let ls = c.args.lengths.now in
    let e : drop l.l-index ls ≡ [] = drop_of_length-le ls c.loop-l-test.false in
    let f : reels_checks s ls 0 at_first ≡ Fine = l.invariant.fine ∙ ap (λ (q : List ℕ). reels_checks s q l.at l.expected) e ∙ reels_none s l.at l.expected in
    let t : l.traces ≡ traces_from s ls 0 = omega (arith, l.invariant.counted, ap (λ (q : List ℕ). traces_from s q l.at) e) in
    ap (λ (x : ℕ). taken (length ls ∷ x ∷ [])) t ∙ sym (ap (box_found s ls) f)
