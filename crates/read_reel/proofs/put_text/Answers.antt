-- `read_reel::put_text` meets its contract. Assumes nothing.
use Rattle.read_reel.proofs.CopiedLaws.{checks_blank}
use Rattle.reel.specs.Layout.{card_bytes}
use Rattle.reel.specs.Meaning.{blank, card_text_by}
use Rattle.reel.specs.declared.Layout.{Layout}
use Rattle.cards.proofs.EightLaws.{cards_put_lem}
use Rattle.numbers.proofs.WalkLaws.{bytes_between}
use Rattle.numbers.specs.Walk.{bytes_at, overwritten}
use Rattle.numbers.specs.BigEndian.{bytes_of}
use mathlib.Core.List.{List, map}
use Prim.Native.Nat.{ℕ}
use mathlib.Core.Path.{◌≡◌, refl, sym, ap, ◌∙◌}
use native.Mathlib.Omega.{arith}
use Rattle.read_reel.proofs.put_text.Goals.{After-put_cards}
use Rattle.read_reel.proofs.put_text.Goals as goal

-- the card bytes as they were put first, each by the rule for one
put : (c : After-put_cards) → c.put_cards.new.out ≡ map blank (bytes_at c.args.reel.now 0 card_bytes)
put c =
    let s = c in
    cards_put_lem _ _ c.put_cards.ensures (omega arith) s.requires.1
    ∙ ap (map blank) (bytes_between s.args.reel.now 0 3200 3200 (omega (arith, s.requires.0)) refl)

pub returns-in-Plain : goal.returns-in-Plain
unfolding card_text_by
returns-in-Plain c =
    let b = (goal.at.returns-in-Plain c).After-put_cards in
    put b ∙ ap (λ (k : Layout). card_text_by k b.args.reel.now) (sym c.in-Plain.is)

pub returns-in-Eagle : goal.returns-in-Eagle
returns-in-Eagle c =
    let o = c in
    let e = c in
    let b = (goal.at.returns-in-Eagle c).After-put_cards in
    let s = b.args.reel.now in
    o.put_over.ensures ∙ ap (λ (l : List ℕ). overwritten l 3198 (bytes_of 2 0x4040)) (put b) ∙ checks_blank s
    ∙ ap (λ (k : Layout). card_text_by k s) (sym e.in-Eagle.is)
