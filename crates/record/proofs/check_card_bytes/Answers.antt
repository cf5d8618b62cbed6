-- `record::check_card_bytes` meets its contract. Assumes nothing.
use Rattle.std.proofs.Common.{eq-eqb, ne_eqb, get_or, ◌+◌, ◌*◌, ℕ, ◌≡◌, List, sym, ap, ◌∙◌, refl, arith}
use Rattle.numbers.proofs.CauseLaws.{none_more, none_stop, none_left}
use Rattle.numbers.specs.Cause.{Check, Fine, Refused}
use Rattle.record.specs.Form.{card_cause}
use Rattle.record.proofs.check_card_bytes.Goals as goal

-- the card byte at an index
at_index : (i : ℕ) → 3 + i * 1 ≡ 3 + i
at_index i = omega arith

zero_there : (s : List ℕ) (at : ℕ) → get_or s at 0 ≡ 0 → card_cause s at ≡ Refused 13 (record { 0 = at })
zero_there s at e = rw (eq-eqb (get_or s at 0) 0 e) refl

none_there : (s : List ℕ) (at : ℕ) → (get_or s at 0 ≡ 0 → ⊥) → card_cause s at ≡ Fine
none_there s at n = rw (ne_eqb (get_or s at 0) 0 n) refl

pub returns-then-record-at-eq0 : goal.returns-then-record-at-eq0
returns-then-record-at-eq0 c =
    let s = c.args.«record».now in
    let i = c.loop-i.i in
    none_stop (card_cause s) 1 3200 3 i c.loop-i-test.true c.loop-i.invariant (ap (card_cause s) (at_index i) ∙ zero_there s (3 + i) c.if-record-at-eq0.true)

pub loop-i-preserved : goal.loop-i-preserved
loop-i-preserved c =
    let s = c.args.«record».now in
    let i = c.loop-i.i in
    none_more (card_cause s) 1 3200 3 i c.loop-i-test.true c.loop-i.invariant (ap (card_cause s) (at_index i) ∙ none_there s (3 + i) c.if-record-at-eq0.false)

pub returns : goal.returns
returns c = none_left (card_cause c.args.«record».now) 1 3200 3 c.loop-i.i c.loop-i-test.false c.loop-i.invariant
