-- `cards::put_cards` meets its contract. Assumes nothing.
use Rattle.std.proofs.Common.{rules, ◌≡◌, ℕ, ◌*◌, ◌/◌, ◌≤◌, ◌<◌, List, [], map, length, get_or, ap, ◌∙◌, drop_of_length-le, eq-eqb, arith}
use Rattle.std.proofs.lemmas.List.{length-take, get_or-take}
use Rattle.numbers.proofs.Filling.{finish}
use Rattle.cards.specs.Cards.{card_bytes, blank, cards_put}
use Rattle.cards.proofs.EightLaws.{word_at, word_put}
use Rattle.cards.proofs.put_cards.Goals as goal

pub loop-i-preserved : goal.loop-i-preserved
loop-i-preserved c =
    let s = c.args.cards.now in
    let l = c.loop-i in
    let words = c.as_chunks.ensures in
    let some : l.i < length s / 8 = omega (arith, length-take {A = List ℕ}, words.front_len) in
    let taken : c.blanked.result ≡ map blank (get_or c.as_chunks.result.0.now l.i []) = c.blanked.ensures ∙ ap (map blank) (search (rules, get_or-take, c.loop-i-test.true)) in
    let word = ap (λ (w : List (List ℕ)). map blank (get_or w l.i [])) words.front ∙ ap (map blank) (word_at (length s / 8) l.i s some) in
    word_put s l.out l.i (omega (arith, some)) l.invariant (c.copy_from_slice.ensures.after ∙ taken ∙ word)

pub returns : goal.returns
unfolding cards_put
returns c =
    let a = c.args in
    let l = c.loop-i in
    let cards = c.if-cards-ne3200.false in
    let past : length a.cards.now ≤ 8 * l.i = omega (arith, length-take {A = List ℕ}, c.as_chunks.ensures.front_len, cards) in
    rw (eq-eqb (length a.cards.now) card_bytes cards, eq-eqb (length a.out.now) card_bytes c.if-out-ne3200.false)
    (finish l.invariant (ap (map blank) (drop_of_length-le a.cards.now past)))

pub slice_bounds-copy_from_slice-end : goal.slice_bounds-copy_from_slice-end
slice_bounds-copy_from_slice-end c = omega (arith, length-take {A = List ℕ}, c.as_chunks.ensures.front_len)
