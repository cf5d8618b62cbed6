-- `cards::blanked` meets its contract. Assumes nothing.
use Rattle.std.proofs.Common.{rules, ◌≡◌, ℕ, ◌<◌, List, [], ◌∷◌, length, get_or, map, reverse, ap, ◌∙◌, arith}
use borrow.Author.Rules.{elem_Fits}
use mir.Syntax.{w8}
use Rattle.std.specs.Int.{w64, to_le_bytes}
use Rattle.numbers.specs.BigEndian.{number, bytes_of}
use Rattle.numbers.proofs.ByteLaws.{all_bytes}
use Rattle.numbers.proofs.LowFirst.{low_number64, low_bytes64}
use Rattle.cards.specs.Cards.{blank}
use Rattle.cards.proofs.EightLaws.{low_blanked}
use Rattle.cards.proofs.blanked.Goals as goal

-- eight bytes of a number, one by one
one_by_one : (r : List ℕ) (n : ℕ) → r ≡ to_le_bytes w64 n
    → get_or r 0 0 ∷ get_or r 1 0 ∷ get_or r 2 0 ∷ get_or r 3 0 ∷ get_or r 4 0 ∷ get_or r 5 0 ∷ get_or r 6 0 ∷ get_or r 7 0 ∷ [] ≡ r
one_by_one r n e = rw e (λ i. to_le_bytes w64 n)

pub returns : goal.returns
returns c =
    let l = c.args.cards in
    let size : length l ≡ 8 = search rules in
    let small : (i : ℕ) → get_or l i 0 < 256 = λ i. (elem_Fits w8 w8 l c.well_formed.0.0 i c.well_formed.0.1.1 record {}).fits in
    let word = c.from_le_bytes.ensures ∙ low_number64 l size in
    search (rules, one_by_one _ _ c.to_le_bytes.ensures) ∙ c.to_le_bytes.ensures ∙ low_bytes64 _
    ∙ ap (λ (w : ℕ). reverse (bytes_of 8 w)) (omega arith ∙ c.blank_eight-word.ensures ∙ ap (λ (x : ℕ). number (map blank (bytes_of 8 x))) word)
    ∙ low_blanked l size (all_bytes l small)
