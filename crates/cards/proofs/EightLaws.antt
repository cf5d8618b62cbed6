-- Eight card bytes as one number with the first byte lowest: their blanks, and whether one is 00. Assumes nothing.
use Prim.Native.Nat.{ℕ, zero, suc, ◌+◌, ◌*◌, ◌-◌, ◌≤◌, ◌<◌}
use mathlib.Core.Path.{◌≡◌, refl, sym, ap, subst, ◌∙◌}
use mathlib.Core.Bool.{Bool, true, false, not, ◌&&◌, ◌||◌}
use mathlib.Core.List.{List, [], ◌∷◌, ◌++◌, map, map-append, reverse, reverse_aux, reverse-reverse}
use native.Mathlib.Omega.{arith}
use borrow.Rule.Slice.PartMut.{put_mid}
use borrow.Author.Tests.{eq-eqb, ne_eqb}
use lib.Dec.{eqb}
use lib.ListN.{length, get_or, take, drop, length-map, length-drop, length-reverse, take-append-drop}
use lib.Seq.{drop-drop}
use Rattle.std.proofs.Common.{length-take-le}
use Rattle.std.specs.List.{list_any}
use Rattle.std.specs.Simd.{first_chunks}
use Rattle.numbers.specs.BigEndian.{number, bytes_of}
use Rattle.numbers.specs.Terms.{All, Bytes}
use Rattle.numbers.proofs.AllLaws.{all_map}
use Rattle.numbers.proofs.BoolLaws.{and_true}
use Rattle.numbers.proofs.ByteLaws.{bytes_number}
use Rattle.numbers.proofs.Filling.{Filling, again, lend}
use Rattle.cards.specs.Cards.{card_bytes, blank, no_zero, is_card_text, cards_put}

-- ## Lists

-- What holds of each element holds of each of the reversed list, and a function of each element is taken before or after.
all_aux : {A : Type 0} (P : A → Type 0) (l r : List A) → All P l → All P r → All P (reverse_aux l r)
all_aux P [] r p q = q
all_aux P (x ∷ l) r p q = all_aux P l (x ∷ r) p.1 (p.0, q)

map_aux : {A B : Type 0} (f : A → B) (l r : List A) → map f (reverse_aux l r) ≡ reverse_aux (map f l) (map f r)
map_aux f [] r = refl
map_aux f (x ∷ l) r = map_aux f l (x ∷ r)

-- A word of a slice's words of eight is the eight bytes from its place on.
pub word_at : (k i : ℕ) (l : List ℕ) → i < k → get_or (first_chunks 8 k l) i [] ≡ take 8 (drop (8 * i) l)
word_at zero i l h = absurd (omega arith)
word_at (suc k) zero l h = refl
word_at (suc k) (suc i) l h =
    let n : 8 + 8 * i ≡ 8 * suc i = omega arith in
    word_at k i (drop 8 l) (omega arith) ∙ ap (take 8) (drop-drop (8 * i) 8 l ∙ ap (λ (m : ℕ). drop m l) n)

-- The elements from `at` on are the next n, and then those behind them.
next_part : {A : Type 0} (l : List A) (at n : ℕ) → drop at l ≡ take n (drop at l) ++ drop (at + n) l
next_part l at n = sym (take-append-drop n (drop at l)) ∙ ap (λ r. take n (drop at l) ++ r) (drop-drop n at l)

-- ## Blanks

-- A card byte as it is taken is a byte other than 00.
pub blank_some : (b : ℕ) → b < 256 → (0 < blank b) × (blank b < 256)
blank_some zero h = (omega arith, omega arith)
blank_some (suc b) h = rw (ne_eqb (suc b) 0 no) (omega arith, h)
  where
    no : suc b ≡ 0 → ⊥
    no e = omega arith

pub blank_bytes : (l : List ℕ) → Bytes l → Bytes (map blank l)
blank_bytes = all_map (λ b. b < 256) (λ b. b < 256) blank (λ b h. (blank_some b h).1)

-- The bytes of eight in one number.
pub word_bytes : (l : List ℕ) → length l ≡ 8 → Bytes l → bytes_of 8 (number l) ≡ l
word_bytes l n p = ap (λ (k : ℕ). bytes_of k (number l)) (sym n) ∙ bytes_number l p

pub low_bytes : (l : List ℕ) → length l ≡ 8 → Bytes l → bytes_of 8 (number (reverse l)) ≡ reverse l
low_bytes l n p = word_bytes (reverse l) (length-reverse l ∙ n) (all_aux (λ b. b < 256) l [] p tt)

-- The bytes of the blanked number, its lowest first, are the blanks of those bytes.
pub low_blanked : (l : List ℕ) → length l ≡ 8 → Bytes l → reverse (bytes_of 8 (number (map blank (bytes_of 8 (number (reverse l)))))) ≡ map blank l
low_blanked l n p =
    ap (λ (b : List ℕ). reverse (bytes_of 8 (number (map blank b)))) (low_bytes l n p)
    ∙ ap reverse (word_bytes (map blank (reverse l)) (length-map (reverse l) blank ∙ length-reverse l ∙ n) (blank_bytes (reverse l) (all_aux (λ b. b < 256) l [] p tt)))
    ∙ ap reverse (map_aux blank l []) ∙ reverse-reverse (map blank l)

-- ## No byte is 00

-- No byte is 00 where the list doesn't contain one.
pub contains_none : (l : List ℕ) → not (list_any (λ b. eqb b 0) l) ≡ no_zero l
contains_none [] = refl
contains_none (b ∷ l) = not_or (eqb b 0) (list_any (λ x. eqb x 0) l) ∙ ap (λ (t : Bool). not (eqb b 0) && t) (contains_none l)
  where
    not_or : (s t : Bool) → not (s || t) ≡ not s && not t
    not_or true t = refl
    not_or false t = refl

-- ## Card bytes

-- One turn of the loop that puts the words of card bytes: word i, blanked, in its place.
pub word_put : (s out : List ℕ) (i : ℕ) {ys : List ℕ} → 8 * i + 8 ≤ length s → Filling (map blank s) out (8 * i) (map blank (drop (8 * i) s))
    → ys ≡ map blank (take 8 (drop (8 * i) s)) → Filling (map blank s) (put_mid (8 * i) (8 * i + 8 - 8 * i) out ys) (8 * (i + 1)) (map blank (drop (8 * (i + 1)) s))
word_put s out i {ys} within w is =
    let at = 8 * i in
    let part = take 8 (drop at s) in
    let size : length part ≡ 8 = length-take-le 8 (drop at s) (rw length-drop (omega arith)) in
    let rest = ap (map blank) (next_part s at 8) ∙ map-append blank part (drop (at + 8) s) in
    let next : at + 8 ≡ 8 * (i + 1) = omega arith in
    let put = lend (map blank part) (map blank (drop (at + 8) s)) (at + 8) (again w rest) (omega arith) (length-map part blank ∙ size ∙ omega arith) is in
    let P : ℕ → Type 0 = λ x. Filling (map blank s) (put_mid at (at + 8 - at) out ys) x (map blank (drop x s)) in
    subst P next put

-- Card bytes put into a slice, where both are of 3,200 bytes.
pub cards_put_lem : (cards out : List ℕ) {ys : List ℕ} → ys ≡ cards_put cards out → length cards ≡ card_bytes → length out ≡ card_bytes → ys ≡ map blank cards
unfolding cards_put
cards_put_lem cards out p n m = p ∙ rw (eq-eqb (length cards) card_bytes n, eq-eqb (length out) card_bytes m)

-- In a card text no byte is 00.
pub text_none : (cards : List ℕ) → is_card_text cards ≡ true → no_zero cards ≡ true
unfolding is_card_text
text_none cards e = (and_true (eqb (length cards) card_bytes) (no_zero cards) e).1
