-- A listing and its text, byte by byte, and the way there and back. Assumes nothing.
use mathlib.Core.Path.{◌≡◌, refl, sym, ap, subst, ◌∙◌}
use mathlib.Core.List.{List, [], ◌∷◌, ◌++◌, map, append-nil}
use Prim.Native.Nat.{ℕ, zero, suc, ◌+◌, ◌*◌, ◌<◌}
use native.Mathlib.Nat.{not-suc-le-zero}
use native.Mathlib.Omega.{arith}
use lib.ListN.{length, get_or, drop, length-map}
use lib.Seq.{take_all}
use Rattle.numbers.specs.Walk.{walk, flat, bytes_at}
use Rattle.numbers.specs.Terms.{All, Bytes}
use Rattle.numbers.specs.Cause.{Fine}
use Rattle.numbers.proofs.WalkLaws.{cons_eq, at_zero, at_suc, walk_same, walk_at, map_walk, all_take, all_drop, all_at, split, size_bytes, bytes_part}
use Rattle.numbers.proofs.ByteLaws.{bytes_append, bytes_at_lem}
use Rattle.numbers.proofs.AllLaws.{all_map, all_flat}
use Rattle.cards.proofs.EightLaws.{blank_some}
use Rattle.reel.specs.Layout.{card_bytes}
use Rattle.reel.specs.Meaning.{blank}
use Rattle.code_page.specs.Page.{char_of, code_in, OneToOne}
use Rattle.listing.specs.Listing.{card_count, card_length, line_length, line_feed, line_starts, card_line, listing_of, card_byte, card_of, text_of, listing_causes}
use Rattle.listing.proofs.ListingLaws.{size_line, size_listing, size_card, kept}
use Rattle.demands.proofs.From.{From, from_start, from_parts, from_next, from_bytes}
use Rattle.demands.proofs.Pieces.{walk_again}
use Rattle.listing_theorems.proofs.Refusals.{right_fine}

-- ## Parts of one length, one behind the other

-- In a list that has k parts from the offset p on, what g gives along a walk in m bytes each, part j is what g gives at step j.
part_from : (s : List ℕ) (g : ℕ → List ℕ) (w m : ℕ) → ((a : ℕ) → length (g a) ≡ m)
    → (k at p : ℕ) (rest : List ℕ) → From s p (flat (map g (walk (λ a. a) w k at)) ++ rest) → (j : ℕ) → j < k → bytes_at s (p + j * m) m ≡ g (at + j * w)
part_from s g w m size zero at p rest f j l = absurd (not-suc-le-zero l)
part_from s g w m size (suc k) at p rest f zero l =
    let e = from_parts (g at) (flat (map g (walk (λ a. a) w k (at + w)))) rest f in
    ap (λ (x : ℕ). bytes_at s x m) (at_zero p m) ∙ from_bytes (g at) (flat (map g (walk (λ a. a) w k (at + w))) ++ rest) m (size at) e ∙ ap g (sym (at_zero at w))
part_from s g w m size (suc k) at p rest f (suc j) l =
    let e = from_parts (g at) (flat (map g (walk (λ a. a) w k (at + w)))) rest f in
    let next = from_next (g at) (flat (map g (walk (λ a. a) w k (at + w))) ++ rest) m (size at) e in
    ap (λ (x : ℕ). bytes_at s x m) (at_suc p m j) ∙ part_from s g w m size k (at + w) (p + m) rest next j (omega arith) ∙ ap g (sym (at_suc at w j))

-- The same of a list that is those parts.
part_at : (g : ℕ → List ℕ) (w m k : ℕ) → ((a : ℕ) → length (g a) ≡ m)
    → (j : ℕ) → j < k → bytes_at (flat (map g (walk (λ a. a) w k 0))) (j * m) m ≡ g (j * w)
part_at g w m k size j l =
    let s = flat (map g (walk (λ a. a) w k 0)) in
    let a : 0 + j * m ≡ j * m = omega arith in
    let b : 0 + j * w ≡ j * w = omega arith in
    ap (λ (x : ℕ). bytes_at s x m) (sym a) ∙ part_from s g w m size k 0 0 [] (subst (From s 0) (sym (append-nil s)) (from_start s)) j l ∙ ap g b

-- Byte i of k bytes, and the same through a function of each.
pub byte_of : (s : List ℕ) (p k i : ℕ) → i < k → get_or (bytes_at s p k) i 0 ≡ get_or s (p + i) 0
unfolding bytes_at
byte_of s p k i l =
    let e : p + i * 1 ≡ p + i = omega arith in
    walk_at 0 (λ a. get_or s a 0) 1 k p i l ∙ ap (λ (x : ℕ). get_or s x 0) e

mapped_of : (f : ℕ → ℕ) (s : List ℕ) (p k i : ℕ) → i < k → get_or (map f (bytes_at s p k)) i 0 ≡ f (get_or s (p + i) 0)
unfolding bytes_at
mapped_of f s p k i l =
    let e : p + i * 1 ≡ p + i = omega arith in
    ap (λ (x : List ℕ). get_or x i 0) (map_walk f (λ a. get_or s a 0) 1 k p) ∙ walk_at 0 (λ a. f (get_or s a 0)) 1 k p i l ∙ ap (λ (x : ℕ). f (get_or s x 0)) e

-- ## A listing, line by line

module _ (t text : List ℕ) where
  -- Line j of a listing.
  line_at : (j : ℕ) → j < 40 → bytes_at (listing_of t text) (j * 81) 81 ≡ card_line t text (j * 80)
  unfolding listing_of
  line_at j l = part_at (card_line t text) card_length line_length card_count (size_line t text) j l

  -- Its 80 characters, and the line feed behind them.
  line_parts : (j : ℕ) → j < 40
      → (bytes_at (listing_of t text) (j * 81) 80 ≡ map (char_of t) (bytes_at text (j * 80) 80)) × (bytes_at (listing_of t text) (j * 81 + 80) 1 ≡ line_feed ∷ [])
  unfolding card_line
  line_parts j l =
      let whole = listing_of t text in
      let chars = map (char_of t) (bytes_at text (j * 80) 80) in
      split (bytes_at whole (j * 81) 80) chars (bytes_at whole (j * 81 + 80) 1) (line_feed ∷ [])
      (size_bytes whole (j * 81) 80 ∙ sym (length-map (bytes_at text (j * 80) 80) (char_of t) ∙ size_bytes text (j * 80) 80))
      (sym (bytes_append whole (j * 81) 80 1) ∙ line_at j l)

  -- Character i of line j, and the 81st byte.
  pub char_at : (j i : ℕ) → j < 40 → i < 80 → get_or (listing_of t text) (j * 81 + i) 0 ≡ char_of t (get_or text (j * 80 + i) 0)
  char_at j i l m =
      sym (byte_of (listing_of t text) (j * 81) 80 i m) ∙ ap (λ (x : List ℕ). get_or x i 0) (line_parts j l).0 ∙ mapped_of (char_of t) text (j * 80) 80 i m

  pub feed_at : (j : ℕ) → j < 40 → get_or (listing_of t text) (j * 81 + 80) 0 ≡ line_feed
  unfolding bytes_at
  feed_at j l = ap (λ (x : List ℕ). get_or x 0 0) (line_parts j l).1

  -- A listing has the right form.
  pub listing_fine : listing_causes (listing_of t text) ≡ Fine
  listing_fine =
      right_fine (listing_of t text)
      (record {
        size = size_listing t text;
        closed = feed_at;
      })

-- ## The text of a listing, card by card

module _ (t listing : List ℕ) where
  -- Byte i of card j.
  pub byte_at_lem : (j i : ℕ) → j < 40 → i < 80 → get_or (text_of t listing) (j * 80 + i) 0 ≡ card_byte t (get_or listing (j * 81 + i) 0)
  unfolding text_of card_of
  byte_at_lem j i l m =
      sym (byte_of (text_of t listing) (j * 80) 80 i m)
      ∙ ap (λ (x : List ℕ). get_or x i 0) (part_at (card_of t listing) line_length card_length card_count (size_card (card_byte t) listing) j l)
      ∙ mapped_of (card_byte t) listing (j * 81) 80 i m

-- So each byte of the text of a listing, by a table that takes the 256 codes to the 256 characters one to one.
pub text_some : (t listing : List ℕ) → OneToOne t → Bytes listing → All (λ b. (0 < b) × (b < 256)) (text_of t listing)
unfolding text_of card_of
text_some t listing o h =
    all_flat (λ b. (0 < b) × (b < 256)) (card_of t listing) (λ p. Unit {0})
    (λ p u. all_map (λ c. c < 256) (λ b. (0 < b) × (b < 256)) (card_byte t) (λ c l. blank_some (code_in t c) (o.code c l)) (bytes_at listing p card_length) (bytes_at_lem listing h p card_length))
    line_starts (all_at (λ p. Unit {0}) (λ p. p) (λ p. tt) line_length card_count 0)

-- ## There and back

-- The card byte of a card byte's character is that card byte, where it isn't 00.
byte_back : (t : List ℕ) → OneToOne t → (b : ℕ) → 0 < b → b < 256 → card_byte t (char_of t b) ≡ b
byte_back t o b p h = ap blank (o.code_again b h) ∙ kept b (λ e. some e)
  where
    some : b ≡ 0 → ⊥
    some e = omega arith

bytes_back : (t : List ℕ) → OneToOne t → (l : List ℕ) → All (λ b. (0 < b) × (b < 256)) l → map (card_byte t) (map (char_of t) l) ≡ l
bytes_back t o [] h = refl
bytes_back t o (b ∷ l) h = cons_eq (byte_back t o b h.0.0 h.0.1) (bytes_back t o l h.1)

-- The text of a text's listing is that text, where no byte of it is 00.
pub text_back : (t : List ℕ) → OneToOne t → (text : List ℕ) → length text ≡ card_bytes → All (λ b. (0 < b) × (b < 256)) text
    → text_of t (listing_of t text) ≡ text
unfolding text_of card_of
text_back t o text n h =
    ap flat
    (map_walk (card_of t (listing_of t text)) (λ p. p) line_length card_count 0
    ∙ walk_same (card_of t (listing_of t text)) card line_length card_length card_count 0 0 same
    ∙ sym (map_walk card (λ p. p) card_length card_count 0))
    ∙ walk_again card (λ p. p) text card_length card_count 0 (λ j l. refl)
    ∙ sym (bytes_part text 0 card_bytes (omega (arith, n)))
    ∙ take_all card_bytes text (omega (arith, n))
  where
    card : ℕ → List ℕ
    card p = bytes_at text p card_length

    same : (j : ℕ) → j < card_count → card_of t (listing_of t text) (0 + j * line_length) ≡ card (0 + j * card_length)
    same j l =
        let a : 0 + j * line_length ≡ j * 81 = omega arith in
        let b : j * 80 ≡ 0 + j * card_length = omega arith in
        let P : ℕ → Type 0 = λ b. (0 < b) × (b < 256) in
        let some = subst (All P) (bytes_part text (j * 80) 80 (omega (arith, l, n))) (all_take P 80 (drop (j * 80) text) (all_drop P (j * 80) text h)) in
        ap (card_of t (listing_of t text)) a
        ∙ (ap (map (card_byte t)) (line_parts t text j l).0 ∙ bytes_back t o (bytes_at text (j * 80) 80) some)
        ∙ ap card b
