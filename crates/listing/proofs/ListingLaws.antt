-- The lengths of a listing and of its text, what a loop over its parts has written, and the table of card bytes that the way back uses. Assumes
-- nothing.
use Rattle.std.proofs.Common.{add-one, suc-mul, zero-mul, rules, replicate, length-take, ltb, Bool, true, false}
use borrow.Rule.Slice.PartMut.{put_mid}
use mathlib.Core.Path.{◌≡◌, refl, sym, ap, ap₂, ◌∙◌}
use mathlib.Core.List.{List, [], ◌∷◌, ◌++◌, map, append-nil}
use Prim.Native.Nat.{ℕ, zero, suc, ◌+◌, ◌-◌, ◌*◌, ◌≤◌, ◌<◌}
use native.Mathlib.Nat.{not-suc-le-zero}
use native.Mathlib.Omega.{arith}
use borrow.Author.Tests.{eq-eqb, ne_eqb}
use lib.Dec.{eqb}
use lib.ListN.{length, get_or, set, take, drop, length-append, length-map, length-drop}
use lib.Seq.{take_all}
use Rattle.numbers.specs.Walk.{pick, walk, flat, bytes_at, overwritten}
use Rattle.numbers.specs.First.{first}
use Rattle.numbers.specs.Terms.{All, Bytes}
use Rattle.numbers.proofs.WalkLaws.{cons_eq, walk_same, walk_at, map_walk, flat_length, flat_none, size_bytes, bytes_part}
use Rattle.numbers.proofs.AllLaws.{map_same}
use Rattle.numbers.proofs.ByteLaws.{bytes_at_lem}
use Rattle.numbers.proofs.FirstLaws.{found}
use Rattle.numbers.proofs.Filling.{Filling, start, again, left, finish, close, part_put}
use Rattle.numbers.proofs.Filling as Filling
use Rattle.reel.specs.Layout.{card_bytes}
use Rattle.reel.specs.Meaning.{blank}
use Rattle.record.specs.Form.{field_head, binary_place}
use Rattle.code_page.specs.Page.{char_of, code_in, inverse}
use Rattle.listing.specs.Listing.{card_count, card_length, line_length, listing_length, line_feed, card_line, listing_of, card_byte, card_of, text_of, with_text}
use Rattle.listing.specs.Parts.{entry_of, closing, part_by, parts_by, text_by}

-- ## Lengths

-- What a function gives of each of 80 bytes is 80 bytes.
pub size_card : (f : ℕ → ℕ) (s : List ℕ) (p : ℕ) → length (map f (bytes_at s p card_length)) ≡ card_length
size_card f s p = length-map (bytes_at s p card_length) f ∙ size_bytes s p card_length

-- A part has as many bytes as it is to have, and so have 40 of them.
pub size_part : (table : List ℕ) (size : ℕ) (s : List ℕ) → card_length + length (closing size) ≡ size → (p : ℕ) → length (part_by table size s p) ≡ size
unfolding part_by
size_part table size s h p =
    length-append (map (entry_of table) (bytes_at s p card_length)) (closing size)
    ∙ ap (λ (n : ℕ). n + length (closing size)) (size_card (entry_of table) s p) ∙ h

pub size_parts : (table : List ℕ) (from size : ℕ) (s : List ℕ) → card_length + length (closing size) ≡ size → length (parts_by table from size s) ≡ card_count * size
unfolding parts_by
size_parts table from size s h = flat_length (part_by table size s) (λ p. p) size (size_part table size s h) from card_count 0

-- The lines of cards are such parts, and a listing is 40 of them.
pub listing_parts : (t text : List ℕ) → parts_by t card_length line_length text ≡ listing_of t text
unfolding parts_by part_by listing_of card_line
listing_parts t text = refl

pub size_line : (t text : List ℕ) (p : ℕ) → length (card_line t text p) ≡ line_length
unfolding part_by card_line
size_line t text = size_part t line_length text refl

pub size_listing : (t text : List ℕ) → length (listing_of t text) ≡ listing_length
size_listing t text = ap length (sym (listing_parts t text)) ∙ size_parts t card_length line_length text refl

-- A text has 3,200 bytes, by either kind of table.
pub size_by : (bytes listing : List ℕ) → length (text_by bytes listing) ≡ card_bytes
size_by bytes listing = size_parts bytes line_length card_length listing refl

pub size_text : (t listing : List ℕ) → length (text_of t listing) ≡ card_bytes
unfolding text_of card_of
size_text t listing = flat_length (card_of t listing) (λ p. p) card_length (size_card (card_byte t) listing) line_length card_count 0

-- A record with another text, part by part: tag 01 and its length, the text, and all that stands behind it.
pub text_parts : (r text : List ℕ) → binary_place ≤ length r → length text ≡ card_bytes
    → with_text r text ≡ bytes_at r 0 field_head ++ (text ++ bytes_at r binary_place (length r - binary_place))
unfolding overwritten
text_parts r text h n =
    let front : take field_head r ≡ bytes_at r 0 field_head = bytes_part r 0 field_head (omega arith) in
    let k : length (drop binary_place r) ≤ length r - binary_place = rw length-drop (omega arith) in
    let behind : drop binary_place r ≡ bytes_at r binary_place (length r - binary_place) =
    sym (take_all (length r - binary_place) (drop binary_place r) k) ∙ bytes_part r binary_place (length r - binary_place) (omega arith) in
    let at : field_head + length text ≡ binary_place = omega arith in
    ap₂ (λ (x y : List ℕ). x ++ (text ++ y)) front (ap (λ (p : ℕ). drop p r) at ∙ behind)

-- ## Part by part

-- What has room for 80 bytes and what closes them is closed by line feeds in all that stands behind the 80.
pub feeds : (size : ℕ) → card_length + length (closing size) ≡ size → replicate (size - card_length) line_feed ≡ closing size
feeds size h = let e : size - card_length ≡ length (closing size) = omega arith in rw e (some (ltb card_length size))
  where
    some : (b : Bool) → replicate (length (pick b (line_feed ∷ []) [])) line_feed ≡ pick b (line_feed ∷ []) []
    some true = refl
    some false = refl

-- The last part lent, up to the end of the slice: as it comes back, the slice is what it was to become.
pub close_all : {all out : List ℕ} {o : ℕ} (new : List ℕ) {ys : List ℕ} → Filling all out o new → ys ≡ new → put_mid o (length out - o) out ys ≡ all
close_all {all} {out} {o} new w is =
    let n : o + length new ≡ length out = left w in
    close new (length out) w (omega arith) (omega arith) is

-- As many bytes as are lent.
pub size_lent : (o n : ℕ) (out : List ℕ) → o + n ≤ length out → length (take (o + n - o) (drop o out)) ≡ n
size_lent o n out h = simp (length-take, length-drop) (omega arith)

-- A part is within 40 of them.
pub part_within : (i w : ℕ) → i < card_count → i * w + w ≤ card_count * w
part_within i w l = search rules

-- One part more.
turn : (i w : ℕ) → i * w + w ≡ (i + 1) * w
turn i w = rw (add-one, suc-mul) (omega arith)

module _ (table : List ℕ) (from size : ℕ) (s : List ℕ) where
  -- The first i of 40 parts are written.
  abbrev pub PartsPut : List ℕ → ℕ → Type 0
  PartsPut out i =
      Filling (parts_by table from size s) out (i * size) (flat (map (part_by table size s) (walk (λ p. p) from (card_count - i) (i * from))))

  module _ (out : List ℕ) (h : card_length + length (closing size) ≡ size) where
    -- None is, and all are left.
    pub parts_begun : length out ≡ card_count * size → PartsPut out 0
    unfolding parts_by
    parts_begun n = rw (zero-mul size, zero-mul from) (start (parts_by table from size s) out (n ∙ sym (size_parts table from size s h)))

    -- The next is lent, and comes back as it is to be.
    pub parts_more : (i : ℕ) {ys : List ℕ} → i < card_count → PartsPut out i → ys ≡ part_by table size s (i * from)
        → PartsPut (put_mid (i * size) (i * size + size - i * size) out ys) (i + 1)
    parts_more i l w is =
        let k : card_count - i - 1 ≡ card_count - (i + 1) = omega arith in
        let put = part_put (part_by table size s) (λ p. p) from size (size_part table size s h) (card_count - i) (i * from) (i * size) (i * size + size) (omega arith) refl w is in
        again (Filling.from put (turn i size)) (ap₂ (λ (x y : ℕ). flat (map (part_by table size s) (walk (λ p. p) from x y))) k (turn i from))

    -- All 40 are.
    pub parts_done : (i : ℕ) → card_count ≤ i → PartsPut out i → out ≡ parts_by table from size s
    parts_done i e w = finish w (flat_none (part_by table size s) (λ p. p) from (card_count - i) (i * from) (omega arith))

-- ## The table of card bytes

-- A walk of step 1 with another number at element i.
set_walk : (f g : ℕ → ℕ) (v k a i : ℕ) → i < k → g (a + i) ≡ v → ((x : ℕ) → ¬ (x ≡ a + i) → f x ≡ g x) → set (walk f 1 k a) i v ≡ walk g 1 k a
set_walk f g v zero a i l e h = absurd (not-suc-le-zero l)
set_walk f g v (suc k) a zero l e h =
    let z : a + 0 ≡ a = omega arith in
    cons_eq (sym e ∙ ap g z) (walk_same f g 1 1 k (a + 1) (a + 1) (λ j m. h (a + 1 + j * 1) (λ q. past j q)))
  where
    past : (j : ℕ) → a + 1 + j * 1 ≡ a + 0 → ⊥
    past j q = omega arith
set_walk f g v (suc k) a (suc i) l e h =
    let z : a + 1 + i ≡ a + suc i = omega arith in
    cons_eq (h a (λ q. before q)) (set_walk f g v k (a + 1) i (omega arith) (ap g z ∙ e) (λ x n. h x (λ q. n (q ∙ sym z))))
  where
    before : a ≡ a + suc i → ⊥
    before q = omega arith

-- The character of the code 00 is the one whose code is 00.
code_zero : (t : List ℕ) (c : ℕ) → char_of t 0 ≡ c → code_in t c ≡ 0
unfolding first
code_zero t c e = rw (eq-eqb (char_of t 0) c e)

code_other : (t : List ℕ) (c : ℕ) → ¬ (c ≡ char_of t 0) → ¬ (code_in t c ≡ 0)
unfolding first
code_other t c n = rw (ne_eqb (char_of t 0) c (λ e. n (sym e))) (λ e. later (found (λ b. eqb (char_of t b) c) 255 1).from e)
  where
    later : {x : ℕ} → 1 ≤ x → x ≡ 0 → ⊥
    later l e = omega arith

-- A code other than 00 is the card byte as it is.
pub kept : (b : ℕ) → ¬ (b ≡ 0) → blank b ≡ b
kept b n = rw (ne_eqb b 0 n)

-- The table of the card byte of each character: the inverse, 40 for the code 00.
unfoldable pub card_bytes_of : List ℕ → List ℕ
card_bytes_of t = map blank (inverse t)

-- It is the inverse with 40 stored at the character of the code 00.
pub blanked : (t : List ℕ) → char_of t 0 < 256 → set (inverse t) (char_of t 0) 0x40 ≡ card_bytes_of t
unfolding inverse card_bytes_of
blanked t h =
    let z : 0 + char_of t 0 ≡ char_of t 0 = omega arith in
    set_walk (code_in t) (card_byte t) 0x40 256 0 (char_of t 0) h (ap (card_byte t) z ∙ ap blank (code_zero t (char_of t 0) refl))
    (λ c n. sym (kept (code_in t c) (code_other t c (λ q. n (q ∙ sym z)))))
    ∙ sym (map_walk blank (code_in t) 1 256 0)

-- Its entry for a character is that character's card byte.
entry_is : (t : List ℕ) (c : ℕ) → c < 256 → entry_of (card_bytes_of t) c ≡ card_byte t c
unfolding inverse card_bytes_of
entry_is t c h =
    let z : 0 + c * 1 ≡ c = omega arith in
    ap (λ (l : List ℕ). get_or l c 0) (map_walk blank (code_in t) 1 256 0) ∙ walk_at 0 (card_byte t) 1 256 0 c h ∙ ap (card_byte t) z

-- The text of a listing by that table is its text by the table t.
pub text_by_lem : (t listing : List ℕ) → Bytes listing → text_by (card_bytes_of t) listing ≡ text_of t listing
unfolding parts_by part_by text_of card_of
text_by_lem t listing b =
    ap flat
    (map_walk (part_by (card_bytes_of t) card_length listing) (λ p. p) line_length card_count 0
    ∙ walk_same (part_by (card_bytes_of t) card_length listing) (card_of t listing) line_length line_length card_count 0 0 (λ j l. same (0 + j * line_length))
    ∙ sym (map_walk (card_of t listing) (λ p. p) line_length card_count 0))
  where
    same : (p : ℕ) → part_by (card_bytes_of t) card_length listing p ≡ card_of t listing p
    same p =
        append-nil (map (entry_of (card_bytes_of t)) (bytes_at listing p card_length))
        ∙ map_same (entry_of (card_bytes_of t)) (card_byte t) (bytes_at listing p card_length) (each (bytes_at listing p card_length) (bytes_at_lem listing b p card_length))
      where
        each : (l : List ℕ) → Bytes l → All (λ c. entry_of (card_bytes_of t) c ≡ card_byte t c) l
        each [] h = tt
        each (c ∷ l) h = (entry_is t c h.0, each l h.1)
