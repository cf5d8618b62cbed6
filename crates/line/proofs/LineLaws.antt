-- A line that is put together from its front. Assumes nothing.
use Rattle.std.proofs.Common.{◌≡◌, ℕ, zero, suc, ◌+◌, ◌-◌, ◌*◌, ◌≤◌, ◌<◌, List, [], ◌∷◌, ◌++◌, length, get_or, take, drop, replicate, Result, Ok, Err, refl, sym, ap, ap₂, ◌∙◌, append_assoc, add-one, arith, length-append, length-take, length-take-le, length-drop, drop-cons, drop_at, drop_of_length-le, take-append-drop}
use borrow.Rule.Slice.PartMut.{put_mid}
use lib.Seq.{drop-nil}
use Rattle.line.specs.Front.{AtFront}
use Rattle.numbers.specs.Cause.{numbered_by}
use Rattle.numbers.specs.declared.Refusal.{Refusal}
use Rattle.record.specs.Answer.{counted_by}
use Rattle.record.specs.declared.Counted.{Counted}
use Rattle.line.specs.Line.{counted_as, item_of, items_of, Padded, padded, printed, text_of}
use Rattle.line.specs.declared.text.Line.{Line}
use Rattle.line.proofs.DecimalLaws.{decimal_size}

-- An answer that is refused by a cause says the same by the cause's number.
pub counted_same : (answer : Result Counted Refusal) → counted_as numbered_by answer ≡ counted_by answer
counted_same (Ok a) = refl
counted_same (Err r) = refl

-- The text of a line has the line's length.
pub text_size : (line : Line) → length (text_of line) ≡ line.length
text_size line = length-take-le line.length line.bytes (omega (arith, line.front.size, line.front.fits))

-- A line is its text, and 00 behind it.
pub printed_is : (line : Line) {text : List ℕ} → text_of line ≡ text → printed line ≡ padded text
printed_is line {text} e =
    let n : line.length ≡ length text = sym (text_size line) ∙ ap length e in
    let rest = line.front.rest ∙ ap (λ (k : ℕ). replicate (96 - k) 0) n in
    ap₂ made (sym (take-append-drop line.length line.bytes) ∙ ap₂ (λ (x y : List ℕ). x ++ y) e rest) n
  where
    made : List ℕ → ℕ → Padded
    made bytes n = record { bytes = bytes; length = n }

-- A line with more text is so much longer.
pub longer : (line new : Line) (text : List ℕ) → text_of new ≡ text_of line ++ text → new.length ≡ line.length + length text
longer line new text e = sym (text_size new) ∙ ap length e ∙ length-append (text_of line) text ∙ ap (λ (n : ℕ). n + length text) (text_size line)

-- Of n equal elements, all but the first k.
drop_equal : (k n x : ℕ) → drop k (replicate n x) ≡ replicate (n - k) x
drop_equal zero n x =
    let e : n - 0 ≡ n = omega arith in
    rw e
drop_equal (suc k) zero x =
    let e : 0 - suc k ≡ 0 = omega arith in
    rw e (drop-nil (suc k))
drop_equal (suc k) (suc n) x =
    let e : suc n - suc k ≡ n - k = omega arith in
    rw e (drop_equal k n x)

-- More text at the end of a text at the front.
pub more_front : (bytes : List ℕ) (n : ℕ) (text : List ℕ) {ys : List ℕ} → AtFront bytes n → n + length text ≤ 96 → ys ≡ text
    → AtFront (put_mid n (n + length text - n) bytes ys) (n + length text)
more_front bytes n text {ys} f h is =
    let k : n + length text - n ≡ length text = omega arith in
    let front : length (take n bytes ++ text) ≡ n + length text = simp (length-append, length-take) (omega (arith, f.size)) in
    let few : 96 - n - length text ≡ 96 - (n + length text) = omega arith in
    record {
      size = rw (k, is) (simp (length-append, length-take, length-drop) (omega (arith, f.size)));
      fits = h;
      rest =
          rw (k, is, ← append_assoc) (drop_at (take n bytes ++ text) (drop (length text) (drop n bytes)) (n + length text) front
          ∙ ap (drop (length text)) f.rest ∙ drop_equal (length text) (96 - n) 0 ∙ ap (λ (m : ℕ). replicate m 0) few);
    }

-- A number behind a space has at most 21 bytes.
pub item_size : (n : ℕ) → length (item_of n) ≤ 21
item_size n = omega (arith, decimal_size n)

-- The first k of some numbers stand behind a word.
pub record Begun (word : List ℕ) (numbers : List ℕ) (line : Line) (k : ℕ) : Type 0 where
  pub text : text_of line ++ items_of (drop k numbers) ≡ word ++ items_of numbers
  pub size : line.length ≤ length word + 21 * k

-- None does.
pub begin : {word : List ℕ} (numbers : List ℕ) (line : Line) → text_of line ≡ word → Begun word numbers line 0
begin numbers line e = record { text = ap (λ (t : List ℕ). t ++ items_of numbers) e; size = omega (arith, text_size line, ap length e) }

-- One more.
pub more : {word numbers : List ℕ} {line : Line} {k : ℕ} (new : Line) → Begun word numbers line k → k < length numbers
    → text_of new ≡ text_of line ++ item_of (get_or numbers k 0) → Begun word numbers new (k + 1)
more {word} {numbers} {line} {k} new b l e =
    let n = get_or numbers k 0 in
    let next : drop k numbers ≡ n ∷ drop (k + 1) numbers = rw (add-one, drop-cons numbers k 0) in
    let size = longer line new (item_of n) e in
    record {
      text =
          ap (λ (t : List ℕ). t ++ items_of (drop (k + 1) numbers)) e ∙ append_assoc (text_of line) (item_of n) (items_of (drop (k + 1) numbers))
          ∙ ap (λ (t : List ℕ). text_of line ++ items_of t) (sym next) ∙ b.text;
      size = omega (arith, size, item_size n, b.size);
    }

-- All do.
pub all : {word numbers : List ℕ} {line : Line} {k : ℕ} → Begun word numbers line k → length numbers ≤ k → text_of line ++ 10 ∷ [] ≡ word ++ items_of numbers
all {word} {numbers} {line} {k} b h = ap (λ (t : List ℕ). text_of line ++ items_of t) (sym (drop_of_length-le numbers h)) ∙ b.text
