-- What stands in a list of bytes from an offset on: the bytes, the encodings and the header numbers there. Assumes nothing.
use mathlib.Core.Path.{◌≡◌, refl, sym, ap, ◌∙◌, subst}
use mathlib.Core.List.{List, [], ◌∷◌, ◌++◌, map, append_assoc}
use Prim.Native.Nat.{ℕ, ◌+◌, ◌-◌, ◌*◌, ◌^◌, ◌≤◌, ◌<◌}
use native.Mathlib.Nat.{add-zero}
use native.Mathlib.Omega.{arith}
use lib.ListN.{length, get_or, take, drop, length-append, length-drop}
use lib.Seq.{take_at, drop_at, drop-drop, get_or-drop}
use lib.IntN.{ℤ}
use lib.Signed.{mag}
use Rattle.numbers.specs.Walk.{walk, flat, sum, bytes_at}
use Rattle.numbers.specs.BigEndian.{number, bytes_of}
use Rattle.numbers.specs.TwosComplement.{signed_of, bits_of}
use Rattle.numbers.specs.Cause.{first_of}
use Rattle.numbers.specs.Cause.{Check}
use Rattle.numbers.specs.Cause.{Fine}
use Rattle.numbers.specs.Terms.{All}
use Rattle.numbers.proofs.WalkLaws.{cons_eq, flat_size, bytes_part}
use Rattle.numbers.proofs.ByteLaws.{number_bytes_lem, length_bytes}
use Rattle.numbers.proofs.SignLaws.{signed_bits, bits_lt}
use Rattle.reel.specs.Layout.{fields_from, field_number}
use Rattle.headers.specs.Header.{number_bytes}
use Rattle.headers.proofs.NumberLaws.{pow_bytes, total}
use Rattle.headers.proofs.Ranges.{Fit, size_numbers}

-- From the offset p on, the list s is l.
pub record From (s : List ℕ) (p : ℕ) (l : List ℕ) : Type 0 where
  pub inside : p ≤ length s
  pub is : drop p s ≡ l

-- ## Bytes

-- From its first offset on, a list is itself.
pub from_start : (s : List ℕ) → From s 0 s
from_start s = record { inside = omega arith; is = refl }

-- The same at an offset that is the same number.
pub from_at : {s l : List ℕ} {p q : ℕ} → p ≡ q → From s p l → From s q l
from_at {s} {l} e f = subst (λ (x : ℕ). From s x l) e f

-- The offset and the length of what stands from there on make the list's length.
pub from_length : {s l : List ℕ} {p : ℕ} → From s p l → p + length l ≡ length s
from_length {s} {l} {p} f = omega (arith, f.inside, length-drop p s, ap length f.is)

-- Three lists, one behind the other, may be parted behind the first.
pub from_parts : {s : List ℕ} {p : ℕ} (x y z : List ℕ) → From s p ((x ++ y) ++ z) → From s p (x ++ (y ++ z))
from_parts {s} {p} x y z f = subst (From s p) (append_assoc x y z) f

-- Of two lists, one behind the other, the second stands behind the bytes of the first.
pub from_next : {s : List ℕ} {p : ℕ} (x y : List ℕ) (k : ℕ) → length x ≡ k → From s p (x ++ y) → From s (p + k) y
from_next {s} {p} x y k e f =
    record {
      inside = omega (arith, from_length f, length-append x y);
      is = sym (drop-drop k p s) ∙ ap (drop k) f.is ∙ drop_at x y k e;
    }

-- And the bytes of the first are the k bytes from the offset on.
pub from_bytes : {s : List ℕ} {p : ℕ} (x y : List ℕ) (k : ℕ) → length x ≡ k → From s p (x ++ y) → bytes_at s p k ≡ x
from_bytes {s} {p} x y k e f =
    sym (bytes_part s p k (omega (arith, from_length f, length-append x y))) ∙ ap (take k) f.is ∙ take_at x y k e

-- The byte at the offset is the first of what stands from there on.
pub from_byte : {s : List ℕ} {p : ℕ} (b : ℕ) (l : List ℕ) → From s p (b ∷ l) → get_or s p 0 ≡ b
from_byte {s} {p} b l f =
    ap (λ (q : ℕ). get_or s q 0) (sym (add-zero p)) ∙ sym (get_or-drop p s 0 0) ∙ ap (λ (x : List ℕ). get_or x 0 0) f.is

-- ## Encodings, one behind the other

-- Values, of which P holds, each encoded by g in m bytes.
module _ {A : Type 0} (s : List ℕ) (g : A → List ℕ) (P : A → Type 0) (m : ℕ) (size : (a : A) → P a → length (g a) ≡ m) where
  -- Behind the encodings of a list stands the rest.
  pub from_behind : (l : List A) (p : ℕ) (rest : List ℕ) → All P l → From s p (flat (map g l) ++ rest) → From s (p + length l * m) rest
  from_behind l p rest h f = from_next (flat (map g l)) rest (length l * m) (flat_size g P m size l h) f

  -- What gives h of a value at its encoding's offset gives h of each value along a walk over the encodings.
  pub from_walk : {B : Type 0} (f : ℕ → B) (h : A → B) → ((a : A) (p : ℕ) (rest : List ℕ) → P a → From s p (g a ++ rest) → f p ≡ h a)
      → (l : List A) (p : ℕ) (rest : List ℕ) → All P l → From s p (flat (map g l) ++ rest) → walk f m (length l) p ≡ map h l
  from_walk f h each [] p rest q e = refl
  from_walk f h each (a ∷ l) p rest q e =
      let e = from_parts (g a) (flat (map g l)) rest e in
      cons_eq (each a p (flat (map g l) ++ rest) q.0 e)
      (from_walk f h each l (p + m) rest q.1 (from_next (g a) (flat (map g l) ++ rest) m (size a q.0) e))

  -- A check that finds nothing at the offset of any encoding finds nothing along a walk over the encodings.
  pub from_fine : (f : ℕ → Check) → ((a : A) (p : ℕ) (rest : List ℕ) → P a → From s p (g a ++ rest) → f p ≡ Fine)
      → (l : List A) (p : ℕ) (rest : List ℕ) → All P l → From s p (flat (map g l) ++ rest) → first_of (walk f m (length l) p) ≡ Fine
  from_fine f each l p rest q e = ap first_of (from_walk f (λ a. Fine) each l p rest q e) ∙ none l
    where
      none : (l : List A) → first_of (map (λ a. Fine) l) ≡ Fine
      none [] = refl
      none (a ∷ l) = none l

-- ## Header numbers

-- The number in the k bytes of n is n, where k bytes hold it.
pub from_number : {s : List ℕ} {p : ℕ} (k n : ℕ) (rest : List ℕ) → n < 256 ^ k → From s p (bytes_of k n ++ rest) → number (bytes_at s p k) ≡ n
from_number k n rest h f = ap number (from_bytes (bytes_of k n) rest k (length_bytes k n) f) ∙ number_bytes_lem k n h

-- The signed number in the bytes of a number that fits them is that number.
pub from_signed : {s : List ℕ} {p : ℕ} (w : ℕ) (z : ℤ) (rest : List ℕ) → 0 < w → mag z < 2 ^ (8 * w - 1)
    → From s p (bytes_of w (bits_of (8 * w) z) ++ rest) → signed_of (8 * w) (number (bytes_at s p w)) ≡ z
from_signed w z rest h l f =
    let k : 0 < 8 * w = omega arith in
    ap (signed_of (8 * w)) (from_number w (bits_of (8 * w) z) rest (rw (pow_bytes w) (bits_lt (8 * w) z k l)) f) ∙ signed_bits (8 * w) z k l

-- Behind the numbers of a header stands the rest.
pub from_header : {s : List ℕ} {p : ℕ} (ws : List ℕ) (zs : List ℤ) (rest : List ℕ) → Fit ws zs → From s p (number_bytes ws zs ++ rest) → From s (p + total ws) rest
from_header ws zs rest h f = from_next (number_bytes ws zs) rest (total ws) (size_numbers ws zs h) f

-- The signed numbers of contiguous fields, in which numbers that fit were written, are those numbers.
pub from_numbers : {s : List ℕ} {p : ℕ} (start b : ℕ) (ws : List ℕ) (zs : List ℤ) (rest : List ℕ) → 1 ≤ b → start + (b - 1) ≡ p → Fit ws zs
    → From s p (number_bytes ws zs ++ rest) → map (field_number s start) (fields_from b ws) ≡ zs
from_numbers start b [] [] rest l e h f = refl
from_numbers start b [] (z ∷ zs) rest l e h f = absurd h
from_numbers start b (w ∷ ws) [] rest l e h f = absurd h
from_numbers {s = s} {p = p} start b (w ∷ ws) (z ∷ zs) rest l e h f =
    let x = bytes_of w (bits_of (8 * w) z) in
    let g = from_parts x (number_bytes ws zs) rest f in
    cons_eq (rw e (from_signed w z (number_bytes ws zs ++ rest) h.0 h.1 g))
    (from_numbers {s = s} {p = p + w} start (b + w) ws zs rest (omega arith) (omega arith) h.2 (from_next x (number_bytes ws zs ++ rest) w (length_bytes w (bits_of (8 * w) z)) g))

-- Where each part gives 0, so does their sum.
pub sum_zeros : {A : Type 0} (l : List A) → sum (map (λ (x : A). 0) l) ≡ 0
sum_zeros [] = refl
sum_zeros (x ∷ l) = omega (arith, sum_zeros l)
