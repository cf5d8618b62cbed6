-- Fields and card bytes that stand in a list of bytes. Assumes nothing.
use mathlib.Core.Path.{◌≡◌, refl, sym, ap, ◌∙◌, subst}
use mathlib.Core.List.{List, [], ◌∷◌, ◌++◌, map}
use Prim.Native.Nat.{ℕ, ◌+◌, ◌^◌, ◌≤◌, ◌<◌}
use native.Mathlib.Omega.{arith}
use borrow.Author.Tests.{le-leb, eq-eqb, ne_eqb}
use lib.ListN.{length, get_or}
use Rattle.numbers.specs.Walk.{walk, flat}
use Rattle.numbers.specs.BigEndian.{bytes_of}
use Rattle.numbers.specs.Cause.{first_of}
use Rattle.numbers.specs.Cause.{Fine}
use Rattle.numbers.specs.Terms.{All, Bytes}
use Rattle.numbers.proofs.ByteLaws.{length_bytes, bytes_of_lem}
use Rattle.numbers.proofs.AllLaws.{all_append}
use Rattle.reel.specs.Layout.{number16}
use Rattle.record.specs.Record.{field}
use Rattle.record.specs.Form.{field_cause, card_cause}
use Rattle.demands.proofs.From.{From, from_at, from_parts, from_next, from_byte, from_fine, from_number}

-- ## Fields

-- A field of bytes is bytes.
pub bytes_field : (tag : ℕ) (l : List ℕ) → tag < 256 → Bytes l → Bytes (field tag l)
unfolding field
bytes_field tag l h b = (h, all_append (λ x. x < 256) (bytes_of 2 (length l)) l (bytes_of_lem 2 (length l)) b)

-- A field with a content of `size` bytes that stands in a list of bytes.
module _ (s : List ℕ) (tag size : ℕ) (l : List ℕ) (e : length l ≡ size) (at : ℕ) (rest : List ℕ) (f : From s at (field tag l ++ rest)) where
  -- Its tag is at its place.
  pub tag_is : get_or s at 0 ≡ tag
  unfolding field
  tag_is = from_byte tag _ f

  -- Its length stands behind the tag.
  pub from_size : From s (at + 1) (bytes_of 2 (length l) ++ (l ++ rest))
  unfolding field
  from_size = from_parts (bytes_of 2 (length l)) l rest (from_next (tag ∷ []) _ 1 refl f)

  -- Its content stands three bytes behind its place,
  pub from_content : From s (at + 3) (l ++ rest)
  from_content = from_at (omega arith) (from_next (bytes_of 2 (length l)) _ 2 (length_bytes 2 (length l)) from_size)

  -- and the rest behind the content.
  pub from_rest : From s (at + (3 + size)) rest
  from_rest = from_at (omega arith) (from_next l rest size e from_content)

  -- No cause of 12 applies to it, where two bytes hold its length.
  pub field_fine : size < 256 ^ 2 → field_cause s tag size at ≡ Fine
  field_fine h =
      let long : at + (3 + size) ≤ length s = from_rest.inside in
      let k : number16 s (at + 1) ≡ size = from_number 2 (length l) (l ++ rest) (rw e h) from_size ∙ e in
      rw (le-leb (at + (3 + size)) (length s) long, eq-eqb (get_or s at 0) tag tag_is, eq-eqb (number16 s (at + 1)) size k)

-- ## Cards

-- A list is its elements, one behind the other.
flat_single : (l : List ℕ) → flat (map (λ b. b ∷ []) l) ≡ l
flat_single [] = refl
flat_single (b ∷ l) = ap (λ (k : List ℕ). b ∷ k) (flat_single l)

-- 13 applies to no card byte other than 00.
pub cards_fine : (s l : List ℕ) (k at : ℕ) (rest : List ℕ) → length l ≡ k → All (λ b. (0 < b) × (b < 256)) l → From s at (l ++ rest)
    → first_of (walk (card_cause s) 1 k at) ≡ Fine
cards_fine s l k at rest e h f =
    ap (λ (x : ℕ). first_of (walk (card_cause s) 1 x at)) (sym e)
    ∙ from_fine s (λ b. b ∷ []) (λ b. (0 < b) × (b < 256)) 1 (λ b p. refl) (card_cause s) card l at rest h
    (subst (λ (x : List ℕ). From s at (x ++ rest)) (sym (flat_single l)) f)
  where
    some : {b : ℕ} → 0 < b → b ≡ 0 → ⊥
    some p e = omega arith

    card : (b p : ℕ) (r : List ℕ) → (0 < b) × (b < 256) → From s p ((b ∷ []) ++ r) → card_cause s p ≡ Fine
    card b p r q e = rw (from_byte b r e, ne_eqb b 0 (λ z. some q.0 z))
