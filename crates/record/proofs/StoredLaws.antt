-- The binary fields of a header with a format code: the header's bytes, and the code stored over its field. Assumes nothing.
use mathlib.Core.Path.{◌≡◌, refl, sym, ap, ap₂, ◌∙◌}
use mathlib.Core.List.{List, ◌∷◌, ◌++◌, map, append_assoc}
use Prim.Native.Nat.{ℕ, ◌+◌, ◌-◌}
use native.Mathlib.Omega.{arith}
use lib.ListN.{length, length-append}
use lib.IntN.{pos}
use Rattle.numbers.specs.Walk.{bytes_at, overwritten}
use Rattle.numbers.specs.Places.{byte_place}
use Rattle.numbers.specs.BigEndian.{bytes_of}
use Rattle.numbers.proofs.WalkLaws.{size_bytes}
use Rattle.numbers.specs.Terms.{Bytes}
use Rattle.numbers.proofs.ByteLaws.{bytes_append}
use Rattle.numbers.proofs.Filling.{over_part}
use Rattle.reel.specs.Layout.{fields_from, binary_widths, binary_fields, field_number}
use Rattle.reel.specs.Meaning.{other_than}
use Rattle.record.specs.Form.{binary_size}
use Rattle.record.specs.Record.{binary_bytes}
use Rattle.headers.proofs.NumberLaws.{fields_again, numbers_append}
use Rattle.record.proofs.HeaderLaws.{binary_front, binary_back}

-- a header in s whose byte number 1 would stand at the place `start`
module _ (s : List ℕ) (h : Bytes s) (start code : ℕ) where
  -- the bytes before field 3225, the code, and the bytes behind it
  binary_is : binary_bytes code (map (field_number s start) (other_than 3225 binary_fields))
      ≡ bytes_at s (byte_place start 3201) 24 ++ (bytes_of 2 code ++ bytes_at s (byte_place start 3227) 34)
  unfolding binary_bytes binary_widths binary_fields binary_front binary_back
  binary_is =
      let f = field_number s start in
      numbers_append binary_front (2 ∷ binary_back) (map f (fields_from 3201 binary_front)) (pos code ∷ map f (fields_from 3227 binary_back)) refl
      ∙ ap₂ (λ (x y : List ℕ). x ++ (bytes_of 2 code ++ y)) (fields_again s h start 3201 binary_front (omega arith)) (fields_again s h start 3227 binary_back (omega arith))

  pub size_binary : length (binary_bytes code (map (field_number s start) (other_than 3225 binary_fields))) ≡ binary_size
  size_binary = ap length binary_is ∙ simp (length-append, size_bytes)

  -- in a copy of the fields that stands between others, the code stored at its field
  pub code_stored : (front behind : List ℕ) (o : ℕ) → o ≡ length front + (3225 - 3201)
      → overwritten (front ++ (bytes_at s (byte_place start 3201) binary_size ++ behind)) o (bytes_of 2 code)
      ≡ front ++ (binary_bytes code (map (field_number s start) (other_than 3225 binary_fields)) ++ behind)
  code_stored front behind o q =
      let at = byte_place start 3201 in
      let x = bytes_at s at 24 in
      let y = bytes_at s (at + 24) 2 in
      let z = bytes_at s (at + 24 + 2) 34 in
      let new = bytes_of 2 code in
      let parts : bytes_at s at 60 ≡ x ++ (y ++ z) = bytes_append s at 24 36 ∙ ap (λ (l : List ℕ). x ++ l) (bytes_append s (at + 24) 2 34) in
      let grouped : front ++ ((x ++ (y ++ z)) ++ behind) ≡ (front ++ x) ++ (y ++ (z ++ behind)) = simp append_assoc in
      let size : length (front ++ x) ≡ o = simp (length-append, size_bytes) (sym q) in
      let again : (front ++ x) ++ (new ++ (z ++ behind)) ≡ front ++ ((x ++ (new ++ z)) ++ behind) = simp append_assoc in
      let next : at + 24 + 2 ≡ byte_place start 3227 = omega arith in
      ap (λ (l : List ℕ). overwritten (front ++ (l ++ behind)) o new) parts
      ∙ ap (λ (l : List ℕ). overwritten l o new) grouped
      ∙ over_part (front ++ x) y (z ++ behind) new o size (size_bytes s (at + 24) 2)
      ∙ again
      ∙ ap (λ (p : ℕ). front ++ ((x ++ (new ++ bytes_at s p 34)) ++ behind)) next
      ∙ ap (λ (l : List ℕ). front ++ (l ++ behind)) (sym binary_is)
