-- The binary header around its format code, and the card text. Assumes nothing.
use mathlib.Core.Path.{◌≡◌, refl}
use mathlib.Core.List.{List, ◌∷◌, ◌++◌, map}
use Prim.Native.Nat.{ℕ}
use lib.ListN.{length, replicate, length-append, length-map}
use lib.IntN.{pos}
use Rattle.numbers.proofs.WalkLaws.{size_bytes}
use Rattle.reel.specs.Layout.{fields_from, binary_widths, binary_fields, field_number}
use Rattle.reel.specs.Meaning.{card_text_by, card_text, binary_numbers}
use Rattle.reel.specs.declared.Layout.{Layout}
use Rattle.reel.specs.declared.Layout.TheVariants.{Plain, Eagle}
use Rattle.record.specs.Record.{with_code}
use Rattle.headers.proofs.NumberLaws.{total}

-- the widths before the format code and behind it
unfoldable pub binary_front : List ℕ
binary_front = replicate 3 4 ++ replicate 6 2

unfoldable pub binary_back : List ℕ
binary_back = replicate 17 2

pub binary_widths_lem : binary_widths ≡ binary_front ++ (2 ∷ binary_back)
unfolding binary_widths binary_front binary_back
binary_widths_lem = refl

pub binary_numbers_lem : (s : List ℕ) → binary_numbers s ≡ map (field_number s 0) (fields_from 3201 binary_front) ++ map (field_number s 0) (fields_from 3227 binary_back)
unfolding binary_numbers binary_fields binary_widths binary_front binary_back
binary_numbers_lem s = refl

pub with_code_lem : (code : ℕ) (s : List ℕ)
    → with_code code (binary_numbers s) ≡ map (field_number s 0) (fields_from 3201 binary_front) ++ (pos code ∷ map (field_number s 0) (fields_from 3227 binary_back))
unfolding binary_numbers binary_fields binary_widths binary_front binary_back
with_code_lem code s = refl

-- 27 fields in 60 bytes; the lists before and behind have their bytes
pub counts : (length binary_fields ≡ 27) × (total binary_widths ≡ 60)
unfolding binary_fields binary_widths
counts = (refl, refl)

pub parts : (total binary_front ≡ 24) × (total binary_back ≡ 34)
unfolding binary_front binary_back
parts = (refl, refl)

-- the card text of either layout has 3,200 bytes
pub size_text : (k : Layout) (s : List ℕ) → length (card_text_by k s) ≡ 3200
unfolding card_text_by
size_text Plain s = simp (length-map, size_bytes)
size_text Eagle s = simp (length-append, length-map, size_bytes)

pub size_cards : (s : List ℕ) → length (card_text s) ≡ 3200
size_cards s = size_text Plain s
