-- The sample fields of a record, by their tag: how a pair stands in them. All sample fields of a record have one tag.
use Rattle.std.specs.Prelude.{ℕ, Bool, List, ℤ}
use Rattle.value.specs.Pair.{value_of, is_canonical, pair_length, value_bytes, pair_in}

-- What a tag says of its sample fields: the bytes of a pair, and the most samples of an earlier single field; whether a pair of these bytes is
-- canonical, its value, and the bytes of the canonical pair of a value.
pub record Kind : Type 0 where
  pub tag : ℕ
  pub width : ℕ
  pub earlier : ℕ
  pub canonical : List ℕ → Bool
  pub value : List ℕ → ℤ
  pub bytes : ℤ → List ℕ

-- Tag 04, the only one: six-byte pairs (document 01). "A trace with the earlier single field of 6,001 to 8,000 samples stays valid" (document
-- 02, CR 8).
abbrev pub tag04 : Kind
tag04 =
    record {
      tag = 4;
      width = pair_length;
      earlier = 8000;
      canonical = λ b. is_canonical (pair_in b);
      value = λ b. value_of (pair_in b);
      bytes = value_bytes;
    }
