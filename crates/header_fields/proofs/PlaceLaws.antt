-- The bytes of a field. One whose place is no number of 64 bits stands behind the end of every slice, as the place does that is taken for
-- it. Assumes nothing.
use Rattle.std.proofs.Common.{◌≡◌, ℕ, ◌-◌, ◌^◌, ◌<◌, ◌≤◌, List, [], ◌++◌, length, take, replicate, sym, ap, ◌∙◌, arith, le-leb, lt-ltb, le-ltb}
use mathlib.Core.Logic.{⊎_elim}
use lib.ListN.{drop_of_length-le}
use Rattle.numbers.specs.Walk.{bytes_at}
use Rattle.numbers.specs.Places.{place_no, byte_no, byte_place, field_place}
use Rattle.numbers.specs.declared.Place.{Place}
use Rattle.numbers.specs.declared.ByteNo.{ByteNo}
use Rattle.numbers.proofs.SignLaws.{below_or}
use Rattle.numbers.proofs.WalkLaws.{bytes_padded}

-- behind the end
past : (s : List ℕ) (at k : ℕ) → length s ≤ at → bytes_at s at k ≡ take k ([] ++ replicate k 0)
past s at k h = bytes_padded s at k k (omega arith) ∙ ap (λ (l : List ℕ). take k (l ++ replicate k 0)) (drop_of_length-le s h)

pub bytes_there : (s : List ℕ) (start : Place) (b : ByteNo) (k : ℕ) → 1 ≤ byte_no b → length s < 2 ^ 64
    → bytes_at s (place_no (field_place start b)) k ≡ bytes_at s (byte_place (place_no start) (byte_no b)) k
bytes_there s start b k h l = ⊎_elim near far (below_or (byte_place (place_no start) (byte_no b)) (2 ^ 64))
  where
    near : byte_place (place_no start) (byte_no b) < 2 ^ 64 → bytes_at s (place_no (field_place start b)) k ≡ bytes_at s (byte_place (place_no start) (byte_no b)) k
    near q = rw (le-leb 1 (byte_no b) h, lt-ltb (byte_place (place_no start) (byte_no b)) (2 ^ 64) q)

    far : 2 ^ 64 ≤ byte_place (place_no start) (byte_no b) → bytes_at s (place_no (field_place start b)) k ≡ bytes_at s (byte_place (place_no start) (byte_no b)) k
    far q =
        rw (le-leb 1 (byte_no b) h, le-ltb (byte_place (place_no start) (byte_no b)) (2 ^ 64) q)
        (past s (2 ^ 64 - 1) k (omega arith) ∙ sym (past s (byte_place (place_no start) (byte_no b)) k (omega arith)))
