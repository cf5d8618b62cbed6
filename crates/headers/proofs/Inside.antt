-- A header that stands whole, by its bytes alone; and stores one behind the other. Assumes nothing.
use Rattle.std.proofs.Common.{◌≡◌, ℕ, ◌+◌, ◌*◌, ◌≤◌, List, ◌++◌, length, take, drop, get_or, sym, ap, ◌∙◌, append_assoc, arith, length-append, length-take, length-drop, drop-drop, take_at, drop_at, take_all, Option, Some, None, MatchOption, Bor, ◌-◌, ◌<◌, false, not}
use Rattle.std.proofs.lemmas.Grind.{common_steps}
use Rattle.std.proofs.Math.ListN.{take-append-drop}
use Rattle.std.proofs.lemmas.Bool.{lt-leb, le-leb}
use Rattle.std.specs.Array.{IsFirstChunk}
use Rattle.std.specs.List.{slice_range}
use Rattle.numbers.specs.Walk.{walk, bytes_at, overwritten}
use Rattle.numbers.specs.BigEndian.{number}
use Rattle.numbers.specs.TwosComplement.{signed_of}
use Rattle.numbers.proofs.WalkLaws.{walk_same, walk_at, bytes_part}
use Rattle.numbers.proofs.Filling.{over_part}
use Rattle.numbers.specs.Cause.{refuse_if, then}
use Rattle.scalars.specs.Scalar.{is_smallest}
use Rattle.headers.specs.Header.{header_size, is_header, smallest_causes, header_judged}
use Rattle.headers.proofs.GroupLaws.{elevations_in_lem, coordinates_in_lem}
use Rattle.headers.specs.Parts.{number2, number4, numbers_in}

-- ## Bytes of bytes

pub bytes_inside : (s : List ℕ) (at k i j : ℕ) → i + j ≤ k → bytes_at (bytes_at s at k) i j ≡ bytes_at s (at + i) j
unfolding bytes_at
bytes_inside s at k i j h =
    walk_same (λ (a : ℕ). get_or (walk (λ (x : ℕ). get_or s x 0) 1 k at) a 0) (λ (a : ℕ). get_or s a 0) 1 1 j i (at + i)
    (λ x l. walk_at 0 (λ (a : ℕ). get_or s a 0) 1 k at (i + x * 1) (omega arith) ∙ ap (λ (a : ℕ). get_or s a 0) (place x))
  where
    place : (x : ℕ) → at + (i + x * 1) * 1 ≡ at + i + x * 1
    place x = omega arith

pub numbers_inside : (s : List ℕ) (at k p : ℕ) → p + 4 * k ≤ header_size → numbers_in (bytes_at s at header_size) k p ≡ numbers_in s k (at + p)
unfolding numbers_in
numbers_inside s at k p h =
    walk_same (number4 (bytes_at s at header_size)) (number4 s) 4 4 k p (at + p)
    (λ x l. ap (λ (b : List ℕ). signed_of 32 (number b)) (bytes_inside s at header_size (p + x * 4) 4 (omega arith)) ∙ ap (number4 s) (place x))
  where
    place : (x : ℕ) → at + (p + x * 4) ≡ at + p + x * 4
    place x = omega arith

pub scalar_inside : (s : List ℕ) (at p : ℕ) → p + 2 ≤ header_size → number2 (bytes_at s at header_size) p ≡ number2 s (at + p)
scalar_inside s at p h = ap (λ (b : List ℕ). signed_of 16 (number b)) (bytes_inside s at header_size p 2 h)

-- ## Stores

-- a store behind another
pub stores_join : (l a b : List ℕ) (o : ℕ) → o + length a + length b ≤ length l → overwritten (overwritten l o a) (o + length a) b ≡ overwritten l o (a ++ b)
unfolding overwritten
stores_join l a b o h =
    ap (λ (x : List ℕ). overwritten x (o + length a) b) (sym (append_assoc (take o l) a rest) ∙ ap (λ (x : List ℕ). (take o l ++ a) ++ x) (sym (take-append-drop (length b) rest)))
    ∙ over_part (take o l ++ a) (take (length b) rest) (drop (length b) rest) b (o + length a) front mid
    ∙ append_assoc (take o l) a (b ++ drop (length b) rest) ∙ ap (λ (x : List ℕ). take o l ++ x) (sym (append_assoc a b (drop (length b) rest)))
    ∙ ap (λ (x : List ℕ). take o l ++ ((a ++ b) ++ x)) (drop-drop (length b) (o + length a) l ∙ ap (λ (k : ℕ). drop k l) behind)
  where
    rest : List ℕ
    rest = drop (o + length a) l

    front : length (take o l ++ a) ≡ o + length a
    front = simp (length-append, length-take) (omega arith)

    mid : length (take (length b) rest) ≡ length b
    mid = simp (length-take, length-drop) (omega arith)

    behind : o + length a + length b ≡ o + length (a ++ b)
    behind = rw length-append (omega arith)

-- and one before another
pub stores_join_front : (l a b : List ℕ) (o : ℕ) → o + length a ≤ length l → overwritten (overwritten l (o + length a) b) o a ≡ overwritten l o (a ++ b)
unfolding overwritten
stores_join_front l a b o h = grind (arith, common_steps, take_at, drop_at, drop-drop)

-- ## A header that stands whole

pub header_whole : (s rest : List ℕ) (start : ℕ) (o : Option (Bor (List ℕ))) → start ≤ length s → rest ≡ slice_range s start (length s)
    → MatchOption o (length rest < header_size) (λ y. IsFirstChunk rest y.now header_size)
    → MatchOption o (is_header s start ≡ false) (λ y. (start + header_size ≤ length s) × (y.now ≡ bytes_at s start header_size))
header_whole s rest start o l e h = go o h
  where
    all : rest ≡ drop start s
    all = e ∙ take_all (length s - start) (drop start s) (rw length-drop (omega arith))

    size : length rest ≡ length s - start
    size = rw all (length-drop start s)

    go : (o : Option (Bor (List ℕ))) → MatchOption o (length rest < header_size) (λ y. IsFirstChunk rest y.now header_size)
        → MatchOption o (is_header s start ≡ false) (λ y. (start + header_size ≤ length s) × (y.now ≡ bytes_at s start header_size))
    go None h =
        let few : length rest < header_size = h in
        lt-leb (start + header_size) (length s) (omega (arith, size))
    go (Some y) h =
        let w : start + header_size ≤ length s = omega (arith, h.enough, size) in
        (w, h.same ∙ ap (λ (x : List ℕ). take header_size x) all ∙ bytes_part s start header_size w)

-- LAW. 13 against the scalars of a header that stands whole, by its bytes.
pub judged_whole : (s h : List ℕ) (start : ℕ) → start + header_size ≤ length s → h ≡ bytes_at s start header_size
    → then (refuse_if (not (is_smallest (numbers_in h 7 40) (number2 h 68))) 13 (start + 68)) (refuse_if (not (is_smallest (numbers_in h 4 72) (number2 h 70))) 13 (start + 70))
    ≡ header_judged s start
unfolding header_judged smallest_causes
judged_whole s h start w e =
    rw (le-leb (start + header_size) (length s) w, e, numbers_inside s start 7 40 (omega arith), scalar_inside s start 68 (omega arith), numbers_inside s start 4 72 (omega arith), scalar_inside s start 70 (omega arith), elevations_in_lem s start, coordinates_in_lem s start)
