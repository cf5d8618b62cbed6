-- The header's bytes in a record, as the code writes them: copied but for the groups and fields 115 and 117. Each byte is below 256;
-- nothing else is assumed.
use mathlib.Core.Path.{◌≡◌, refl, sym, ap, ap₂, ◌∙◌}
use mathlib.Core.Bool.{Bool, true, false}
use mathlib.Core.List.{List, [], ◌∷◌, ◌++◌, map, append_assoc}
use Prim.Native.Nat.{ℕ, zero, suc, ◌+◌, ◌^◌, ◌≤◌, ◌<◌}
use native.Mathlib.Nat.{add-zero, zero-add}
use native.Mathlib.Omega.{arith}
use borrow.Author.Tests.{eqb-true, eq-eqb, ne_eqb, le-leb}
use lib.Dec.{eqb}
use lib.ListN.{length, take, drop, replicate, length-map, length-append}
use lib.IntN.{ℤ, pos, nat_abs, ◌*ℤ◌}
use Rattle.numbers.specs.Walk.{pick, bytes_at, overwritten}
use Rattle.numbers.specs.BigEndian.{bytes_of}
use Rattle.numbers.specs.TwosComplement.{signed_of, bits_of}
use Rattle.numbers.specs.Terms.{Bytes}
use Rattle.numbers.proofs.ByteLaws.{number_at_lem, bytes_append}
use Rattle.numbers.proofs.SignLaws.{abs_zero, bits_signed}
use Rattle.numbers.proofs.WalkLaws.{cons_eq, size_bytes}
use Rattle.numbers.proofs.Filling.{over_part}
use Rattle.scalars.specs.Scalar.{power_of, scaled_values, group_numbers, group_scalar}
use Rattle.scalars.proofs.Laws.{length_held}
use Rattle.reel.specs.Layout.{fields_from, trace_widths, trace_fields, field_number, number16}
use Rattle.reel.specs.Meaning.{filled, trace_number, elevation_fields, coordinate_fields, unscaled_fields, header_of}
use Rattle.headers.proofs.NumberLaws.{fields_again, numbers_append}
use Rattle.headers.proofs.TraceLaws.{trace_back, count_field, interval_field}
use Rattle.headers.specs.Header.{number_bytes, record_numbers, header_bytes, header_size, header_read}
use Rattle.headers.specs.Parts.{number2, numbers_in, group_bytes, elevations_at, coordinates_at, elevations_copied, coordinates_copied, own_or, groups_copied, header_copied}
use Rattle.headers.proofs.GroupLaws.{elevations_in_lem, coordinates_in_lem, size_in, size_elevations, size_coordinates}
use Rattle.headers.proofs.HeaderBytes.{widths_front, widths_behind, widths_are}

-- ## Numbers

-- a number that is filled in, by its bits
fill_bits : (own v : ℕ) → v < 2 ^ 16 → bits_of 16 (filled own (signed_of 16 v)) ≡ own_or own v
fill_bits own zero h = refl
fill_bits own (suc k) h = go (eqb (nat_abs (signed_of 16 (suc k))) 0) refl
  where
    back : bits_of 16 (signed_of 16 (suc k)) ≡ suc k
    back = bits_signed 16 (suc k) (omega arith) h

    some : suc k ≡ 0 → ⊥
    some e = omega arith

    go : (b : Bool) → eqb (nat_abs (signed_of 16 (suc k))) 0 ≡ b → bits_of 16 (pick b (pos own) (signed_of 16 (suc k))) ≡ own_or own (suc k)
    go true q = absurd (some (sym back ∙ ap (bits_of 16) (abs_zero (signed_of 16 (suc k)) (eqb-true _ 0 q))))
    go false q = back ∙ rw (ne_eqb (suc k) 0 some)

-- numbers of four bytes each
number_group : (k : ℕ) (ns : List ℤ) → length ns ≡ k → number_bytes (replicate k 4) ns ≡ group_bytes ns
unfolding group_bytes
number_group zero [] e = refl
number_group zero (n ∷ ns) e = absurd (let q : suc (length ns) ≡ 0 = e in omega arith)
number_group (suc k) [] e = absurd (let q : 0 ≡ suc k = e in omega arith)
number_group (suc k) (n ∷ ns) e = ap (λ (l : List ℕ). bytes_of 4 (bits_of 32 n) ++ l) (number_group k ns (omega arith))

-- fields 89 to 113
unfoldable widths_13 : List ℕ
widths_13 = replicate 13 2

-- ## The header by its numbers

-- The bytes behind field 85.
unfoldable behind_copied : List ℕ → ℕ → ℕ → ℕ → List ℕ
behind_copied s n i at =
    bytes_at s (at + 88) 26
    ++ (bytes_of 2 (own_or n (number16 s (at + 114))) ++ (bytes_of 2 (own_or i (number16 s (at + 116))) ++ bytes_at s (at + 118) 62))

module _ (s : List ℕ) (b : Bytes s) (n i at : ℕ) where
  front_is : number_bytes widths_front (map (field_number s at) (fields_from 1 widths_front)) ≡ bytes_at s at 40
  unfolding widths_front
  front_is = fields_again s b at 1 widths_front (omega arith) ∙ ap (λ (p : ℕ). bytes_at s p 40) (add-zero at)

  behind_is : number_bytes widths_behind (map (field_number s at) (fields_from 89 widths_13) ++ (filled n (field_number s at count_field) ∷ filled i (field_number s at interval_field) ∷ map (field_number s at) (fields_from 119 trace_back))) ≡ behind_copied s n i at
  unfolding behind_copied widths_behind widths_13 trace_back
  behind_is =
      let f = field_number s at in
      numbers_append widths_13 (2 ∷ 2 ∷ trace_back) (map f (fields_from 89 widths_13)) (filled n (f count_field) ∷ filled i (f interval_field) ∷ map f (fields_from 119 trace_back)) refl
      ∙ ap₂ (λ (x y : List ℕ). x ++ y) (fields_again s b at 89 widths_13 (omega arith))
      (ap₂ (λ (x y : List ℕ). x ++ y) (ap (bytes_of 2) (fill_bits n (number16 s (at + 114)) (number_at_lem s b (at + 114) 2)))
      (ap₂ (λ (x y : List ℕ). x ++ y) (ap (bytes_of 2) (fill_bits i (number16 s (at + 116)) (number_at_lem s b (at + 116) 2))) (fields_again s b at 119 trace_back (omega arith))))

  -- no field of a group is filled in
  pub elevations_bare : map (trace_number s n i at) elevation_fields ≡ map (field_number s at) elevation_fields
  unfolding elevation_fields trace_fields trace_widths
  elevations_bare = refl

  pub coordinates_bare : map (trace_number s n i at) coordinate_fields ≡ map (field_number s at) coordinate_fields
  unfolding coordinate_fields trace_fields trace_widths
  coordinates_bare = refl

  -- the parts of the meaning, by the reel's bytes
  elevations_are : (header_of (trace_number s n i at)).elevations ≡ elevations_at s at
  unfolding header_of
  elevations_are = ap (scaled_values (number2 s (at + 68))) (elevations_bare ∙ elevations_in_lem s at)

  coordinates_are : (header_of (trace_number s n i at)).coordinates ≡ coordinates_at s at
  unfolding header_of
  coordinates_are = ap (scaled_values (number2 s (at + 70))) (coordinates_bare ∙ coordinates_in_lem s at)

  abbrev front : List ℤ
  front = map (field_number s at) (fields_from 1 widths_front)

  abbrev behind : List ℤ
  behind = map (field_number s at) (fields_from 89 widths_13) ++ (filled n (field_number s at count_field) ∷ filled i (field_number s at interval_field) ∷ map (field_number s at) (fields_from 119 trace_back))

  front_numbers : take 12 (header_of (trace_number s n i at)).numbers ≡ front
  unfolding header_of unscaled_fields trace_fields trace_widths widths_front
  front_numbers = refl

  behind_numbers : drop 12 (header_of (trace_number s n i at)).numbers ≡ behind
  unfolding header_of unscaled_fields trace_fields trace_widths widths_13 trace_back
  behind_numbers = refl

  abbrev es : List ℤ
  es = elevations_at s at

  abbrev cs : List ℤ
  cs = coordinates_at s at

  numbers_are : record_numbers (header_of (trace_number s n i at)) ≡ front ++ (group_numbers es ++ (group_scalar es ∷ group_scalar cs ∷ (group_numbers cs ++ behind)))
  unfolding record_numbers
  numbers_are = rw (front_numbers, behind_numbers, elevations_are, coordinates_are)

  size_front : length widths_front ≡ length front
  unfolding widths_front
  size_front = refl

  seven : length (group_numbers es) ≡ 7
  seven = length_held es ∙ length-map (numbers_in s 7 (at + 40)) (λ (z : ℤ). z *ℤ pos (10 ^ power_of (number2 s (at + 68)))) ∙ size_in s 7 (at + 40)

  four : length (group_numbers cs) ≡ 4
  four = length_held cs ∙ length-map (numbers_in s 4 (at + 72)) (λ (z : ℤ). z *ℤ pos (10 ^ power_of (number2 s (at + 70)))) ∙ size_in s 4 (at + 72)

  -- the header in a record is the reel's first 40 bytes, its groups at their smallest powers, and the rest with 115 and 117 filled in
  header_parts : header_bytes (header_of (trace_number s n i at)) ≡ bytes_at s at 40 ++ (elevations_copied s at ++ (coordinates_copied s at ++ behind_copied s n i at))
  unfolding header_bytes elevations_copied coordinates_copied
  header_parts =
      let scalars : List ℤ = group_scalar es ∷ group_scalar cs ∷ (group_numbers cs ++ behind) in
      let a = numbers_append widths_front (replicate 7 4 ++ (2 ∷ 2 ∷ (replicate 4 4 ++ widths_behind))) front (group_numbers es ++ scalars) size_front in
      let b = numbers_append (replicate 7 4) (2 ∷ 2 ∷ (replicate 4 4 ++ widths_behind)) (group_numbers es) scalars (sym seven) in
      let c = numbers_append (replicate 4 4) widths_behind (group_numbers cs) behind (sym four) in
      let g = number_group 7 (group_numbers es) seven in
      let k = number_group 4 (group_numbers cs) four in
      let l : bytes_at s at 40 ++ (group_bytes (group_numbers es) ++ (bytes_of 2 (bits_of 16 (group_scalar es)) ++ (bytes_of 2 (bits_of 16 (group_scalar cs)) ++ (group_bytes (group_numbers cs) ++ behind_copied s n i at))))
      ≡ bytes_at s at 40 ++ ((group_bytes (group_numbers es) ++ bytes_of 2 (bits_of 16 (group_scalar es))) ++ ((bytes_of 2 (bits_of 16 (group_scalar cs)) ++ group_bytes (group_numbers cs)) ++ behind_copied s n i at)) = simp append_assoc in
      ap₂ number_bytes widths_are numbers_are ∙ a ∙ ap₂ (λ (x y : List ℕ). x ++ y) front_is (b ∙ ap₂ (λ (x y : List ℕ). x ++ (bytes_of 2 (bits_of 16 (group_scalar es)) ++ (bytes_of 2 (bits_of 16 (group_scalar cs)) ++ y))) g (c ∙ ap₂ (λ (x y : List ℕ). x ++ y) k behind_is)) ∙ l

-- ## The header as the code writes it

-- a store behind the front of a list
over_behind : (front l new : List ℕ) (k p : ℕ) → p ≡ length front + k → overwritten (front ++ l) p new ≡ front ++ overwritten l k new
unfolding overwritten
over_behind [] l new k p e = ap (λ (x : ℕ). take x l ++ (new ++ drop (x + length new) l)) (e ∙ zero-add k)
over_behind (x ∷ f) l new k zero e = absurd (let q : 0 ≡ suc (length f) + k = e in omega arith)
over_behind (x ∷ f) l new k (suc p) e =
    let q : suc p + length new ≡ suc (p + length new) = omega arith in
    rw q (cons_eq refl (over_behind f l new k p (omega arith)))

module _ (s : List ℕ) (n i at : ℕ) where
  abbrev y : List ℕ
  y = bytes_of 2 (own_or n (number16 s (at + 114)))

  abbrev u : List ℕ
  u = bytes_of 2 (own_or i (number16 s (at + 116)))

  -- its seven parts on the reel: before field 41, the groups, before field 115, that field, field 117, and the rest
  reel_parts : bytes_at s at header_size
      ≡ bytes_at s at 40 ++ (bytes_at s (at + 40) 30 ++ (bytes_at s (at + 70) 18 ++ (bytes_at s (at + 88) 26 ++ (bytes_at s (at + 114) 2 ++ (bytes_at s (at + 116) 2 ++ bytes_at s (at + 118) 62)))))
  reel_parts =
      part 40 140 (at + 40) refl
      ∙ ap (λ (l : List ℕ). bytes_at s at 40 ++ l) (next (at + 40) 30 110 (at + 70) (omega arith)
      ∙ ap (λ (l : List ℕ). bytes_at s (at + 40) 30 ++ l) (next (at + 70) 18 92 (at + 88) (omega arith)
      ∙ ap (λ (l : List ℕ). bytes_at s (at + 70) 18 ++ l) (next (at + 88) 26 66 (at + 114) (omega arith)
      ∙ ap (λ (l : List ℕ). bytes_at s (at + 88) 26 ++ l) (next (at + 114) 2 64 (at + 116) (omega arith)
      ∙ ap (λ (l : List ℕ). bytes_at s (at + 114) 2 ++ l) (next (at + 116) 2 62 (at + 118) (omega arith))))))
    where
      next : (p k j q : ℕ) → p + k ≡ q → bytes_at s p (k + j) ≡ bytes_at s p k ++ bytes_at s q j
      next p k j q e = bytes_append s p k j ∙ ap (λ (x : ℕ). bytes_at s p k ++ bytes_at s x j) e

      part : (k j q : ℕ) → at + k ≡ q → bytes_at s at (k + j) ≡ bytes_at s at k ++ bytes_at s q j
      part k j q e = next at k j q e

  -- the groups stored over theirs
  groups_parts : groups_copied s at
      ≡ bytes_at s at 40 ++ (elevations_copied s at ++ (coordinates_copied s at ++ (bytes_at s (at + 88) 26 ++ (bytes_at s (at + 114) 2 ++ (bytes_at s (at + 116) 2 ++ bytes_at s (at + 118) 62)))))
  unfolding groups_copied
  groups_parts =
      let x = bytes_at s at 40 in
      let e = elevations_copied s at in
      let c = coordinates_copied s at in
      let rest = bytes_at s (at + 88) 26 ++ (bytes_at s (at + 114) 2 ++ (bytes_at s (at + 116) 2 ++ bytes_at s (at + 118) 62)) in
      let nx : length x ≡ 40 = size_bytes s at 40 in
      let ne : length e ≡ 30 = size_elevations s at in
      ap (λ (l : List ℕ). overwritten (overwritten l 40 e) 70 c) reel_parts
      ∙ ap (λ (l : List ℕ). overwritten l 70 c) (over_part x (bytes_at s (at + 40) 30) (bytes_at s (at + 70) 18 ++ rest) e 40 nx (size_bytes s (at + 40) 30 ∙ sym ne))
      ∙ over_behind x (e ++ (bytes_at s (at + 70) 18 ++ rest)) c 30 70 (omega arith)
      ∙ ap (λ (l : List ℕ). x ++ l) (over_part e (bytes_at s (at + 70) 18) rest c 30 ne (size_bytes s (at + 70) 18 ∙ sym (size_coordinates s at)))

  -- and fields 115 and 117 over theirs
  copied_parts : header_copied s n i at
      ≡ bytes_at s at 40 ++ (elevations_copied s at ++ (coordinates_copied s at ++ behind_copied s n i at))
  unfolding header_copied behind_copied
  copied_parts =
      let x = bytes_at s at 40 in
      let e = elevations_copied s at in
      let c = coordinates_copied s at in
      let m = bytes_at s (at + 88) 26 in
      let z = bytes_at s (at + 118) 62 in
      let nx : length x ≡ 40 = size_bytes s at 40 in
      let ne : length e ≡ 30 = size_elevations s at in
      let nc : length c ≡ 18 = size_coordinates s at in
      let nm : length m ≡ 26 = size_bytes s (at + 88) 26 in
      let behind : (new l : List ℕ) (k p : ℕ) → p ≡ 88 + k → overwritten (x ++ (e ++ (c ++ l))) p new ≡ x ++ (e ++ (c ++ overwritten l k new)) =
      λ new l k p q. over_behind x (e ++ (c ++ l)) new (48 + k) p (omega arith)
      ∙ ap (λ (r : List ℕ). x ++ r) (over_behind e (c ++ l) new (18 + k) (48 + k) (omega arith)
      ∙ ap (λ (r : List ℕ). e ++ r) (over_behind c l new k (18 + k) (omega arith))) in
      ap (λ (l : List ℕ). overwritten (overwritten l 114 y) 116 u) groups_parts
      ∙ ap (λ (l : List ℕ). overwritten l 116 u) (behind y (m ++ (bytes_at s (at + 114) 2 ++ (bytes_at s (at + 116) 2 ++ z))) 26 114 refl
      ∙ ap (λ (r : List ℕ). x ++ (e ++ (c ++ r))) (over_part m (bytes_at s (at + 114) 2) (bytes_at s (at + 116) 2 ++ z) y 26 nm (size_bytes s (at + 114) 2)))
      ∙ behind u (m ++ (y ++ (bytes_at s (at + 116) 2 ++ z))) 28 116 refl
      ∙ ap (λ (r : List ℕ). x ++ (e ++ (c ++ r))) (over_behind m (y ++ (bytes_at s (at + 116) 2 ++ z)) u 2 28 (omega arith)
      ∙ ap (λ (r : List ℕ). m ++ r) (over_part y (bytes_at s (at + 116) 2) z u 2 refl (size_bytes s (at + 116) 2)))

-- LAW. What the code writes is the header of what the trace means.
pub header_is : (s : List ℕ) → Bytes s → (n i at : ℕ) → header_bytes (header_of (trace_number s n i at)) ≡ header_copied s n i at
header_is s b n i at = header_parts s b n i at ∙ sym (copied_parts s n i at)

-- as long as a header is in a record
pub size_copied : (s : List ℕ) (n i at : ℕ) → length (header_copied s n i at) ≡ header_size
unfolding behind_copied
size_copied s n i at =
    ap length (copied_parts s n i at) ∙ simp (length-append, size_bytes, size_elevations, size_coordinates)

-- LAW. Reading the header of a trace into an output of its length.
pub header_read_lem : (s : List ℕ) (n i at : ℕ) (out : List ℕ) → at + header_size ≤ length s → length out ≡ header_size → header_read s n i at out ≡ header_bytes (header_of (trace_number s n i at))
unfolding header_read
header_read_lem s n i at out h l = rw (le-leb (at + header_size) (length s) h, eq-eqb (length out) header_size l)
