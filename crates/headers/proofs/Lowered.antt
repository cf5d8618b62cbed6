-- A group taken to its smallest power: its numbers, each times the factor, stored one behind the other. Assumes nothing.
use Rattle.std.proofs.Common.{◌≡◌, ℕ, zero, suc, ◌+◌, ◌-◌, ◌*◌, ◌^◌, ◌≤◌, ◌<◌, List, [], ◌∷◌, ◌++◌, length, take, get_or, refl, sym, ap, ◌∙◌, append_assoc, append-nil, arith, length-take, take-append-drop, to_z, of_z, to_z-of_z}
use borrow.Rule.Slice.PartMut.{put_mid}
use lib.IntN.{ℤ, pos, ◌*ℤ◌}
use lib.Signed.{mag}
use mir.Syntax.{w32}
use mir.Val.{SFits}
use Rattle.numbers.specs.Walk.{bytes_at, overwritten}
use Rattle.numbers.specs.BigEndian.{number, bytes_of}
use Rattle.numbers.specs.TwosComplement.{bits_of}
use Rattle.numbers.proofs.Filling.{over, size_over}
use Rattle.numbers.proofs.ByteLaws.{length_bytes}
use Rattle.numbers.proofs.WalkLaws.{size_bytes}
use Rattle.scalars.specs.declared.Scale.{Scale}
use Rattle.scalars.specs.Parts.{Fit32}
use Rattle.scalars.specs.Scalar.{group_numbers, group_scalar, scale_of}
use Rattle.headers.specs.Header.{header_size}
use Rattle.headers.specs.Parts.{number2, numbers_in, times_factor, group_bytes, group_lowered, elevations_at, coordinates_at, elevations_copied, coordinates_copied, own_or, field_filled, groups_copied, header_copied}
use Rattle.headers.proofs.GroupLaws.{size_group, size_in, size_held, size_elevations, factor_is}
use Rattle.headers.proofs.Inside.{bytes_inside, numbers_inside, scalar_inside, stores_join, stores_join_front}

-- ## One product

fit_at : (ns : List ℤ) (k : ℕ) → Fit32 ns → mag (get_or ns k (pos 0)) < 2 ^ 31
fit_at [] k w = omega arith
fit_at (n ∷ ns) zero w = w.0
fit_at (n ∷ ns) (suc k) w = fit_at ns k w.1

times_at : (f : ℤ) (ns : List ℤ) (k : ℕ) → k < length ns → get_or (times_factor f ns) k (pos 0) ≡ get_or ns k (pos 0) *ℤ f
times_at f [] k l = absurd (omega arith)
times_at f (n ∷ ns) zero l = refl
times_at f (n ∷ ns) (suc k) l = times_at f ns k (omega arith)

-- as the code multiplies, a product of the group fits, and is that of the group
module _ (ns : List ℤ) (f : ℤ) (k : ℕ) (l : k < length ns) (w : Fit32 ns) (v : Fit32 (times_factor f ns)) (m : mag f < 2 ^ 31) where
  abbrev product : ℤ
  product = to_z w32 (of_z w32 (get_or ns k (pos 0))) *ℤ to_z w32 (of_z w32 f)

  read : product ≡ get_or ns k (pos 0) *ℤ f
  read = rw (to_z-of_z {w = w32} (record { sfits = fit_at ns k w }), to_z-of_z {w = w32} (record { sfits = m }))

  pub product_fits : SFits w32 product
  product_fits = rw (read, ← (times_at f ns k l)) (record { sfits = fit_at (times_factor f ns) k v })

  pub product_is : to_z w32 (of_z w32 product) ≡ get_or (times_factor f ns) k (pos 0)
  product_is = to_z-of_z {w = w32} product_fits ∙ read ∙ sym (times_at f ns k l)

-- ## The numbers so far

pub none_over : (l : List ℕ) (o : ℕ) → l ≡ overwritten l o (group_bytes [])
unfolding overwritten group_bytes
none_over l o =
    let e : o + 0 ≡ o = omega arith in
    rw e (sym (take-append-drop o l))

group_more : (zs : List ℤ) (k : ℕ) → k < length zs → group_bytes (take (k + 1) zs) ≡ group_bytes (take k zs) ++ bytes_of 4 (bits_of 32 (get_or zs k (pos 0)))
unfolding group_bytes
group_more [] k l = absurd (omega arith)
group_more (z ∷ zs) zero l = append-nil (bytes_of 4 (bits_of 32 z))
group_more (z ∷ zs) (suc k) l =
    let e : suc k + 1 ≡ suc (k + 1) = omega arith in
    rw e (ap (λ (x : List ℕ). bytes_of 4 (bits_of 32 z) ++ x) (group_more zs k (omega arith)) ∙ sym (append_assoc (bytes_of 4 (bits_of 32 z)) (group_bytes (take k zs)) (bytes_of 4 (bits_of 32 (get_or zs k (pos 0))))))

-- one more is stored
pub stored_more : (out l : List ℕ) {ys : List ℕ} (zs : List ℤ) (p k : ℕ) → k < length zs → p + 4 * length zs ≤ length l
    → out ≡ overwritten l p (group_bytes (take k zs)) → ys ≡ bytes_of 4 (bits_of 32 (get_or zs k (pos 0)))
    → put_mid (p + 4 * k) (p + 4 * k + 4 - (p + 4 * k)) out ys ≡ overwritten l p (group_bytes (take (k + 1) zs))
stored_more out l zs p k h room i is =
    let new = bytes_of 4 (bits_of 32 (get_or zs k (pos 0))) in
    let size : length (group_bytes (take k zs)) ≡ 4 * k = size_group (take k zs) ∙ simp length-take (omega arith) in
    let place : p + 4 * k ≡ p + length (group_bytes (take k zs)) = omega arith in
    over out new (p + 4 * k) (p + 4 * k + 4) refl is
    ∙ rw (i, place) (stores_join l (group_bytes (take k zs)) new p (omega (arith, size)))
    ∙ ap (overwritten l p) (sym (group_more zs k h))

-- ## The group

pub lowered_is : (h l out : List ℕ) (k p q : ℕ) (ns : List ℤ) (z : ℤ) (s : Scale) → ns ≡ numbers_in h k p → z ≡ number2 h q → s ≡ scale_of ns z → Fit32 ns
    → out ≡ overwritten l p (group_bytes (times_factor s.factor ns)) → overwritten out q (bytes_of 2 (bits_of 16 s.scalar)) ≡ group_lowered k p q h l
unfolding group_lowered scale_of
lowered_is h l out k p q ns z s n e t w i =
    rw (i, t, factor_is ns z w, n, e)

-- ## A header that stands whole, as its record holds it

module _ (s h : List ℕ) (at : ℕ) (e : h ≡ bytes_at s at header_size) where
  elevations_stored : (l : List ℕ) → 70 ≤ length l → group_lowered 7 40 68 h l ≡ overwritten l 40 (elevations_copied s at)
  unfolding group_lowered elevations_copied
  elevations_stored l r =
      let ns = group_bytes (group_numbers (elevations_at s at)) in
      let scalar = bytes_of 2 (bits_of 16 (group_scalar (elevations_at s at))) in
      let size : length ns ≡ 28 = size_held (number2 s (at + 68)) (numbers_in s 7 (at + 40)) 7 (size_in s 7 (at + 40)) in
      let place : 68 ≡ 40 + length ns = omega arith in
      rw (e, numbers_inside s at 7 40 (omega arith), scalar_inside s at 68 (omega arith))
      (ap (λ (x : ℕ). overwritten (overwritten l 40 ns) x scalar) place ∙ stores_join l ns scalar 40 (omega (arith, length_bytes 2 (bits_of 16 (group_scalar (elevations_at s at))))))

  coordinates_stored : (l : List ℕ) → 88 ≤ length l → group_lowered 4 72 70 h l ≡ overwritten l 70 (coordinates_copied s at)
  unfolding group_lowered coordinates_copied
  coordinates_stored l r =
      let ns = group_bytes (group_numbers (coordinates_at s at)) in
      let scalar = bytes_of 2 (bits_of 16 (group_scalar (coordinates_at s at))) in
      let place : 72 ≡ 70 + length scalar = omega (arith, length_bytes 2 (bits_of 16 (group_scalar (coordinates_at s at)))) in
      rw (e, numbers_inside s at 4 72 (omega arith), scalar_inside s at 70 (omega arith))
      (ap (λ (x : ℕ). overwritten (overwritten l x ns) 70 scalar) place ∙ stores_join_front l scalar ns 70 (omega arith))

  field_inside : (own b : ℕ) (l : List ℕ) → b - 1 + 2 ≤ header_size → field_filled h own 0 b l ≡ field_filled s own at b l
  field_inside own b l r =
      let place : 0 + (b - 1) ≡ b - 1 = omega arith in
      let held : bytes_at h (0 + (b - 1)) 2 ≡ bytes_at s (at + (b - 1)) 2 = rw (e, place) (bytes_inside s at header_size (b - 1) 2 r) in
      ap (λ (v : List ℕ). overwritten l (0 + (b - 1)) (bytes_of 2 (own_or own (number v)))) held

  -- LAW. The header with both groups taken to their smallest powers, and 115 and 117 filled in.
  pub header_stored : (n i : ℕ) → field_filled h i 0 117 (field_filled h n 0 115 (group_lowered 4 72 70 h (group_lowered 7 40 68 h h))) ≡ header_copied s n i at
  unfolding header_copied groups_copied
  header_stored n i =
      let size : length h ≡ header_size = ap length e ∙ size_bytes s at header_size in
      let first : group_lowered 7 40 68 h h ≡ overwritten h 40 (elevations_copied s at) = elevations_stored h (omega arith) in
      let kept : length (overwritten h 40 (elevations_copied s at)) ≡ length h = size_over h (elevations_copied s at) 40 (omega (arith, size_elevations s at)) in
      let second : group_lowered 4 72 70 h (overwritten h 40 (elevations_copied s at)) ≡ overwritten (overwritten h 40 (elevations_copied s at)) 70 (coordinates_copied s at) =
      coordinates_stored (overwritten h 40 (elevations_copied s at)) (omega arith) in
      let groups : group_lowered 4 72 70 h (group_lowered 7 40 68 h h) ≡ overwritten (overwritten (bytes_at s at header_size) 40 (elevations_copied s at)) 70 (coordinates_copied s at) =
      ap (group_lowered 4 72 70 h) first ∙ second ∙ ap (λ (x : List ℕ). overwritten (overwritten x 40 (elevations_copied s at)) 70 (coordinates_copied s at)) e in
      ap (λ (x : List ℕ). field_filled h i 0 117 (field_filled h n 0 115 x)) groups ∙ field_inside i 117 _ (omega arith) ∙ ap (field_filled s i at 117) (field_inside n 115 _ (omega arith))
