-- The groups of a header in their bytes. Each byte is below 256 where a law says so; nothing else is assumed.
use mathlib.Core.Path.{◌≡◌, refl, sym, ap, ◌∙◌, subst}
use mathlib.Core.List.{List, [], ◌∷◌, map}
use Prim.Native.Nat.{ℕ, zero, suc, ◌+◌, ◌*◌, ◌^◌}
use native.Mathlib.Omega.{arith}
use lib.ListN.{length, length-map, length-append}
use lib.IntN.{ℤ, pos, ◌*ℤ◌}
use Rattle.numbers.specs.Walk.{bytes_at}
use Rattle.numbers.specs.BigEndian.{number, bytes_of}
use Rattle.numbers.specs.TwosComplement.{bits_of}
use Rattle.numbers.specs.Terms.{All, Bytes}
use Rattle.numbers.proofs.WalkLaws.{size_walk, flat_size}
use Rattle.numbers.proofs.ByteLaws.{number_at_lem}
use Rattle.numbers.proofs.SignLaws.{mag_signed}
use Rattle.scalars.specs.Scalar.{power_of, scaled_values, group_numbers, group_scalar, scale_of}
use Rattle.scalars.specs.Parts.{Fit32}
use Rattle.scalars.proofs.Powers.{power_lt, smallest_lt, group_scaled}
use Rattle.scalars.proofs.Laws.{fit_held, length_held}
use Rattle.reel.specs.Layout.{trace_widths, trace_fields, field_number}
use Rattle.reel.specs.Meaning.{elevation_fields, coordinate_fields}
use Rattle.headers.specs.Parts.{number2, number4, numbers_in, times_factor, group_bytes, elevations_at, coordinates_at, elevations_copied, coordinates_copied}

-- the numbers one by one
pub numbers_four : (s : List ℕ) (at : ℕ) → numbers_in s 4 at ≡ number4 s at ∷ number4 s (at + 4) ∷ number4 s (at + 8) ∷ number4 s (at + 12) ∷ []
unfolding numbers_in
numbers_four s at =
    let b : at + 4 + 4 + 4 ≡ at + 12 = omega arith in
    let a : at + 4 + 4 ≡ at + 8 = omega arith in
    rw (b, a)

pub numbers_seven : (s : List ℕ) (at : ℕ)
    → numbers_in s 7 at ≡ number4 s at ∷ number4 s (at + 4) ∷ number4 s (at + 8) ∷ number4 s (at + 12) ∷ number4 s (at + 16) ∷ number4 s (at + 20) ∷ number4 s (at + 24) ∷ []
unfolding numbers_in
numbers_seven s at =
    let e : at + 4 + 4 + 4 + 4 + 4 + 4 ≡ at + 24 = omega arith in
    let d : at + 4 + 4 + 4 + 4 + 4 ≡ at + 20 = omega arith in
    let c : at + 4 + 4 + 4 + 4 ≡ at + 16 = omega arith in
    let b : at + 4 + 4 + 4 ≡ at + 12 = omega arith in
    let a : at + 4 + 4 ≡ at + 8 = omega arith in
    rw (e, d, c, b, a)

-- they are those of the fields
pub elevations_in_lem : (s : List ℕ) (at : ℕ) → map (field_number s at) elevation_fields ≡ numbers_in s 7 (at + 40)
unfolding elevation_fields trace_fields trace_widths
elevations_in_lem s at =
    let a : at + 44 ≡ at + 40 + 4 = omega arith in
    let b : at + 48 ≡ at + 40 + 8 = omega arith in
    let c : at + 52 ≡ at + 40 + 12 = omega arith in
    let d : at + 56 ≡ at + 40 + 16 = omega arith in
    let e : at + 60 ≡ at + 40 + 20 = omega arith in
    let f : at + 64 ≡ at + 40 + 24 = omega arith in
    rw (a, b, c, d, e, f) (sym (numbers_seven s (at + 40)))

pub coordinates_in_lem : (s : List ℕ) (at : ℕ) → map (field_number s at) coordinate_fields ≡ numbers_in s 4 (at + 72)
unfolding coordinate_fields trace_fields trace_widths
coordinates_in_lem s at =
    let a : at + 76 ≡ at + 72 + 4 = omega arith in
    let b : at + 80 ≡ at + 72 + 8 = omega arith in
    let c : at + 84 ≡ at + 72 + 12 = omega arith in
    rw (a, b, c) (sym (numbers_four s (at + 72)))

-- LAW. The numbers of a group that a record holds are those on the reel times the factor of its scale; and these fit.
pub factor_is : (ns : List ℤ) (z : ℤ) → Fit32 ns → times_factor (scale_of ns z).factor ns ≡ group_numbers (scaled_values z ns)
unfolding scale_of
factor_is ns z w = sym (group_scaled ns (power_of z) (power_lt z) w)

pub factor_fits : (ns : List ℤ) (z : ℤ) → Fit32 ns → Fit32 (times_factor (scale_of ns z).factor ns)
factor_fits ns z w = subst Fit32 (sym (factor_is ns z w)) (fit_held (scaled_values z ns) (smallest_lt ns (power_of z) (power_lt z) w))

-- ## Numbers in four bytes each

pub size_group : (zs : List ℤ) → length (group_bytes zs) ≡ length zs * 4
unfolding group_bytes
size_group zs = flat_size (λ z. bytes_of 4 (bits_of 32 z)) (λ z. Unit {0}) 4 (λ z p. refl) zs (all zs)
  where
    all : (l : List ℤ) → All (λ z. Unit {0}) l
    all [] = tt
    all (x ∷ l) = (tt, all l)

pub size_in : (s : List ℕ) (k at : ℕ) → length (numbers_in s k at) ≡ k
unfolding numbers_in
size_in s k at = size_walk (number4 s) 4 k at

-- a header's numbers fit
pub numbers_fit : (s : List ℕ) → Bytes s → (k at : ℕ) → Fit32 (numbers_in s k at)
unfolding numbers_in
numbers_fit s b zero at = tt
numbers_fit s b (suc k) at = (mag_signed 32 (number (bytes_at s at 4)) (omega arith) (number_at_lem s b at 4), numbers_fit s b k (at + 4))

pub size_held : (z : ℤ) (ns : List ℤ) (n : ℕ) → length ns ≡ n → length (group_bytes (group_numbers (scaled_values z ns))) ≡ n * 4
size_held z ns n e = size_group (group_numbers (scaled_values z ns)) ∙ ap (λ (x : ℕ). x * 4) (length_held (scaled_values z ns) ∙ length-map ns (λ n. n *ℤ pos (10 ^ power_of z)) ∙ e)

pub size_elevations : (s : List ℕ) (at : ℕ) → length (elevations_copied s at) ≡ 30
unfolding elevations_copied
size_elevations s at =
    let n = size_held (number2 s (at + 68)) (numbers_in s 7 (at + 40)) 7 (size_in s 7 (at + 40)) in
    length-append (group_bytes (group_numbers (elevations_at s at))) (bytes_of 2 (bits_of 16 (group_scalar (elevations_at s at)))) ∙ omega arith

pub size_coordinates : (s : List ℕ) (at : ℕ) → length (coordinates_copied s at) ≡ 18
unfolding coordinates_copied
size_coordinates s at =
    let n = size_held (number2 s (at + 70)) (numbers_in s 4 (at + 72)) 4 (size_in s 4 (at + 72)) in
    length-append (bytes_of 2 (bits_of 16 (group_scalar (coordinates_at s at)))) (group_bytes (group_numbers (coordinates_at s at))) ∙ omega arith
