-- The groups of a header in their bytes, and a record's header as the code writes it: for the functions inside this crate.
use Rattle.std.specs.Prelude.{ℕ, ◌+◌, List, ◌++◌, map, eqb, ℤ, ◌*ℤ◌}
use Rattle.numbers.specs.Walk.{pick, walk, flat, bytes_at, overwritten}
use Rattle.numbers.specs.Places.{byte_place}
use Rattle.numbers.specs.BigEndian.{number, bytes_of}
use Rattle.numbers.specs.TwosComplement.{signed_of, bits_of}
use Rattle.scalars.specs.Scalar.{scaled_values, group_numbers, group_scalar}
use Rattle.reel.specs.Layout.{number16}
use Rattle.headers.specs.Header.{header_size}

-- The signed number in four bytes, and in two.
abbrev pub number4 : List ℕ → ℕ → ℤ
number4 s p = signed_of 32 (number (bytes_at s p 4))

abbrev pub number2 : List ℕ → ℕ → ℤ
number2 s p = signed_of 16 (number (bytes_at s p 2))

-- The numbers of k fields of four bytes from a place on.
unfoldable pub numbers_in : List ℕ → ℕ → ℕ → List ℤ
numbers_in s k at = walk (number4 s) 4 k at

-- Numbers times a factor.
abbrev pub times_factor : ℤ → List ℤ → List ℤ
times_factor factor ns = map (λ n. n *ℤ factor) ns

-- Numbers in four bytes each.
unfoldable pub group_bytes : List ℤ → List ℕ
group_bytes zs = flat (map (λ z. bytes_of 4 (bits_of 32 z)) zs)

-- The scaled values of the seven elevations and of the four coordinates of the header at the place `at`.
abbrev pub elevations_at : List ℕ → ℕ → List ℤ
elevations_at s at = scaled_values (number2 s (at + 68)) (numbers_in s 7 (at + 40))

abbrev pub coordinates_at : List ℕ → ℕ → List ℤ
coordinates_at s at = scaled_values (number2 s (at + 70)) (numbers_in s 4 (at + 72))

-- Its fields 41 to 69, 30 bytes, and 71 to 85, 18 bytes, as a record has them.
unfoldable pub elevations_copied : List ℕ → ℕ → List ℕ
elevations_copied s at = group_bytes (group_numbers (elevations_at s at)) ++ bytes_of 2 (bits_of 16 (group_scalar (elevations_at s at)))

unfoldable pub coordinates_copied : List ℕ → ℕ → List ℕ
coordinates_copied s at = bytes_of 2 (bits_of 16 (group_scalar (coordinates_at s at))) ++ group_bytes (group_numbers (coordinates_at s at))

-- The copy of a header, with a group at its smallest power: k numbers from the place p on, under the scalar at the place q.
unfoldable pub group_lowered : ℕ → ℕ → ℕ → List ℕ → List ℕ → List ℕ
group_lowered k p q header l =
    overwritten (overwritten l p (group_bytes (group_numbers (scaled_values (number2 header q) (numbers_in header k p))))) q
    (bytes_of 2 (bits_of 16 (group_scalar (scaled_values (number2 header q) (numbers_in header k p)))))

-- A trace's own number, or the reel's where it is 0.
abbrev pub own_or : ℕ → ℕ → ℕ
own_or own v = pick (eqb v 0) own v

-- The header of the trace at the place `at`, copied to the front of a list, with its field b filled in.
abbrev pub field_filled : List ℕ → ℕ → ℕ → ℕ → List ℕ → List ℕ
field_filled s own at b l = overwritten l (byte_place 0 b) (bytes_of 2 (own_or own (number16 s (byte_place at b))))

-- The fields of the trace at the place `at`, its groups at their smallest powers: fields 41 to 69, then 71 to 85.
unfoldable pub groups_copied : List ℕ → ℕ → List ℕ
groups_copied s at = overwritten (overwritten (bytes_at s at header_size) (byte_place 0 41) (elevations_copied s at)) (byte_place 0 71) (coordinates_copied s at)

-- The same with 115 and 117 filled in.
unfoldable pub header_copied : List ℕ → ℕ → ℕ → ℕ → List ℕ
header_copied s n i at = field_filled s i at 117 (field_filled s n at 115 (groups_copied s at))
