-- A header's meaning and the list of its 71 numbers determine each other. No byte plays a part here. Assumes nothing.
use mathlib.Core.Path.{◌≡◌, refl, sym, ap, ◌∙◌}
use mathlib.Core.List.{List, [], ◌∷◌, ◌++◌, map}
use mathlib.Core.Bool.{true}
use Prim.Native.Nat.{ℕ, ◌+◌, ◌≤◌, ◌<◌}
use native.Mathlib.Omega.{arith}
use lib.ListN.{length, get_or, take, drop, length-drop, take-append-drop}
use lib.Seq.{take_at, drop_at, get_or-drop, length-take-le}
use lib.IntN.{ℤ, pos}
use Rattle.scalars.specs.Scalar.{powers, scaled_values, smallest, group_numbers, group_scalar, is_allowed, is_smallest}
use Rattle.scalars.proofs.Laws.{scale_back, held_again, length_held, smallest_held, scalar_held}
use Rattle.reel.specs.Layout.{Field, trace_widths, trace_fields}
use Rattle.reel.specs.Meaning.{elevation_fields, coordinate_fields, unscaled_fields, Header, header_of}
use Rattle.headers.specs.Header.{record_numbers}

-- ## The six parts of 71 numbers

-- before 41, fields 41 to 65, 69, 71, 73 to 85, and behind
abbrev pub joined : List ℤ → List ℤ → ℤ → ℤ → List ℤ → List ℤ → List ℤ
joined a es e c cs b = a ++ (es ++ (e ∷ c ∷ (cs ++ b)))

abbrev pub front : List ℤ → List ℤ
front zs = take 12 zs

abbrev pub elevations_in : List ℤ → List ℤ
elevations_in zs = take 7 (drop 12 zs)

abbrev pub scalars_on : List ℤ → List ℤ
scalars_on zs = drop 7 (drop 12 zs)

abbrev pub elevation_scalar_in : List ℤ → ℤ
elevation_scalar_in zs = get_or (scalars_on zs) 0 (pos 0)

abbrev pub coordinate_scalar_in : List ℤ → ℤ
coordinate_scalar_in zs = get_or (scalars_on zs) 1 (pos 0)

abbrev pub coordinates_in : List ℤ → List ℤ
coordinates_in zs = take 4 (drop 2 (scalars_on zs))

abbrev pub behind : List ℤ → List ℤ
behind zs = drop 4 (drop 2 (scalars_on zs))

two : (l : List ℤ) → 2 ≤ length l → l ≡ get_or l 0 (pos 0) ∷ get_or l 1 (pos 0) ∷ drop 2 l
two [] h = absurd (omega arith)
two (x ∷ []) h = absurd (omega arith)
two (x ∷ y ∷ l) h = refl

parts_joined : (zs : List ℤ) → length zs ≡ 71
    → zs ≡ joined (front zs) (elevations_in zs) (elevation_scalar_in zs) (coordinate_scalar_in zs) (coordinates_in zs) (behind zs)
parts_joined zs n =
    sym (take-append-drop 12 zs)
    ∙ ap (λ (l : List ℤ). take 12 zs ++ l)
    (sym (take-append-drop 7 (drop 12 zs))
    ∙ ap (λ (l : List ℤ). elevations_in zs ++ l)
    (two (scalars_on zs) (simp length-drop (omega arith))
    ∙ ap (λ (l : List ℤ). elevation_scalar_in zs ∷ coordinate_scalar_in zs ∷ l) (sym (take-append-drop 4 (drop 2 (scalars_on zs))))))

-- ## What a list of 71 numbers means

unfoldable pub listed : List ℤ → Header
listed zs =
    record {
      numbers = front zs ++ behind zs;
      elevations = scaled_values (elevation_scalar_in zs) (elevations_in zs);
      coordinates = scaled_values (coordinate_scalar_in zs) (coordinates_in zs);
    }

-- by byte numbers or by the list: the fields are in this order
pub header_listed : (f : Field → ℤ) → header_of f ≡ listed (map f trace_fields)
unfolding header_of listed elevation_fields coordinate_fields unscaled_fields trace_fields trace_widths
header_listed f = refl

-- the meaning of six parts
listed_joined : (a es : List ℤ) (e c : ℤ) (cs b : List ℤ) → length a ≡ 12 → length es ≡ 7 → length cs ≡ 4
    → listed (joined a es e c cs b) ≡ record { numbers = a ++ b; elevations = scaled_values e es; coordinates = scaled_values c cs }
unfolding listed
listed_joined a es e c cs b la le lc =
    rw (take_at a (es ++ (e ∷ c ∷ (cs ++ b))) 12 la, drop_at a (es ++ (e ∷ c ∷ (cs ++ b))) 12 la, take_at es (e ∷ c ∷ (cs ++ b)) 7 le, drop_at es (e ∷ c ∷ (cs ++ b)) 7 le, take_at cs b 4 lc, drop_at cs b 4 lc)

-- ## There and back

-- A header as reels have them: 58 numbers, seven elevations and four coordinates, each group with a power that serves it.
pub record Scaled (h : Header) : Type 0 where
  pub others : length h.numbers ≡ 58
  pub seven : length h.elevations ≡ 7
  pub four : length h.coordinates ≡ 4
  pub elevations_served : smallest h.elevations < powers
  pub coordinates_served : smallest h.coordinates < powers

-- LAW. The 71 numbers of a header mean the header.
pub listed_numbers : (h : Header) → Scaled h → listed (record_numbers h) ≡ h
unfolding record_numbers
listed_numbers h p =
    listed_joined (take 12 h.numbers) (group_numbers h.elevations) (group_scalar h.elevations) (group_scalar h.coordinates) (group_numbers h.coordinates) (drop 12 h.numbers)
    (length-take-le 12 h.numbers (omega (arith, p.others))) (length_held h.elevations ∙ p.seven) (length_held h.coordinates ∙ p.four)
    ∙ rw (take-append-drop 12 h.numbers, scale_back h.elevations p.elevations_served, scale_back h.coordinates p.coordinates_served)

-- LAW. So headers of the same 71 numbers are the same.
pub numbers_only : (h k : Header) → Scaled h → Scaled k → record_numbers h ≡ record_numbers k → h ≡ k
numbers_only h k p q e = sym (listed_numbers h p) ∙ ap listed e ∙ listed_numbers k q

-- LAW. 71 numbers, each group under the scalar of its smallest power, are those of what they mean.
pub numbers_listed : (zs : List ℤ) → length zs ≡ 71 → Scaled (listed zs)
    → is_smallest (elevations_in zs) (elevation_scalar_in zs) ≡ true → is_smallest (coordinates_in zs) (coordinate_scalar_in zs) ≡ true
    → record_numbers (listed zs) ≡ zs
unfolding record_numbers listed
numbers_listed zs n p e c =
    let a = held_again (elevations_in zs) (elevation_scalar_in zs) p.elevations_served e in
    let b = held_again (coordinates_in zs) (coordinate_scalar_in zs) p.coordinates_served c in
    let f : length (front zs) ≡ 12 = length-take-le 12 zs (omega arith) in
    rw (a.0, a.1, b.0, b.1, take_at (front zs) (behind zs) 12 f, drop_at (front zs) (behind zs) 12 f) (sym (parts_joined zs n))

-- ## Where things stand among the 71 numbers of a header

module _ (h : Header) (p : Scaled h) where
  abbrev es : List ℤ
  es = group_numbers h.elevations

  abbrev cs : List ℤ
  cs = group_numbers h.coordinates

  abbrev on : List ℤ
  on = group_scalar h.elevations ∷ group_scalar h.coordinates ∷ (cs ++ drop 12 h.numbers)

  size_front : length (take 12 h.numbers) ≡ 12
  size_front = length-take-le 12 h.numbers (omega (arith, p.others))

  size_elevations : length es ≡ 7
  size_elevations = length_held h.elevations ∙ p.seven

  size_coordinates : length cs ≡ 4
  size_coordinates = length_held h.coordinates ∙ p.four

  drop_front : drop 12 (record_numbers h) ≡ es ++ on
  unfolding record_numbers
  drop_front = drop_at (take 12 h.numbers) (es ++ on) 12 size_front

  drop_elevations : drop 7 (drop 12 (record_numbers h)) ≡ on
  drop_elevations = rw drop_front (drop_at es on 7 size_elevations)

  pub elevations_are : elevations_in (record_numbers h) ≡ group_numbers h.elevations
  elevations_are = rw drop_front (take_at es on 7 size_elevations)

  elevation_scalar_is : elevation_scalar_in (record_numbers h) ≡ group_scalar h.elevations
  elevation_scalar_is = rw drop_elevations

  coordinate_scalar_is : coordinate_scalar_in (record_numbers h) ≡ group_scalar h.coordinates
  coordinate_scalar_is = rw drop_elevations

  pub coordinates_are : coordinates_in (record_numbers h) ≡ group_numbers h.coordinates
  coordinates_are = rw drop_elevations (take_at cs (drop 12 h.numbers) 4 size_coordinates)

  -- LAW. What stands behind field 85 stands 13 places later than among the 58: 115 and 117 are the 39th and 40th of the 71, and the 26th
  -- and 27th of the 58.
  pub behind_at : (k : ℕ) → get_or (record_numbers h) (25 + k) (pos 0) ≡ get_or h.numbers (12 + k) (pos 0)
  behind_at k =
      let z = record_numbers h in
      let n : 25 + k ≡ 12 + (7 + (2 + (4 + k))) = omega arith in
      let rest : behind z ≡ drop 12 h.numbers = rw drop_elevations (drop_at cs (drop 12 h.numbers) 4 size_coordinates) in
      ap (λ (x : ℕ). get_or z x (pos 0)) n
      ∙ sym (get_or-drop 4 (drop 2 (drop 7 (drop 12 z))) k (pos 0) ∙ get_or-drop 2 (drop 7 (drop 12 z)) (4 + k) (pos 0) ∙ get_or-drop 7 (drop 12 z) (2 + (4 + k)) (pos 0) ∙ get_or-drop 12 z (7 + (2 + (4 + k))) (pos 0))
      ∙ ap (λ (l : List ℤ). get_or l k (pos 0)) rest
      ∙ get_or-drop 12 h.numbers k (pos 0)

  -- LAW. The scalars of the record's header are those of the smallest powers, and a reel may hold them.
  pub elevations_smallest : is_smallest (elevations_in (record_numbers h)) (elevation_scalar_in (record_numbers h)) ≡ true
  elevations_smallest = rw (elevations_are, elevation_scalar_is) (smallest_held h.elevations p.elevations_served)

  pub coordinates_smallest : is_smallest (coordinates_in (record_numbers h)) (coordinate_scalar_in (record_numbers h)) ≡ true
  coordinates_smallest = rw (coordinates_are, coordinate_scalar_is) (smallest_held h.coordinates p.coordinates_served)

  pub elevation_scalar_allowed : is_allowed (elevation_scalar_in (record_numbers h)) ≡ true
  elevation_scalar_allowed = rw elevation_scalar_is (scalar_held h.elevations p.elevations_served)

  pub coordinate_scalar_allowed : is_allowed (coordinate_scalar_in (record_numbers h)) ≡ true
  coordinate_scalar_allowed = rw coordinate_scalar_is (scalar_held h.coordinates p.coordinates_served)
