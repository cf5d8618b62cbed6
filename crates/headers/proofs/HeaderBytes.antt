-- A header's meaning and its 180 bytes in a record determine each other. Each byte is below 256; nothing else is assumed.
use mathlib.Core.Path.{◌≡◌, refl, sym, ap, ◌∙◌}
use mathlib.Core.List.{List, [], ◌∷◌, ◌++◌, map}
use mathlib.Core.Bool.{true}
use Prim.Native.Nat.{ℕ, zero, suc, ◌+◌}
use native.Mathlib.Nat.{add-zero}
use native.Mathlib.Omega.{arith}
use borrow.Author.Tests.{not-false}
use lib.ListN.{length, take, drop, replicate, length-append, length-map}
use lib.Seq.{take_at, drop_at}
use lib.IntN.{ℤ}
use Rattle.numbers.specs.Walk.{bytes_at}
use Rattle.numbers.specs.Cause.{Fine}
use Rattle.numbers.proofs.CauseLaws.{passed, then_fine}
use Rattle.numbers.specs.Terms.{Bytes}
use Rattle.scalars.specs.Scalar.{power_of, group_numbers, group_scalar, is_allowed, is_smallest}
use Rattle.scalars.specs.Parts.{Fit32}
use Rattle.scalars.proofs.Powers.{power_lt, smallest_lt}
use Rattle.scalars.proofs.Laws.{fit_held, scalar_fits16, length_held}
use Rattle.reel.specs.Layout.{Field, trace_widths, trace_fields, elevation_scalar, coordinate_scalar, field_number}
use Rattle.headers.proofs.NumberLaws.{fields_again}
use Rattle.headers.proofs.TraceLaws.{trace_counts}
use Rattle.headers.proofs.Ranges.{Fit, Some, all_some, some_of, fit_append, numbers_size, size_numbers, numbers_inj, fields_fit}
use Rattle.reel.specs.Meaning.{elevation_fields, coordinate_fields, unscaled_fields, Header, header_of}
use Rattle.headers.specs.Header.{number_bytes, record_numbers, header_bytes, header_size, smallest_cause, smallest_causes}
use Rattle.headers.proofs.Listed.{front, elevations_in, scalars_on, elevation_scalar_in, coordinate_scalar_in, coordinates_in, behind, listed, header_listed, Scaled, listed_numbers, numbers_only, numbers_listed, elevations_smallest, coordinates_smallest, elevation_scalar_allowed, coordinate_scalar_allowed}

-- ## Fields that fit, in parts

-- the widths before field 41, and behind field 85
unfoldable pub widths_front : List ℕ
widths_front = replicate 7 4 ++ (replicate 4 2 ++ (4 ∷ []))

unfoldable pub widths_behind : List ℕ
widths_behind = replicate 46 2

pub widths_are : trace_widths ≡ widths_front ++ (replicate 7 4 ++ (2 ∷ 2 ∷ (replicate 4 4 ++ widths_behind)))
unfolding trace_widths widths_front widths_behind
widths_are = refl

size_front : length widths_front ≡ 12
unfolding widths_front
size_front = refl

size_behind : length widths_behind ≡ 46
unfolding widths_behind
size_behind = refl

fit_length : (ws : List ℕ) (zs : List ℤ) → Fit ws zs → length zs ≡ length ws
fit_length [] [] p = refl
fit_length [] (z ∷ zs) p = absurd p
fit_length (w ∷ ws) [] p = absurd p
fit_length (w ∷ ws) (z ∷ zs) p = ap suc (fit_length ws zs p.2)

fit_split : (ws us : List ℕ) (zs : List ℤ) (k : ℕ) → length ws ≡ k → Fit (ws ++ us) zs → Fit ws (take k zs) × Fit us (drop k zs)
fit_split [] us zs zero e p = (tt, p)
fit_split [] us zs (suc k) e p = absurd (omega arith)
fit_split (w ∷ ws) us zs zero e p = absurd (let q : suc (length ws) ≡ 0 = e in omega arith)
fit_split (w ∷ ws) us [] (suc k) e p = absurd p
fit_split (w ∷ ws) us (z ∷ zs) (suc k) e p = let q = fit_split ws us zs k (omega arith) p.2 in ((p.0, p.1, q.0), q.1)

-- four bytes hold just the numbers of 32 signed bits
fit_words : (k : ℕ) (ns : List ℤ) → Fit (replicate k 4) ns → Fit32 ns
fit_words zero [] p = tt
fit_words zero (n ∷ ns) p = absurd p
fit_words (suc k) [] p = absurd p
fit_words (suc k) (n ∷ ns) p = (p.1, fit_words k ns p.2)

words_fit_lem : (k : ℕ) (ns : List ℤ) → length ns ≡ k → Fit32 ns → Fit (replicate k 4) ns
words_fit_lem zero [] e w = tt
words_fit_lem zero (n ∷ ns) e w = absurd (let q : suc (length ns) ≡ 0 = e in omega arith)
words_fit_lem (suc k) [] e w = absurd (let q : 0 ≡ suc k = e in omega arith)
words_fit_lem (suc k) (n ∷ ns) e w = (omega arith, w.0, words_fit_lem k ns (omega arith) w.1)

-- ## Headers as reels and records have them

-- each of the 58 numbers fits its field too
pub record HeaderFits (h : Header) : Type 0 where
  pub scaled : Scaled h
  pub before : Fit widths_front (take 12 h.numbers)
  pub after : Fit widths_behind (drop 12 h.numbers)

-- LAW. Of 71 numbers that fit their fields, the elevations and the coordinates fit 32 signed bits.
groups_fit : (zs : List ℤ) → Fit trace_widths zs → Fit32 (elevations_in zs) × Fit32 (coordinates_in zs)
groups_fit zs p =
    let a = fit_split widths_front (replicate 7 4 ++ (2 ∷ 2 ∷ (replicate 4 4 ++ widths_behind))) zs 12 size_front (rw widths_are at p) in
    let b = fit_split (replicate 7 4) (2 ∷ 2 ∷ (replicate 4 4 ++ widths_behind)) (drop 12 zs) 7 refl a.1 in
    let c = fit_split (2 ∷ 2 ∷ []) (replicate 4 4 ++ widths_behind) (scalars_on zs) 2 refl b.1 in
    let d = fit_split (replicate 4 4) widths_behind (drop 2 (scalars_on zs)) 4 refl c.1 in
    (fit_words 7 (elevations_in zs) b.0, fit_words 4 (coordinates_in zs) d.0)

-- LAW. 71 numbers that fit their fields mean such a header.
pub listed_fits : (zs : List ℤ) → Fit trace_widths zs → HeaderFits (listed zs)
unfolding listed
listed_fits zs p =
    let a = fit_split widths_front (replicate 7 4 ++ (2 ∷ 2 ∷ (replicate 4 4 ++ widths_behind))) zs 12 size_front (rw widths_are at p) in
    let b = fit_split (replicate 7 4) (2 ∷ 2 ∷ (replicate 4 4 ++ widths_behind)) (drop 12 zs) 7 refl a.1 in
    let c = fit_split (2 ∷ 2 ∷ []) (replicate 4 4 ++ widths_behind) (scalars_on zs) 2 refl b.1 in
    let d = fit_split (replicate 4 4) widths_behind (drop 2 (scalars_on zs)) 4 refl c.1 in
    let n : length (front zs) ≡ 12 = fit_length widths_front (front zs) a.0 ∙ size_front in
    let m : length (behind zs) ≡ 46 = fit_length widths_behind (behind zs) d.1 ∙ size_behind in
    let g = groups_fit zs p in
    record {
      scaled =
          record {
            others = length-append (front zs) (behind zs) ∙ omega arith;
            seven = length-map (elevations_in zs) _ ∙ fit_length (replicate 7 4) (elevations_in zs) b.0;
            four = length-map (coordinates_in zs) _ ∙ fit_length (replicate 4 4) (coordinates_in zs) d.0;
            elevations_served = smallest_lt (elevations_in zs) (power_of (elevation_scalar_in zs)) (power_lt (elevation_scalar_in zs)) g.0;
            coordinates_served = smallest_lt (coordinates_in zs) (power_of (coordinate_scalar_in zs)) (power_lt (coordinate_scalar_in zs)) g.1;
          };
      before = rw (take_at (front zs) (behind zs) 12 n) a.0;
      after = rw (drop_at (front zs) (behind zs) 12 n) d.1;
    }

-- LAW. The 71 numbers of such a header fit their fields.
pub numbers_fit : (h : Header) → HeaderFits h → Fit trace_widths (record_numbers h)
unfolding record_numbers
numbers_fit h p =
    let s = p.scaled in
    let e = words_fit_lem 7 (group_numbers h.elevations) (length_held h.elevations ∙ s.seven) (fit_held h.elevations s.elevations_served) in
    let c = words_fit_lem 4 (group_numbers h.coordinates) (length_held h.coordinates ∙ s.four) (fit_held h.coordinates s.coordinates_served) in
    let back : List ℤ = group_numbers h.coordinates ++ drop 12 h.numbers in
    let b : Fit (replicate 4 4 ++ widths_behind) back = fit_append (replicate 4 4) widths_behind (group_numbers h.coordinates) (drop 12 h.numbers) c p.after in
    let z : Fit (2 ∷ 2 ∷ (replicate 4 4 ++ widths_behind)) (group_scalar h.elevations ∷ group_scalar h.coordinates ∷ back) =
    (omega arith, scalar_fits16 h.elevations s.elevations_served, (omega arith, scalar_fits16 h.coordinates s.coordinates_served, b)) in
    rw widths_are
    (fit_append widths_front (replicate 7 4 ++ (2 ∷ 2 ∷ (replicate 4 4 ++ widths_behind))) (take 12 h.numbers) _ p.before
    (fit_append (replicate 7 4) (2 ∷ 2 ∷ (replicate 4 4 ++ widths_behind)) (group_numbers h.elevations) (group_scalar h.elevations ∷ group_scalar h.coordinates ∷ back) e z))

-- ## Its 71 numbers and 180 bytes, whatever its fields hold

header_count : (f : Field → ℤ) → length (record_numbers (header_of f)) ≡ 71
unfolding record_numbers header_of unscaled_fields elevation_fields coordinate_fields trace_fields trace_widths
header_count f = simp (length-append, length_held)

widths_count : length trace_widths ≡ 71
unfolding trace_widths
widths_count = refl

pub size_header : (f : Field → ℤ) → length (header_bytes (header_of f)) ≡ header_size
unfolding header_bytes
size_header f = numbers_size trace_widths (record_numbers (header_of f)) (widths_count ∙ sym (header_count f)) ∙ trace_counts.1

-- ## Headers and bytes

-- LAW. Headers are the same exactly when their 180 bytes in a record are.
pub bytes_only : (h k : Header) → HeaderFits h → HeaderFits k → header_bytes h ≡ header_bytes k → h ≡ k
unfolding header_bytes
bytes_only h k p q e = numbers_only h k p.scaled q.scaled (numbers_inj trace_widths (record_numbers h) (record_numbers k) (numbers_fit h p) (numbers_fit k q) e)

pub header_size_lem : (h : Header) → HeaderFits h → length (header_bytes h) ≡ 180
unfolding header_bytes
header_size_lem h p = size_numbers trace_widths (record_numbers h) (numbers_fit h p) ∙ trace_counts.1

-- LAW. Fields that hold the 71 numbers of a header mean the header.
pub header_again : (f : Field → ℤ) (h : Header) → HeaderFits h → map f trace_fields ≡ record_numbers h → header_of f ≡ h
header_again f h p e = header_listed f ∙ ap listed e ∙ listed_numbers h p.scaled

-- the numbers of a header that stands in bytes fit their fields
traces_some : Some trace_widths
unfolding all_some trace_widths
traces_some = some_of trace_widths refl

pub held_fit : (s : List ℕ) → Bytes s → (start : ℕ) → Fit trace_widths (map (field_number s start) trace_fields)
unfolding trace_fields
held_fit s b start = fields_fit s b start 1 trace_widths traces_some

-- no cause 13 against its scalars
smallest_fine : (s : List ℕ) (start : ℕ) → smallest_causes s start ≡ Fine
    → (is_smallest (elevations_in (map (field_number s start) trace_fields)) (elevation_scalar_in (map (field_number s start) trace_fields)) ≡ true)
    × (is_smallest (coordinates_in (map (field_number s start) trace_fields)) (coordinate_scalar_in (map (field_number s start) trace_fields)) ≡ true)
unfolding smallest_causes elevation_fields coordinate_fields trace_fields trace_widths
smallest_fine s start f =
    let t = then_fine (smallest_cause s start elevation_fields elevation_scalar) _ f in
    (not-false _ (passed _ 13 (start + 68) t.0), not-false _ (passed _ 13 (start + 70) t.1))

whole : (s : List ℕ) → Bytes s → (start : ℕ) → number_bytes trace_widths (map (field_number s start) trace_fields) ≡ bytes_at s start 180
unfolding trace_fields trace_widths
whole s b start = fields_again s b start 1 trace_widths (omega arith) ∙ ap (λ (p : ℕ). bytes_at s p 180) (add-zero start)

-- LAW. A record's header whose scalars are those of the smallest powers, written again, is its bytes.
pub bytes_again : (s : List ℕ) → Bytes s → (start : ℕ) → smallest_causes s start ≡ Fine → header_bytes (header_of (field_number s start)) ≡ bytes_at s start 180
unfolding header_bytes
bytes_again s b start f =
    let zs = map (field_number s start) trace_fields in
    let fit = held_fit s b start in
    let c = smallest_fine s start f in
    ap (λ (h : Header). number_bytes trace_widths (record_numbers h)) (header_listed (field_number s start))
    ∙ ap (number_bytes trace_widths) (numbers_listed zs (length-map trace_fields (field_number s start) ∙ trace_counts.0) (listed_fits zs fit).scaled c.0 c.1)
    ∙ whole s b start

-- LAW. Where the 71 numbers of a header stand, its scalars are those of the smallest powers, and such that a reel may hold them.
pub smallest_again : (s : List ℕ) (start : ℕ) (h : Header) → Scaled h → map (field_number s start) trace_fields ≡ record_numbers h → smallest_causes s start ≡ Fine
unfolding smallest_causes elevation_fields coordinate_fields trace_fields trace_widths
smallest_again s start h p e =
    let a = ap (λ (l : List ℤ). is_smallest (elevations_in l) (elevation_scalar_in l)) e ∙ elevations_smallest h p in
    let b = ap (λ (l : List ℤ). is_smallest (coordinates_in l) (coordinate_scalar_in l)) e ∙ coordinates_smallest h p in
    rw (a, b)

pub allowed_again : (s : List ℕ) (start : ℕ) (h : Header) → Scaled h → map (field_number s start) trace_fields ≡ record_numbers h
    → (is_allowed (field_number s start elevation_scalar) ≡ true) × (is_allowed (field_number s start coordinate_scalar) ≡ true)
unfolding trace_fields trace_widths
allowed_again s start h p e = (
  ap (λ (l : List ℤ). is_allowed (elevation_scalar_in l)) e ∙ elevation_scalar_allowed h p,
  ap (λ (l : List ℤ). is_allowed (coordinate_scalar_in l)) e ∙ coordinate_scalar_allowed h p,
)

-- so on a reel and in a record
pub elevations_fit : (s : List ℕ) → Bytes s → (start : ℕ) → Fit32 (map (field_number s start) elevation_fields)
unfolding elevation_fields trace_fields trace_widths
elevations_fit s b start = (groups_fit (map (field_number s start) trace_fields) (held_fit s b start)).0

pub coordinates_fit : (s : List ℕ) → Bytes s → (start : ℕ) → Fit32 (map (field_number s start) coordinate_fields)
unfolding coordinate_fields trace_fields trace_widths
coordinates_fit s b start = (groups_fit (map (field_number s start) trace_fields) (held_fit s b start)).1
