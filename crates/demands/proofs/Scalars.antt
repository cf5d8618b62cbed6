-- # Elevations and coordinates with their scalars
--
-- Document 02 (CR 2): "Field 69 acts on fields 41 to 65, and field 71 on fields 73 to 85: positive multiplies, negative divides, 0 is taken
-- as 1. [...] The record holds, for each of the two groups, the smallest power of ten from -4 to 4 at which all its numbers are whole and
-- fit 32 signed bits, as scalar -10000 to 10000, power 0 as 1. Reels now count as equal by the scaled values of these fields, exactly; 69
-- and 71 themselves no longer count."
--
-- - `positive_multiplies`, `negative_divides`, `zero_as_one`: what a scalar does to a number; scaled values are whole numbers over 10,000.
-- - `own_power`: the power of a reel's own scalar is one of the nine, and serves its group.
-- - `has_record`: so every reel to which none of 1 to 9, 18 and 19 applies has a record, which is valid and holds what the reel means.
-- - `record_scalars`: where the reading of a reel is taken, the record holds each group of each trace at the smallest power, spelled out:
--   at each smaller power some number leaves 32 signed bits.
-- - `smallest_means`, `scalar_means`: 13's test of a scalar in a record, spelled out alike, of numbers that fit 32 signed bits and of the
--   fields of a record.
-- - `same_values`: reels that differ only in how their groups are scaled have the same record.
-- - `written_headers`: a written reel has the record's numbers and scalars as they stand.
--
-- Worked examples stand in `Examples` of `scalars`. Each byte of a reel and of a record is below 256; nothing else is assumed, but where a
-- statement says so.
use mathlib.Core.Path.{◌≡◌, refl, sym, ap, ap₂, ◌∙◌, subst}
use mathlib.Core.Bool.{true}
use mathlib.Core.List.{List, [], ◌∷◌, map}
use Prim.Native.Nat.{ℕ, suc, ◌+◌, ◌*◌, ◌^◌, ◌≤◌, ◌<◌}
use native.Mathlib.Omega.{arith}
use lib.ListN.{length, take}
use native.Mathlib.Nat.{mul_assoc}
use lib.IntN.{ℤ, pos, negsuc, nat_abs, ◌*ℤ◌}
use Rattle.numbers.specs.Iff.{Iff}
use Rattle.numbers.specs.Walk.{bytes_at}
use Rattle.numbers.specs.Outcome.{taken, Outcome}
use Rattle.numbers.specs.Terms.{All, Bytes}
use Rattle.numbers.proofs.FirstLaws.{first_at, found}
use Rattle.numbers.proofs.WalkLaws.{walk_each}
use Rattle.numbers.specs.SignMagnitude.{sign_magnitude, is_negative, in_bits}
use Rattle.numbers.proofs.Magnitudes.{signed_mul}
use Rattle.numbers.proofs.Multiples.{in_mag, mag_in}
use Rattle.scalars.specs.Scalar.{powers, is_allowed, power_of, scalar_of, scaled_by, scaled_values, serves, smallest, group_scalar, is_smallest}
use Rattle.scalars.specs.Parts.{Fit32}
use Rattle.scalars.proofs.Quotients.{signed_times}
use Rattle.scalars.proofs.Powers.{power_lt, own_serves, smallest_lt, serves_leaves, leaves_serves}
use Rattle.scalars.proofs.Laws.{power_scalar, same_refl, same_true}
use Rattle.scalars.proofs.Meant as meant
use Rattle.reel.specs.Layout.{Field, elevation_scalar, coordinate_scalar, field_number, first_trace, samples_of, interval_of, code_of, stride, stride_of, traces_of}
use Rattle.formats.specs.Codes.{sample_bytes}
use Rattle.reel.specs.NotNormal.{not_normal_of}
use Rattle.reel.specs.Meaning.{elevation_fields, coordinate_fields, header_of, Trace, trace_meaning, Meaning, meaning_by, meaning_of}
use Rattle.headers.specs.Header.{header_size, header_bytes}
use Rattle.headers.proofs.HeaderBytes.{elevations_fit, coordinates_fit, bytes_again as header_bytes_lem}
use Rattle.headers.proofs.CopiedLaws.{elevations_bare, coordinates_bare}
use Rattle.fields.proofs.FieldsLaws.{step_is}
use Rattle.record.specs.Kind.{tag04}
use Rattle.record.specs.Form.{held_samples, held_count}
use Rattle.record.specs.Held.{held_trace_in, held_by_in, held_by}
use Rattle.read_reel.specs.Reading.{record_length_of, read_outcome}
use Rattle.write_reel.specs.Reel.{reel_of}
use Rattle.write_reel.specs.Writing.{write_outcome}
use Rattle.reel_theorems.specs.ReelTable.{ReelRow}
use Rattle.reel_theorems.proofs.Refusals.{no_cause}
use Rattle.look_up.specs.LookUp.{header_number}
use Rattle.demands.specs.ValidRecord.{trace_place, header_start, SmallestAt, TraceRight}
use Rattle.demands.specs.Results.{RecordHolds, Agree}
use Rattle.demands.specs.Scalars.{SmallestPower, group_values, GroupsHeld, OwnServes}
use Rattle.demands.proofs.ByNumber.{number_in, looked_up_lem, group_looked}
use Rattle.demands.proofs.Valid.{scalars_fine, record_right}
use Rattle.demands.proofs.Taken.{read_taken, written_needs, written_headers_all}
use Rattle.demands.proofs.Demand2.{written}
use Rattle.demands.proofs.Determined.{read_valid}
use Rattle.demands.proofs.Demand3.{records_equal, by_number}

-- ## What a scalar does

-- THEOREM. "positive multiplies": a number under a positive scalar m is the number times m, over 10,000.
-- Rules out a positive scalar that divides.
pub positive_multiplies : (m : ℕ) → 0 < m → is_allowed (pos m) ≡ true → (n : ℤ) → n *ℤ pos (10 ^ power_of (pos m)) ≡ n *ℤ pos (m * 10000)
positive_multiplies m h e n = ap (λ (x : ℕ). n *ℤ pos x) (meant.multiplies m h e)

-- THEOREM. "negative divides": a number under a negative scalar, -(m + 1), times m + 1 is the number, over 10,000.
-- Rules out a negative scalar that multiplies.
pub negative_divides : (m : ℕ) → is_allowed (negsuc m) ≡ true → (n : ℤ) → (n *ℤ pos (10 ^ power_of (negsuc m))) *ℤ pos (suc m) ≡ n *ℤ pos 10000
negative_divides m e n =
    let x = 10 ^ power_of (negsuc m) in
    let s = is_negative n in
    ap (λ (z : ℤ). z *ℤ pos (suc m)) (signed_times x n) ∙ signed_mul s (nat_abs n * x) (suc m)
    ∙ ap (sign_magnitude s) (mul_assoc (nat_abs n) x (suc m) ∙ ap (λ (y : ℕ). nat_abs n * y) (meant.divides m e)) ∙ sym (signed_times 10000 n)

-- THEOREM. "0 is taken as 1": a number under either has the same value.
-- Rules out 0 taken as any other scalar.
pub zero_as_one : (n : ℤ) → n *ℤ pos (10 ^ power_of (pos 0)) ≡ n *ℤ pos (10 ^ power_of (pos 1))
zero_as_one n = ap (λ (x : ℕ). n *ℤ pos (10 ^ x)) meant.zero_as_one

-- ## The smallest power, spelled out

-- Numbers that fit 32 signed bits, by their magnitudes.
all_mags : (ns : List ℤ) → All (λ n. in_bits 32 n ≡ true) ns → Fit32 ns
all_mags [] h = tt
all_mags (n ∷ ns) h = (in_mag 32 n h.0, all_mags ns h.1)

module _ (ns : List ℤ) (z : ℤ) (fit : All (λ n. in_bits 32 n ≡ true) ns) where
  to_smallest : is_smallest ns z ≡ true → SmallestPower (scaled_values z ns) z ns
  unfolding is_smallest group_scalar smallest
  to_smallest e =
      let q = smallest (scaled_values z ns) in
      let h : q < powers = smallest_lt ns (power_of z) (power_lt z) (all_mags ns fit) in
      let z-is : z ≡ scalar_of q = same_true z (scalar_of q) e in
      let p-is : power_of z ≡ q = ap power_of z-is ∙ (power_scalar q h).0 in
      record {
        power = power_of z;
        among = power_lt z;
        scalar = z-is ∙ ap scalar_of (sym p-is);
        values = refl;
        fit = fit;
        smaller = λ x l. serves_leaves ns (power_of z) x (omega arith) ((found (serves (scaled_values z ns)) powers 0).before x (omega arith) (subst (λ (y : ℕ). x < y) p-is l));
      }

  from_smallest : SmallestPower (scaled_values z ns) z ns → is_smallest ns z ≡ true
  unfolding is_smallest group_scalar smallest
  from_smallest a =
      let p = a.power in
      let p-is : power_of z ≡ p = ap power_of a.scalar ∙ (power_scalar p a.among).0 in
      let s-is : smallest (scaled_by p ns) ≡ p =
      first_at (serves (scaled_by p ns)) powers 0 p (omega arith) (omega (arith, a.among)) (own_serves ns p (all_mags ns fit))
      (λ x _ l. let r = a.smaller x l in leaves_serves ns p x (omega arith) r.0 r.1 r.2) in
      rw (p-is, s-is, ← a.scalar) (same_refl z)

  -- THEOREM. "any scalar but that of this smallest power": a scalar z in a record, over numbers that fit 32 signed bits as those of any
  -- header do, is that of the smallest power exactly when this is so, spelled out.
  -- Rules out a power one larger, a search from 4 down, and a test of the first number only.
  pub smallest_means : Iff (is_smallest ns z ≡ true) (SmallestPower (scaled_values z ns) z ns)
  smallest_means = (to_smallest, from_smallest)

-- ## A reel's own power

-- The scaled values of a group of the reel's trace k, by the numbers of the trace at its place; the power of its own scalar serves them.
own_serves_at : (s : List ℕ) (k : ℕ) (fields : List Field) (scalar : Field) → Fit32 (map (number_in s (first_trace + k * stride_of s)) fields)
    → serves (group_values s k fields scalar) (power_of (header_number s (suc k) scalar)) ≡ true
own_serves_at s k fields scalar w =
    let at = first_trace + k * stride_of s in
    ap₂ (λ (vs : List ℤ) (z : ℤ). serves vs (power_of z)) (group_looked s k scalar fields) (looked_up_lem s k scalar)
    ∙ own_serves (map (number_in s at) fields) (power_of (number_in s at scalar)) w

-- THEOREM. "the smallest power of ten from -4 to 4 at which all its numbers are whole and fit 32 signed bits": there is one for every group
-- of every reel, since the power of the group's own scalar is one of the nine and serves it.
-- Alone it rules out none of the list; `has_record` rests on it.
pub own_power : (s : List ℕ) → Bytes s → (k : ℕ) → OwnServes s k
own_power s b k =
    let at = first_trace + k * stride_of s in
    let n = samples_of s in
    let i = interval_of s in
    record {
      elevations_among = power_lt (header_number s (suc k) elevation_scalar);
      coordinates_among = power_lt (header_number s (suc k) coordinate_scalar);
      elevations = own_serves_at s k elevation_fields elevation_scalar (subst Fit32 (sym (elevations_bare s b n i at)) (elevations_fit s b at));
      coordinates = own_serves_at s k coordinate_fields coordinate_scalar (subst Fit32 (sym (coordinates_bare s b n i at)) (coordinates_fit s b at));
    }

-- ## What the record of a reel holds

-- Numbers of 32 signed bits, one by one.
all_bits : (ns : List ℤ) → Fit32 ns → All (λ n. in_bits 32 n ≡ true) ns
all_bits [] h = tt
all_bits (n ∷ ns) h = (mag_in 32 n h.0, all_bits ns h.1)

-- Trace k of a record that holds what a reel means is trace k of the reel.
same_trace : (s r : List ℕ) → held_by r ≡ meaning_of s → (k : ℕ) → k < held_count r (held_samples r)
    → held_trace_in tag04 r (held_samples r) (trace_place r k) ≡ trace_meaning s (code_of s) (samples_of s) (interval_of s) (first_trace + k * stride_of s)
unfolding held_by_in meaning_by
same_trace s r e k l =
    let n = held_samples r in
    ap (λ (j : ℕ). held_trace_in tag04 r n (trace_place r j)) (sym (step_is k))
    ∙ walk_each (λ j. held_trace_in tag04 r n (trace_place r j)) (trace_meaning s (code_of s) (samples_of s) (interval_of s)) 1 (stride_of s) (held_count r n) (traces_of s) 0 first_trace (ap (λ (m : Meaning). m.traces) e) k l

module _ (s r : List ℕ) (b : Bytes r) (e : held_by r ≡ meaning_of s) (k : ℕ) (l : k < held_count r (held_samples r)) (right : TraceRight r k) where
  -- The elevations in the record have the values that those on the reel have, and so do the coordinates.
  held_elevations : scaled_values (field_number r (header_start r k) elevation_scalar) (map (field_number r (header_start r k)) elevation_fields)
      ≡ group_values s k elevation_fields elevation_scalar
  unfolding held_trace_in trace_meaning header_of
  held_elevations = ap (λ (t : Trace). t.header.elevations) (same_trace s r e k l) ∙ sym (group_looked s k elevation_scalar elevation_fields)

  held_coordinates : scaled_values (field_number r (header_start r k) coordinate_scalar) (map (field_number r (header_start r k)) coordinate_fields)
      ≡ group_values s k coordinate_fields coordinate_scalar
  unfolding held_trace_in trace_meaning header_of
  held_coordinates = ap (λ (t : Trace). t.header.coordinates) (same_trace s r e k l) ∙ sym (group_looked s k coordinate_scalar coordinate_fields)

  groups_held : GroupsHeld s r k
  groups_held =
      let at = header_start r k in
      let es = map (field_number r at) elevation_fields in
      let cs = map (field_number r at) coordinate_fields in
      let x = field_number r at elevation_scalar in
      let y = field_number r at coordinate_scalar in
      record {
        elevations = subst (λ (vs : List ℤ). SmallestPower vs x es) held_elevations (to_smallest es x (all_bits es (elevations_fit r b at)) right.front.front.elevations);
        coordinates = subst (λ (vs : List ℤ). SmallestPower vs y cs) held_coordinates (to_smallest cs y (all_bits cs (coordinates_fit r b at)) right.front.front.coordinates);
      }

-- THEOREM. "The record holds, for each of the two groups, the smallest power of ten from -4 to 4 at which all its numbers are whole and fit
-- 32 signed bits, as scalar -10000 to 10000, power 0 as 1": where the reading of a reel is taken, both groups of each trace in the record are
-- those of the reel's trace at the smallest power, spelled out in `SmallestPower`.
-- Rules out a power one larger, a search from 4 down, a fit tested on the first number only, the group of 71 by the power of 69, and -2^31
-- said not to fit.
pub record_scalars : (s out : List ℕ) (t n l c : ℕ) → Bytes s → (read_outcome s out).said ≡ taken (t ∷ n ∷ l ∷ c ∷ []) → (k : ℕ) → k < t
    → GroupsHeld s (take l (read_outcome s out).bytes) k
record_scalars s out t n l c b e k h =
    let r = take l (read_outcome s out).bytes in
    let v = read_valid s out t n l c b e in
    let few : k < held_count r (held_samples r) = rw v.traces h in
    groups_held s r v.bytes v.holds k few ((record_right r v.valid).end.until.before k few)

-- THEOREM. So every reel to which none of the causes set for reading applies has a record, in every output that is long enough: reading it
-- is taken, and the record is valid and holds what the reel means, each group by its values.
-- Rules out a reader that declines a reel for its elevations or coordinates.
pub has_record : (s out : List ℕ) → Bytes s → ((number place : ℕ) → ¬ (ReelRow s number place)) → record_length_of s ≤ length out
    → ((read_outcome s out).said ≡ taken (traces_of s ∷ samples_of s ∷ record_length_of s ∷ not_normal_of s ∷ []))
    × RecordHolds s (traces_of s) (samples_of s) (take (record_length_of s) (read_outcome s out).bytes)
has_record s out b h room =
    let e : (read_outcome s out).said ≡ taken (traces_of s ∷ samples_of s ∷ record_length_of s ∷ not_normal_of s ∷ []) = ap (λ (o : Outcome). o.said) (read_taken s out ((no_cause s).1 h) room) in
    (e, read_valid s out (traces_of s) (samples_of s) (record_length_of s) (not_normal_of s) b e)

-- ## A scalar in a record

-- THEOREM. "any scalar but that of this smallest power": so each scalar of trace k in a record is that of the smallest power exactly when
-- this is so of the fields that it acts on, spelled out.
-- Rules out what `smallest_means` does.
pub scalar_means : (r : List ℕ) → Bytes r → (k : ℕ)
    → Iff (SmallestAt r k elevation_fields elevation_scalar) (SmallestPower (scaled_values (field_number r (header_start r k) elevation_scalar) (map (field_number r (header_start r k)) elevation_fields)) (field_number r (header_start r k) elevation_scalar) (map (field_number r (header_start r k)) elevation_fields))
    × Iff (SmallestAt r k coordinate_fields coordinate_scalar) (SmallestPower (scaled_values (field_number r (header_start r k) coordinate_scalar) (map (field_number r (header_start r k)) coordinate_fields)) (field_number r (header_start r k) coordinate_scalar) (map (field_number r (header_start r k)) coordinate_fields))
scalar_means r b k =
    let at = header_start r k in
    let es = map (field_number r at) elevation_fields in
    let cs = map (field_number r at) coordinate_fields in
    (smallest_means es (field_number r at elevation_scalar) (all_bits es (elevations_fit r b at)), smallest_means cs (field_number r at coordinate_scalar) (all_bits cs (coordinates_fit r b at)))

-- ## The same values under different scalars

-- THEOREM. "Reels now count as equal by the scaled values of these fields, exactly; 69 and 71 themselves no longer count": two reels that
-- agree number by number, `Agree`, however their groups are scaled, have the same record, byte for byte.
-- Rules out a record that keeps a reel's own scalars.
pub same_values : (s₁ s₂ out₁ out₂ : List ℕ) (t₁ n₁ l₁ c₁ t₂ n₂ l₂ c₂ : ℕ) → Bytes s₁ → Bytes s₂
    → (read_outcome s₁ out₁).said ≡ taken (t₁ ∷ n₁ ∷ l₁ ∷ c₁ ∷ []) → (read_outcome s₂ out₂).said ≡ taken (t₂ ∷ n₂ ∷ l₂ ∷ c₂ ∷ [])
    → Agree s₁ s₂ → take l₁ (read_outcome s₁ out₁).bytes ≡ take l₂ (read_outcome s₂ out₂).bytes
same_values s₁ s₂ out₁ out₂ t₁ n₁ l₁ c₁ t₂ n₂ l₂ c₂ b₁ b₂ e₁ e₂ a =
    (records_equal s₁ s₂ out₁ out₂ t₁ n₁ l₁ c₁ t₂ n₂ l₂ c₂ b₁ b₂ e₁ e₂).1 ((by_number s₁ s₂ b₁ b₂).1 a)

-- ## A written reel

-- Header k of a record, as bytes: what the trace holds, written again.
held_bytes : (r : List ℕ) → Bytes r → (k : ℕ) → TraceRight r k → header_bytes (held_trace_in tag04 r (held_samples r) (trace_place r k)).header ≡ bytes_at r (header_start r k) header_size
unfolding held_trace_in
held_bytes r b k right = header_bytes_lem r b (header_start r k) (scalars_fine r k right.front.front)

-- THEOREM. Writing writes "the record's scalar and numbers as they stand": the 180 bytes of each trace header of a written reel are those
-- that stand in the record.
-- Rules out a writer that scales a group back, or that writes another trace's header.
pub written_headers : (r : List ℕ) (code : ℕ) (out : List ℕ) (t n l : ℕ) → Bytes r → (write_outcome r code out).said ≡ taken (t ∷ n ∷ l ∷ []) → (k : ℕ) → k < t
    → bytes_at (take l (write_outcome r code out).bytes) (3600 + k * (240 + n * sample_bytes code)) 180 ≡ bytes_at r (header_start r k) 180
unfolding held_by_in
written_headers r code out t n l b e k h =
    let w = written r code out t n l e in
    let m = held_samples r in
    let few : k < held_count r m = subst (λ (x : ℕ). k < x) w.traces h in
    let s = reel_of code (held_by r) in
    let headers = written_headers_all r b code out (written_needs r code out (t ∷ n ∷ l ∷ []) e) in
    let header : ℕ → List ℕ = λ j. header_bytes (held_trace_in tag04 r m (trace_place r j)).header in
    let each = walk_each (λ p. bytes_at s p header_size) header (stride m (sample_bytes code)) 1 (held_count r m) (held_count r m) first_trace 0 headers k few ∙ ap header (step_is k) in
    ap₂ (λ (x : List ℕ) (y : ℕ). bytes_at x (3600 + k * (240 + y * sample_bytes code)) 180) w.content w.samples
    ∙ each ∙ held_bytes r b k ((record_right r w.valid).end.until.before k few)
