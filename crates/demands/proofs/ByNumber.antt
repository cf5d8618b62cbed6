-- Two reels mean the same exactly when they agree number by number. Assumes of the reels only that each byte is below 256, and that only to
-- tell N from its field.
use mathlib.Core.Path.{◌≡◌, refl, sym, ap, ap₂, ◌∙◌}
use mathlib.Core.List.{List, [], ◌∷◌, map}
use mathlib.Core.Bool.{Bool, false}
use Prim.Native.Nat.{ℕ, suc, ◌+◌, ◌-◌, ◌*◌, ◌^◌, ◌<◌}
use native.Mathlib.Omega.{arith}
use borrow.Author.Tests.{ne_eqb}
use lib.Dec.{eqb}
use lib.ListN.{length, get_or, drop}
use lib.IntN.{ℤ, pos, ◌*ℤ◌}
use Rattle.numbers.specs.Walk.{pick, walk, bytes_at}
use Rattle.numbers.specs.Terms.{All, Bytes}
use Rattle.numbers.proofs.WalkLaws.{cons_eq, size_walk, walk_each, walk_same, map_walk}
use Rattle.numbers.proofs.AllLaws.{map_same}
use Rattle.formats.specs.Value.{exact_value}
use Rattle.scalars.specs.Scalar.{power_of, scaled_values}
use Rattle.reel.specs.Layout.{Field, card_bytes, first_trace, trace_header, binary_fields, elevation_scalar, coordinate_scalar, field_number, interval_of, samples_of, code_of, stride_of, traces_of}
use Rattle.formats.specs.Codes.{sample_bytes}
use Rattle.reel.specs.Meaning.{blank, card_text_by, other_than, binary_numbers, trace_number, elevation_fields, coordinate_fields, unscaled_fields, header_of, Trace, trace_meaning, meaning_by, meaning_of, MeanTheSame}
use Rattle.look_up.specs.LookUp.{header_number}
use Rattle.reel_theorems.proofs.Same.{samples_same}
use Rattle.demands.specs.Results.{sample_value, scaled_value, Agree}

-- ## Lists

-- Two functions give the same of each element of a list where they give the same list; `map_same` is the other way.
each_same : {A B : Type 0} (f g : A → B) (l : List A) → map f l ≡ map g l → All (λ x. f x ≡ g x) l
each_same f g [] e = tt
each_same f g (x ∷ l) e = let h : f x ≡ g x = cc in (h, each_same f g l (ap (drop 1) e))

-- A function that gives what another gives, of each element of a list.
each_map : {A B : Type 0} (f g : A → B) → ((x : A) → f x ≡ g x) → (l : List A) → map f l ≡ map g l
each_map f g h [] = refl
each_map f g h (x ∷ l) = cons_eq (h x) (each_map f g h l)

-- ## Cards

-- The first k bytes with 40 in place of 00.
blanked : (s : List ℕ) (k : ℕ) → map blank (bytes_at s 0 k) ≡ walk (λ a. blank (get_or s a 0)) 1 k 0
unfolding bytes_at
blanked s k = map_walk blank (λ a. get_or s a 0) 1 k 0

step_one : (j : ℕ) → 0 + j * 1 ≡ j
step_one j = omega arith

module _ (s₁ s₂ : List ℕ) (k : ℕ) where
  byte_each : map blank (bytes_at s₁ 0 k) ≡ map blank (bytes_at s₂ 0 k) → (j : ℕ) → j < k → blank (get_or s₁ j 0) ≡ blank (get_or s₂ j 0)
  byte_each e j l =
      let h = walk_each (λ a. blank (get_or s₁ a 0)) (λ a. blank (get_or s₂ a 0)) 1 1 k k 0 0 (sym (blanked s₁ k) ∙ e ∙ blanked s₂ k) j l in
      ap (λ (a : ℕ). blank (get_or s₁ a 0)) (sym (step_one j)) ∙ h ∙ ap (λ (a : ℕ). blank (get_or s₂ a 0)) (step_one j)

  bytes_same : ((j : ℕ) → j < k → blank (get_or s₁ j 0) ≡ blank (get_or s₂ j 0)) → map blank (bytes_at s₁ 0 k) ≡ map blank (bytes_at s₂ 0 k)
  bytes_same h =
      blanked s₁ k
      ∙ walk_same (λ a. blank (get_or s₁ a 0)) (λ a. blank (get_or s₂ a 0)) 1 1 k 0 0 (λ j l.
      ap (λ (a : ℕ). blank (get_or s₁ a 0)) (step_one j) ∙ h j l ∙ ap (λ (a : ℕ). blank (get_or s₂ a 0)) (sym (step_one j)))
      ∙ sym (blanked s₂ k)

-- ## Traces

-- The number of a field of the trace at a place.
abbrev pub number_in : List ℕ → ℕ → Field → ℤ
number_in s at = trace_number s (samples_of s) (interval_of s) at

-- The bare numbers of the trace at a place, its elevations, its coordinates, and its values.
trace_numbers : List ℕ → ℕ → List ℤ
trace_numbers s at = map (number_in s at) unscaled_fields

trace_elevations : List ℕ → ℕ → List ℤ
trace_elevations s at = scaled_values (number_in s at elevation_scalar) (map (number_in s at) elevation_fields)

trace_coordinates : List ℕ → ℕ → List ℤ
trace_coordinates s at = scaled_values (number_in s at coordinate_scalar) (map (number_in s at) coordinate_fields)

trace_values : List ℕ → ℕ → List ℤ
trace_values s at = walk (λ p. exact_value (code_of s) (bytes_at s p 4)) (sample_bytes (code_of s)) (samples_of s) (at + trace_header)

-- They are those that the reel means, trace by trace.
all_numbers : (s : List ℕ) → map (λ (t : Trace). t.header.numbers) (meaning_of s).traces ≡ walk (trace_numbers s) (stride_of s) (traces_of s) first_trace
unfolding meaning_by trace_meaning header_of trace_numbers
all_numbers s = map_walk (λ (t : Trace). t.header.numbers) (trace_meaning s (code_of s) (samples_of s) (interval_of s)) (stride_of s) (traces_of s) first_trace

all_elevations : (s : List ℕ) → map (λ (t : Trace). t.header.elevations) (meaning_of s).traces ≡ walk (trace_elevations s) (stride_of s) (traces_of s) first_trace
unfolding meaning_by trace_meaning header_of trace_elevations
all_elevations s = map_walk (λ (t : Trace). t.header.elevations) (trace_meaning s (code_of s) (samples_of s) (interval_of s)) (stride_of s) (traces_of s) first_trace

all_coordinates : (s : List ℕ) → map (λ (t : Trace). t.header.coordinates) (meaning_of s).traces ≡ walk (trace_coordinates s) (stride_of s) (traces_of s) first_trace
unfolding meaning_by trace_meaning header_of trace_coordinates
all_coordinates s = map_walk (λ (t : Trace). t.header.coordinates) (trace_meaning s (code_of s) (samples_of s) (interval_of s)) (stride_of s) (traces_of s) first_trace

all_values : (s : List ℕ) → map (λ (t : Trace). t.values) (meaning_of s).traces ≡ walk (trace_values s) (stride_of s) (traces_of s) first_trace
unfolding meaning_by trace_meaning trace_values
all_values s = map_walk (λ (t : Trace). t.values) (trace_meaning s (code_of s) (samples_of s) (interval_of s)) (stride_of s) (traces_of s) first_trace

-- The traces are T.
all_count : (s : List ℕ) → length (meaning_of s).traces ≡ traces_of s
unfolding meaning_by
all_count s = size_walk (trace_meaning s (code_of s) (samples_of s) (interval_of s)) (stride_of s) (traces_of s) first_trace

-- Header k + 1 is that of a trace, and k traces stand before it.
not_binary : (k : ℕ) → eqb (suc k) 0 ≡ false
not_binary k = ne_eqb (suc k) 0 (λ e. omega arith)

before : (k : ℕ) → suc k - 1 ≡ k
before k = omega arith

-- The header number that looking up gives of trace k + 1 is that of the trace at its place;
pub looked_up_lem : (s : List ℕ) (k : ℕ) (f : Field) → header_number s (suc k) f ≡ number_in s (first_trace + k * stride_of s) f
looked_up_lem s k f =
    ap₂ (λ (b : Bool) (i : ℕ). pick b (field_number s 0 f) (number_in s (first_trace + i * stride_of s) f)) (not_binary k) (before k)

-- so are its bare numbers,
numbers_looked : (s : List ℕ) (k : ℕ) → map (header_number s (suc k)) unscaled_fields ≡ trace_numbers s (first_trace + k * stride_of s)
unfolding trace_numbers
numbers_looked s k = each_map (header_number s (suc k)) (number_in s (first_trace + k * stride_of s)) (looked_up_lem s k) unscaled_fields

-- and the scaled values of a group.
pub group_looked : (s : List ℕ) (k : ℕ) (scalar : Field) (fields : List Field)
    → let at = first_trace + k * stride_of s in map (scaled_value s k scalar) fields ≡ scaled_values (number_in s at scalar) (map (number_in s at) fields)
group_looked s k scalar [] = refl
group_looked s k scalar (f ∷ fs) =
    cons_eq (ap₂ (λ (n z : ℤ). n *ℤ pos (10 ^ power_of z)) (looked_up_lem s k f) (looked_up_lem s k scalar)) (group_looked s k scalar fs)

elevations_looked : (s : List ℕ) (k : ℕ) → map (scaled_value s k elevation_scalar) elevation_fields ≡ trace_elevations s (first_trace + k * stride_of s)
unfolding trace_elevations
elevations_looked s k = group_looked s k elevation_scalar elevation_fields

coordinates_looked : (s : List ℕ) (k : ℕ) → map (scaled_value s k coordinate_scalar) coordinate_fields ≡ trace_coordinates s (first_trace + k * stride_of s)
unfolding trace_coordinates
coordinates_looked s k = group_looked s k coordinate_scalar coordinate_fields

-- ## Lists of numbers, trace by trace

-- A list g of numbers of each trace, which f gives of some fields of trace k.
module _ (g : List ℕ → ℕ → List ℤ) (f : List ℕ → ℕ → Field → ℤ) (fields : List Field)
    (looked : (s : List ℕ) (k : ℕ) → map (f s k) fields ≡ g s (first_trace + k * stride_of s)) (s₁ s₂ : List ℕ) where
  -- Where the lists are the same along both reels, so are the numbers of each field of each trace.
  list_each : walk (g s₁) (stride_of s₁) (traces_of s₁) first_trace ≡ walk (g s₂) (stride_of s₂) (traces_of s₂) first_trace
      → (k : ℕ) → k < traces_of s₁ → All (λ x. f s₁ k x ≡ f s₂ k x) fields
  list_each e k l =
      let t = walk_each (g s₁) (g s₂) (stride_of s₁) (stride_of s₂) (traces_of s₁) (traces_of s₂) first_trace first_trace e k l in
      each_same (f s₁ k) (f s₂ k) fields (looked s₁ k ∙ t ∙ sym (looked s₂ k))

  -- And the other way round.
  list_all : traces_of s₁ ≡ traces_of s₂ → ((k : ℕ) → k < traces_of s₁ → All (λ x. f s₁ k x ≡ f s₂ k x) fields)
      → walk (g s₁) (stride_of s₁) (traces_of s₁) first_trace ≡ walk (g s₂) (stride_of s₂) (traces_of s₂) first_trace
  list_all n h =
      walk_same (g s₁) (g s₂) (stride_of s₁) (stride_of s₂) (traces_of s₁) first_trace first_trace (λ k l.
      sym (looked s₁ k) ∙ map_same (f s₁ k) (f s₂ k) fields (h k l) ∙ looked s₂ k)
      ∙ ap (λ (t : ℕ). walk (g s₂) (stride_of s₂) t first_trace) n

-- ## Reels

module _ (s₁ s₂ : List ℕ) where
  values_each : MeanTheSame s₁ s₂ → (k j : ℕ) → k < traces_of s₁ → j < samples_of s₁ → sample_value s₁ k j ≡ sample_value s₂ k j
  unfolding trace_values
  values_each m k j l h =
      let e = sym (all_values s₁) ∙ m.values ∙ all_values s₂ in
      let t = walk_each (trace_values s₁) (trace_values s₂) (stride_of s₁) (stride_of s₂) (traces_of s₁) (traces_of s₂) first_trace first_trace e k l in
      walk_each _ _ (sample_bytes (code_of s₁)) (sample_bytes (code_of s₂)) (samples_of s₁) (samples_of s₂) _ _ t j h

  -- LAW. Two reels that mean the same agree number by number.
  pub means_agree : MeanTheSame s₁ s₂ → Agree s₁ s₂
  unfolding meaning_by card_text_by binary_numbers
  means_agree m =
      record {
        cards = byte_each s₁ s₂ card_bytes m.cards;
        binary = each_same (field_number s₁ 0) (field_number s₂ 0) (other_than 3225 binary_fields) m.binary;
        count = sym (all_count s₁) ∙ m.count ∙ all_count s₂;
        numbers = list_each trace_numbers (λ s k. header_number s (suc k)) unscaled_fields numbers_looked s₁ s₂ (sym (all_numbers s₁) ∙ m.numbers ∙ all_numbers s₂);
        elevations = list_each trace_elevations (λ s k. scaled_value s k elevation_scalar) elevation_fields elevations_looked s₁ s₂ (sym (all_elevations s₁) ∙ m.elevations ∙ all_elevations s₂);
        coordinates = list_each trace_coordinates (λ s k. scaled_value s k coordinate_scalar) coordinate_fields coordinates_looked s₁ s₂ (sym (all_coordinates s₁) ∙ m.coordinates ∙ all_coordinates s₂);
        values = values_each m;
      }

  values_all : samples_of s₁ ≡ samples_of s₂ → Agree s₁ s₂
      → walk (trace_values s₁) (stride_of s₁) (traces_of s₁) first_trace ≡ walk (trace_values s₂) (stride_of s₂) (traces_of s₂) first_trace
  unfolding trace_values
  values_all n a =
      walk_same (trace_values s₁) (trace_values s₂) (stride_of s₁) (stride_of s₂) (traces_of s₁) first_trace first_trace (λ k l. trace k l)
      ∙ ap (λ (t : ℕ). walk (trace_values s₂) (stride_of s₂) t first_trace) a.count
    where
      value : (s : List ℕ) → ℕ → ℤ
      value s p = exact_value (code_of s) (bytes_at s p 4)

      trace : (k : ℕ) → k < traces_of s₁ → trace_values s₁ (first_trace + k * stride_of s₁) ≡ trace_values s₂ (first_trace + k * stride_of s₂)
      trace k l =
          walk_same (value s₁) (value s₂) (sample_bytes (code_of s₁)) (sample_bytes (code_of s₂)) (samples_of s₁) _ _ (λ j h. a.values k j l h)
          ∙ ap (λ (i : ℕ). walk (value s₂) (sample_bytes (code_of s₂)) i (first_trace + k * stride_of s₂ + trace_header)) n

  -- LAW. Two reels of bytes that agree number by number mean the same.
  pub agree_means : Bytes s₁ → Bytes s₂ → Agree s₁ s₂ → MeanTheSame s₁ s₂
  unfolding meaning_by card_text_by binary_numbers
  agree_means h₁ h₂ a =
      let b = map_same (field_number s₁ 0) (field_number s₂ 0) (other_than 3225 binary_fields) a.binary in
      record {
        cards = bytes_same s₁ s₂ card_bytes a.cards;
        binary = b;
        count = all_count s₁ ∙ a.count ∙ sym (all_count s₂);
        numbers = all_numbers s₁ ∙ list_all trace_numbers (λ s k. header_number s (suc k)) unscaled_fields numbers_looked s₁ s₂ a.count a.numbers ∙ sym (all_numbers s₂);
        elevations = all_elevations s₁ ∙ list_all trace_elevations (λ s k. scaled_value s k elevation_scalar) elevation_fields elevations_looked s₁ s₂ a.count a.elevations ∙ sym (all_elevations s₂);
        coordinates = all_coordinates s₁ ∙ list_all trace_coordinates (λ s k. scaled_value s k coordinate_scalar) coordinate_fields coordinates_looked s₁ s₂ a.count a.coordinates ∙ sym (all_coordinates s₂);
        values = all_values s₁ ∙ values_all (samples_same s₁ s₂ h₁ h₂ b) a ∙ sym (all_values s₂);
      }
