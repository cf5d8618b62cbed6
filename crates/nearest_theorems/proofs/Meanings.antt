-- What a meaning becomes whose samples each become the nearest value of a code: how many change, when none does, the length of its reel, and
-- that it is proper where the meaning is. Assumes nothing but what a law says.
use mathlib.Core.Path.{◌≡◌, refl, sym, ap₂, ◌∙◌, subst}
use mathlib.Core.List.{List, [], ◌∷◌, map, map-id}
use mathlib.Core.Bool.{true}
use Prim.Native.Nat.{ℕ, ◌+◌, ◌*◌, ◌≤◌}
use native.Mathlib.Nat.{mul-one}
use native.Mathlib.Omega.{arith}
use lib.ListN.{length, length-append, length-map}
use lib.IntN.{ℤ}
use Rattle.numbers.specs.Walk.{flat, sum}
use Rattle.numbers.specs.Terms.{All}
use Rattle.numbers.specs.Iff.{Iff}
use Rattle.numbers.proofs.WalkLaws.{size_walk, all_at}
use Rattle.numbers.proofs.AllLaws.{all_map, map_same}
use Rattle.formats.specs.Codes.{is_code}
use Rattle.formats.specs.Nearest.{nearest_value, changes}
use Rattle.value.specs.Pair.{pair_length}
use Rattle.reel.specs.Meaning.{Trace, Meaning}
use Rattle.fields.specs.Fields.{pair_place}
use Rattle.record.specs.Kind.{tag04}
use Rattle.record.specs.Form.{held_samples, share_in, trace_place, held_count}
use Rattle.record.specs.Held.{held_value, held_values_in, held_trace_in, held_by_in, held_by}
use Rattle.write_reel.specs.Reel.{sample_written, trace_written, reel_of}
use Rattle.write_reel.specs.Writing.{reel_length_of}
use Rattle.write_reel.specs.Nearest.{nearest_trace, nearest_meaning, trace_changes, meaning_changes}
use Rattle.reel_theorems.proofs.Same.{trace_eq}
use Rattle.demands.proofs.Proper.{ProperTrace, Proper}
use Rattle.demands.proofs.Fitting.{FittingTrace, Fitting}
use Rattle.demands.proofs.Headers.{meaning_eq}
use Rattle.demands.proofs.WrittenSize.{sample_size, reel_size}
use Rattle.demands.proofs.Renewed.{held_count_lem}
use Rattle.formats.proofs.DifferLaws.{differs_most}
use Rattle.nearest_theorems.proofs.Values.{nearest_fits, fits_self, unchanged_fits, fits_canonical}

-- ## Lists

-- What follows of each element of a list from what holds of it,
all_so : {A : Type 0} (P Q : A → Type 0) → ((a : A) → P a → Q a) → (l : List A) → All P l → All Q l
all_so P Q f [] p = tt
all_so P Q f (a ∷ l) p = (f a p.0, all_so P Q f l p.1)

-- and what holds of whatever a function gives.
all_given : {A B : Type 0} (Q : B → Type 0) (f : A → B) → ((a : A) → Q (f a)) → (l : List A) → All Q (map f l)
all_given Q f h [] = tt
all_given Q f h (a ∷ l) = (h a, all_given Q f h l)

-- A sum is 0 exactly where each summand is.
none_each : {A : Type 0} (f : A → ℕ) (l : List A) → sum (map f l) ≡ 0 → All (λ a. f a ≡ 0) l
none_each f [] e = tt
none_each f (a ∷ l) e = (omega arith, none_each f l (omega arith))

each_none : {A : Type 0} (f : A → ℕ) (l : List A) → All (λ a. f a ≡ 0) l → sum (map f l) ≡ 0
each_none f [] h = refl
each_none f (a ∷ l) h = omega (arith, h.0, each_none f l h.1)

-- A sum of summands that are at most m each.
each_most : {A : Type 0} (f : A → ℕ) (m : ℕ) (l : List A) → All (λ a. f a ≤ m) l → sum (map f l) ≤ length l * m
each_most f m [] h = omega arith
each_most f m (a ∷ l) h = omega (arith, h.0, each_most f m l h.1)

-- Lists joined are as long where each two of them are.
same_length : {A B : Type 0} (f : A → B) (g : B → List ℕ) (k : A → List ℕ) → ((a : A) → length (g (f a)) ≡ length (k a)) → (l : List A)
    → length (flat (map g (map f l))) ≡ length (flat (map k l))
same_length f g k h [] = refl
same_length f g k h (a ∷ l) =
    length-append (g (f a)) _ ∙ ap₂ (λ (x y : ℕ). x + y) (h a) (same_length f g k h l) ∙ sym (length-append (k a) _)

-- ## How long the reel is

module _ (code : ℕ) where
  -- A trace has as many bytes on the reel as before,
  trace_length_lem : (t : Trace) → length (trace_written code (nearest_trace code t)) ≡ length (trace_written code t)
  unfolding trace_written
  trace_length_lem t =
      let samples = same_length (nearest_value code) (sample_written code) (sample_written code) (λ v. sample_size code (nearest_value code v) ∙ sym (sample_size code v)) t.values in
      simp length-append (omega (arith, samples))

  -- and so has the reel.
  meaning_length : (m : Meaning) → length (reel_of code (nearest_meaning code m)) ≡ length (reel_of code m)
  unfolding reel_of
  meaning_length m =
      let traces = same_length (nearest_trace code) (trace_written code) (trace_written code) trace_length_lem m.traces in
      simp length-append (omega (arith, traces))

-- LAW. The reel that is written is as long as the length returned.
pub nearest_size : (s : List ℕ) (code : ℕ) → length (reel_of code (nearest_meaning code (held_by s))) ≡ reel_length_of s code
nearest_size s code = meaning_length code (held_by s) ∙ reel_size s code

-- ## How many change

-- Each trace that a record holds has its N samples.
held_sizes : (s : List ℕ) → All (λ (t : Trace). length t.values ≡ held_samples s) (held_by s).traces
unfolding held_by_in held_trace_in held_values_in
held_sizes s =
    let n = held_samples s in
    all_at (λ (t : Trace). length t.values ≡ n) (λ k. held_trace_in tag04 s n (trace_place s n k)) (λ k. let at = trace_place s n k + 183 in size_walk (λ j. held_value s (pair_place pair_length (share_in tag04 s n at) at j)) 1 n 0) 1 (held_count s n) 0

-- No more change than there are.
changes_most : (code : ℕ) (t : Trace) → trace_changes code t ≤ length t.values
changes_most code t =
    subst (λ (k : ℕ). trace_changes code t ≤ k) (mul-one (length t.values))
    (each_most (changes code) 1 t.values (every t.values))
  where
    every : (l : List ℤ) → All (λ v. changes code v ≤ 1) l
    every [] = tt
    every (v ∷ l) = (differs_most v (nearest_value code v), every l)

-- LAW. Of a record of T traces of N samples at most T × N change.
pub changes_bound : (s : List ℕ) (code : ℕ) → meaning_changes code (held_by s) ≤ held_count s (held_samples s) * held_samples s
changes_bound s code =
    let n = held_samples s in
    let few = all_so (λ (t : Trace). length t.values ≡ n) (λ (t : Trace). trace_changes code t ≤ n) (λ t e. subst (λ (k : ℕ). trace_changes code t ≤ k) e (changes_most code t)) (held_by s).traces (held_sizes s) in
    subst (λ (k : ℕ). meaning_changes code (held_by s) ≤ k * n) (held_count_lem s) (each_most (trace_changes code) n (held_by s).traces few)

module _ (code : ℕ) (c : is_code code ≡ true) where
  -- LAW. None changes exactly where each has a word under the code.
  pub unchanged_fitting : (m : Meaning) → Iff (meaning_changes code m ≡ 0) (Fitting code m)
  unchanged_fitting m = (
    λ e. all_so _ (FittingTrace code) (λ (t : Trace) q. all_so _ _ (λ (v : ℤ) x. (unchanged_fits code c v).0 x) t.values (none_each (changes code) t.values q)) m.traces
        (none_each (trace_changes code) m.traces e),
    λ f. each_none (trace_changes code) m.traces
        (all_so (FittingTrace code) _ (λ (t : Trace) q. each_none (changes code) t.values (all_so _ _ (λ (v : ℤ) x. (unchanged_fits code c v).1 x) t.values q)) m.traces f),
  )

  -- LAW. Where each has a word, the meaning becomes itself.
  pub fitting_same : (m : Meaning) → Fitting code m → nearest_meaning code m ≡ m
  fitting_same m f = meaning_eq refl refl (map_same (nearest_trace code) (λ (t : Trace). t) m.traces (all_so (FittingTrace code) _ same m.traces f) ∙ map-id m.traces)
    where
      same : (t : Trace) → FittingTrace code t → nearest_trace code t ≡ t
      same t h = trace_eq refl (map_same (nearest_value code) (λ (v : ℤ). v) t.values (all_so _ _ (λ (v : ℤ) x. fits_self code c v x) t.values h) ∙ map-id t.values)

  -- ## What it becomes

  -- LAW. Each sample of what it becomes has a word,
  pub nearest_fitting : (m : Meaning) → Fitting code (nearest_meaning code m)
  nearest_fitting m = all_given (FittingTrace code) (nearest_trace code) (λ (t : Trace). all_given _ (nearest_value code) (nearest_fits code c) t.values) m.traces

  -- so none of it changes again,
  pub nearest_unchanged : (m : Meaning) → meaning_changes code (nearest_meaning code m) ≡ 0
  nearest_unchanged m = (unchanged_fitting (nearest_meaning code m)).1 (nearest_fitting m)

  pub meaning_again : (m : Meaning) → nearest_meaning code (nearest_meaning code m) ≡ nearest_meaning code m
  meaning_again m = fitting_same (nearest_meaning code m) (nearest_fitting m)

  -- and it is proper where the meaning is.
  pub nearest_proper : (n i : ℕ) (m : Meaning) → Proper n i m → Proper n i (nearest_meaning code m)
  nearest_proper n i m p =
      record {
        n_low = p.n_low;
        n_high = p.n_high;
        i_low = p.i_low;
        i_high = p.i_high;
        size = p.size;
        cards = p.cards;
        fit_front = p.fit_front;
        fit_back = p.fit_back;
        n_is = p.n_is;
        i_is = p.i_is;
        few = rw length-map p.few;
        traces = all_map (ProperTrace n i) (ProperTrace n i) (nearest_trace code) proper m.traces p.traces;
      }
    where
      proper : (t : Trace) → ProperTrace n i t → ProperTrace n i (nearest_trace code t)
      proper t h =
          record {
            header = h.header;
            n_is = h.n_is;
            i_is = h.i_is;
            size = length-map t.values (nearest_value code) ∙ h.size;
            canonical = all_given _ (nearest_value code) (λ v. fits_canonical code c (nearest_value code v) (nearest_fits code c v)) t.values;
          }
