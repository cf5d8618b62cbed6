-- Traces that have the same bytes in their assigned fields and their words, in whichever layout and wherever they stand; and reels that are
-- read alike. Assumes nothing.
use mathlib.Core.Path.{◌≡◌, refl, sym, ap, ap₂, ◌∙◌}
use mathlib.Core.List.{List, [], ◌∷◌, ◌++◌}
use mathlib.Core.Bool.{Bool, true, false, not}
use Prim.Native.Nat.{ℕ, ◌+◌, ◌-◌, ◌*◌, ◌≤◌, ◌<◌}
use native.Mathlib.Omega.{arith}
use lib.Dec.{ltb, eqb}
use lib.ListN.{length, drop}
use lib.IntN.{ℤ}
use Rattle.numbers.specs.Walk.{pick, walk, sum, bytes_at}
use Rattle.numbers.specs.BigEndian.{number}
use Rattle.numbers.specs.TwosComplement.{signed_of}
use Rattle.numbers.specs.Cause.{refuse_if, then}
use Rattle.numbers.specs.Outcome.{taken, Outcome}
use Rattle.numbers.specs.Cause.{Check}
use Rattle.numbers.specs.Cause.{Fine, Refused}
use Rattle.numbers.specs.Terms.{All}
use Rattle.numbers.proofs.WalkLaws.{walk_same}
use Rattle.numbers.proofs.AllLaws.{all_append, all_with, map_same}
use Rattle.numbers.proofs.CauseLaws.{passed, then_fine}
use Rattle.numbers.proofs.RowLaws.{then_second}
use Rattle.formats.specs.Value.{exact_value}
use Rattle.sample.specs.Reading.{not_normal}
use Rattle.scalars.specs.Scalar.{is_allowed}
use Rattle.headers.proofs.NumberLaws.{total}
use Rattle.headers.proofs.Listed.{listed, header_listed}
use Rattle.reel.specs.Layout.{Field, fields_from, binary_widths, binary_fields, trace_widths, trace_fields, elevation_scalar, coordinate_scalar, field_number, number16, samples_of, traces_by}
use Rattle.reel.specs.Causes.{neither, scalar_cause, trace_causes, causes_by}
use Rattle.reel.specs.Meaning.{other_than, filled, trace_number, Header, trace_meaning, Meaning, meaning_by, binary_numbers}
use Rattle.reel.specs.NotNormal.{not_normal_in, not_normal_by}
use Rattle.reel.specs.declared.Layout.{Layout}
use Rattle.reel.proofs.CheckLaws.{none_bad}
use Rattle.record.specs.Record.{record_of, record_by, record_length}
use Rattle.read_reel.specs.Reading.{record_length_by, read_causes_by, read_end_by, read_outcome_by}

-- ## Fields

-- a field that stands within the places from `least` on and before `most`
record Inside (least most : ℕ) (g : Field) : Type 0 where
  low : least ≤ g.begins - 1
  high : (g.begins - 1) + g.width ≤ most

-- fields one behind the other begin where the first does and end where their widths end
all_inside : (b least most : ℕ) (ws : List ℕ) → 1 ≤ b → least ≤ b - 1 → b - 1 + total ws ≤ most → All (Inside least most) (fields_from b ws)
all_inside b least most [] l o h = tt
all_inside b least most (w ∷ ws) l o h = (record { low = o; high = omega (arith, h) }, all_inside (b + w) least most ws (omega arith) (omega (arith, l, o)) (omega (arith, l, h)))

-- the fields of a trace header stand in its first 180 bytes
trace_inside : All (Inside 0 180) trace_fields
unfolding trace_fields trace_widths
trace_inside = all_inside 1 0 180 trace_widths (omega arith) (omega arith) (omega arith)

-- those of the binary header, 3225 left out, in its first 60
other_all : (Q : Field → Type 0) (b : ℕ) (l : List Field) → All Q l → All Q (other_than b l)
other_all Q b [] h = tt
other_all Q b (g ∷ l) h = all_append Q (pick (eqb g.begins b) [] (g ∷ [])) (other_than b l) (one (eqb g.begins b)) (other_all Q b l h.1)
  where
    one : (x : Bool) → All Q (pick x [] (g ∷ []))
    one true = tt
    one false = (h.0, tt)

binary_inside : All (Inside 3200 3260) (other_than 3225 binary_fields)
unfolding binary_fields binary_widths
binary_inside = other_all (Inside 3200 3260) 3225 binary_fields (all_inside 3201 3200 3260 binary_widths (omega arith) (omega arith) (omega arith))

-- two lists that have the same bytes there have the same binary numbers
pub binary_same : (s x : List ℕ) → ((d c : ℕ) → d + c ≤ 60 → bytes_at x (3200 + d) c ≡ bytes_at s (3200 + d) c) → binary_numbers x ≡ binary_numbers s
unfolding binary_numbers
binary_same s x same =
    map_same (field_number x 0) (field_number s 0) (other_than 3225 binary_fields)
    (all_with (Inside 3200 3260) (Inside 3200 3260) (λ (g : Field). field_number x 0 g ≡ field_number s 0 g) one (other_than 3225 binary_fields) binary_inside binary_inside)
  where
    one : (g : Field) → Inside 3200 3260 g → Inside 3200 3260 g → field_number x 0 g ≡ field_number s 0 g
    one g h o =
        let d = g.begins - 1 - 3200 in
        let e : 0 + (g.begins - 1) ≡ 3200 + d = omega (arith, h.low) in
        let q = same d g.width (omega (arith, h.low, h.high)) in
        ap (λ (l : List ℕ). signed_of (8 * g.width) (number l)) (ap (λ (y : ℕ). bytes_at x y g.width) e ∙ q ∙ ap (λ (y : ℕ). bytes_at s y g.width) (sym e))

-- ## A trace

-- the trace of n words at the place p of x has the same bytes as that at the place `at` of s, in its assigned fields and its words
pub record SameTrace (s x : List ℕ) (n p at : ℕ) : Type 0 where
  pub header : (d c : ℕ) → d + c ≤ 180 → bytes_at x (p + d) c ≡ bytes_at s (at + d) c
  pub words : (j : ℕ) → j < n → bytes_at x (p + 240 + j * 4) 4 ≡ bytes_at s (at + 240 + j * 4) 4

module _ (s x : List ℕ) (n i p at : ℕ) (t : SameTrace s x n p at) where
  -- What is made of its words is the same,
  pub words_made : {A : Type 0} (g : List ℕ → A) → walk (λ q. g (bytes_at x q 4)) 4 n (p + 240) ≡ walk (λ q. g (bytes_at s q 4)) 4 n (at + 240)
  words_made g = walk_same (λ q. g (bytes_at x q 4)) (λ q. g (bytes_at s q 4)) 4 4 n (p + 240) (at + 240) (λ j l. ap g (t.words j l))

  -- and where the one has no cause of 7, 8 and 18 under code 1, nor has the other.
  pub trace_fine : trace_causes s 1 n i at ≡ Fine → trace_causes x 1 n i p ≡ Fine
  unfolding trace_causes
  trace_fine e =
      let a = then_fine (refuse_if (neither (number16 s (at + 114)) n) 7 (at + 114)) _ e in
      let b = then_fine (refuse_if (neither (number16 s (at + 116)) i) 8 (at + 116)) _ a.1 in
      let c = then_fine (scalar_cause s at elevation_scalar) _ b.1 in
      let d = then_fine (scalar_cause s at coordinate_scalar) _ c.1 in
      then_second _ _ (own 114 n 7 (omega arith) a.0)
      (then_second _ _ (own 116 i 8 (omega arith) b.0)
      (then_second _ _ (scalar 68 (omega arith) c.0)
      (then_second _ _ (scalar 70 (omega arith) d.0) (none_bad x 1 (λ q. omega (arith, q)) (λ q. omega (arith, q)) 4 n (p + 240)))))
    where
      own : (d m cause : ℕ) → d + 2 ≤ 180 → refuse_if (neither (number16 s (at + d)) m) cause (at + d) ≡ Fine → refuse_if (neither (number16 x (p + d)) m) cause (p + d) ≡ Fine
      own d m cause l q =
          ap (λ (b : Bool). refuse_if b cause (p + d)) (ap (λ (v : List ℕ). neither (number v) m) (t.header d 2 l) ∙ passed _ _ _ q)

      scalar : (d : ℕ) → d + 2 ≤ 180 → refuse_if (not (is_allowed (signed_of 16 (number16 s (at + d))))) 18 (at + d) ≡ Fine → refuse_if (not (is_allowed (signed_of 16 (number16 x (p + d))))) 18 (p + d) ≡ Fine
      scalar d l q =
          ap (λ (b : Bool). refuse_if b 18 (p + d)) (ap (λ (v : List ℕ). not (is_allowed (signed_of 16 (number v)))) (t.header d 2 l) ∙ passed _ _ _ q)

  -- Both mean the same,
  pub trace_same : trace_meaning x 1 n i p ≡ trace_meaning s 1 n i at
  unfolding trace_meaning
  trace_same =
      ap₂ (λ (h : Header) (v : List ℤ). record { header = h; values = v })
      (header_listed (trace_number x n i p) ∙ ap listed (map_same (trace_number x n i p) (trace_number s n i at) trace_fields numbers) ∙ sym (header_listed (trace_number s n i at)))
      (words_made (exact_value 1))
    where
      numbers : All (λ (g : Field). trace_number x n i p g ≡ trace_number s n i at g) trace_fields
      numbers =
          all_with (Inside 0 180) (Inside 0 180) (λ (g : Field). trace_number x n i p g ≡ trace_number s n i at g)
          (λ g h o. ap (λ (l : List ℕ). let z = signed_of (8 * g.width) (number l) in pick (eqb g.begins 115) (filled n z) (pick (eqb g.begins 117) (filled i z) z)) (t.header (g.begins - 1) g.width h.high))
          trace_fields trace_inside trace_inside

  -- and as many words of both are not normal.
  pub words_same : not_normal_in x 1 n (p + 240) ≡ not_normal_in s 1 n (at + 240)
  unfolding not_normal_in
  words_same = ap sum (words_made (not_normal 1))

-- ## Reels that are read alike

-- Two reels, each of any layout, without a cause, with the same T, N, count and meaning, are read alike into any output.
pub read_alike : (y₁ y₂ : Layout) (s₁ s₂ : List ℕ) → causes_by y₁ s₁ ≡ Fine → causes_by y₂ s₂ ≡ Fine → traces_by y₁ s₁ ≡ traces_by y₂ s₂ → samples_of s₁ ≡ samples_of s₂ → not_normal_by y₁ s₁ ≡ not_normal_by y₂ s₂ → meaning_by y₁ s₁ ≡ meaning_by y₂ s₂
    → (out : List ℕ) → read_outcome_by y₁ s₁ out ≡ read_outcome_by y₂ s₂ out
read_alike y₁ y₂ s₁ s₂ e₁ e₂ traces samples count means out = ap (read_end_by y₁ s₁ out) checks ∙ ends (read_causes_by y₂ s₂ (length out))
  where
    size : record_length_by y₁ s₁ ≡ record_length_by y₂ s₂
    size = ap₂ record_length traces samples

    checks : read_causes_by y₁ s₁ (length out) ≡ read_causes_by y₂ s₂ (length out)
    checks = ap₂ then (e₁ ∙ sym e₂) (ap (λ (l : ℕ). refuse_if (ltb (length out) l) 10 l) size)

    made : ℕ → ℕ → ℕ → ℕ → List ℕ → Outcome
    made t m l c r = record { said = taken (t ∷ m ∷ l ∷ c ∷ []); bytes = r ++ drop l out }

    ends : (c : Check) → read_end_by y₁ s₁ out c ≡ read_end_by y₂ s₂ out c
    ends (Refused cause place) = refl
    ends Fine =
        ap₂ (λ (t m : ℕ). made t m (record_length_by y₁ s₁) (not_normal_by y₁ s₁) (record_by y₁ s₁)) traces samples
        ∙ ap₂ (λ (l c : ℕ). made (traces_by y₂ s₂) (samples_of s₂) l c (record_by y₁ s₁)) size count
        ∙ ap (λ (m : Meaning). made (traces_by y₂ s₂) (samples_of s₂) (record_length_by y₂ s₂) (not_normal_by y₂ s₂) (record_of m)) means
