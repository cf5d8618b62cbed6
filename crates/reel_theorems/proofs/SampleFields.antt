-- Values in fields of 6,000: how long they are, and that they are told by their fields. Assumes nothing.
use mathlib.Core.Path.{◌≡◌, refl, sym, ap, ap₂, ◌∙◌}
use mathlib.Core.List.{List, [], ◌∷◌, ◌++◌, map}
use Prim.Native.Nat.{ℕ, ◌+◌, ◌-◌, ◌*◌, ◌≤◌, ◌<◌, min}
use native.Mathlib.Nat.{not-suc-le-zero}
use native.Mathlib.Omega.{arith}
use lib.ListN.{length, take, drop, length-append, length-take, length-drop, take-append-drop}
use lib.IntN.{ℤ}
use Rattle.numbers.specs.Walk.{flat}
use Rattle.numbers.specs.Terms.{All}
use Rattle.numbers.proofs.WalkLaws.{split, all_take, all_drop, flat_size, flat_inj}
use Rattle.fields.specs.Fields.{fields_length, shares}
use Rattle.fields.proofs.FieldsLaws.{by_fields, by_shares, length_none, length_more, shares_none, shares_more}
use Rattle.record.specs.Kind.{Kind}
use Rattle.record.specs.Record.{field, field_samples, samples_field_in, samples_fields_in}
use Rattle.reel_theorems.proofs.KindLaws.{Good, Writes}

-- ## Fields

pub size_field : (tag : ℕ) (l : List ℕ) → length (field tag l) ≡ 3 + length l
unfolding field
size_field tag l = omega arith

pub field_split : (tag : ℕ) (l₁ l₂ r₁ r₂ : List ℕ) → length l₁ ≡ length l₂ → field tag l₁ ++ r₁ ≡ field tag l₂ ++ r₂ → (l₁ ≡ l₂) × (r₁ ≡ r₂)
unfolding field
field_split tag l₁ l₂ r₁ r₂ n e =
    let h = split (field tag l₁) (field tag l₂) r₁ r₂ (size_field tag l₁ ∙ ap (λ (k : ℕ). 3 + k) n ∙ sym (size_field tag l₂)) e in
    (ap (drop 3) h.0, h.1)

-- ## Values

-- A list of values in fields of c.
abbrev pub in_shares : Kind → ℕ → List ℤ → List ℕ
in_shares k c l = flat (map (samples_field_in k) (shares c l))

module _ (k : Kind) (w : Writes k) where
  pub size_pairs : (l : List ℤ) → All Good l → length (flat (map k.bytes l)) ≡ length l * k.width
  size_pairs l h = flat_size k.bytes Good k.width (λ x p. w.size x) l h

  pub size_one : (l : List ℤ) → All Good l → length (samples_field_in k l) ≡ 3 + length l * k.width
  unfolding samples_field_in
  size_one l h = size_field k.tag (flat (map k.bytes l)) ∙ ap (λ (x : ℕ). 3 + x) (size_pairs l h)

  value_inj : (v x : ℤ) → Good v → Good x → k.bytes v ≡ k.bytes x → v ≡ x
  value_inj v x p q e = sym (w.again v p) ∙ ap k.value e ∙ w.again x q

  module _ (c : ℕ) (some : 0 < c) where
    pub shares_first : (l : List ℤ) → 0 < length l → in_shares k c l ≡ samples_field_in k (take c l) ++ in_shares k c (drop c l)
    shares_first l h = ap (λ (x : List (List ℤ)). flat (map (samples_field_in k) x)) (shares_more c some l h)

    pub shares_empty : (l : List ℤ) → length l ≤ 0 → in_shares k c l ≡ []
    shares_empty l h = ap (λ (x : List (List ℤ)). flat (map (samples_field_in k) x)) (shares_none c some l h)

    -- They have the bytes of their fields.
    pub size_shares : (l : List ℤ) → All Good l → length (in_shares k c l) ≡ fields_length k.width c (length l)
    size_shares =
        by_shares c some (λ l. All Good l → length (in_shares k c l) ≡ fields_length k.width c (length l))
        (λ l e g. ap length (shares_empty l e) ∙ sym (length_none c some k.width (length l) e))
        (λ l e rest g.
        let a = size_one (take c l) (all_take Good c l g) in
        let b = rest (all_drop Good c l g) in
        let d = length_more c some k.width (length l) e in
        let m : length (take c l) * k.width ≡ min c (length l) * k.width = ap (λ (x : ℕ). x * k.width) (length-take c l) in
        let r : fields_length k.width c (length (drop c l)) ≡ fields_length k.width c (length l - c) = ap (fields_length k.width c) (length-drop c l) in
        ap length (shares_first l e) ∙ length-append (samples_field_in k (take c l)) (in_shares k c (drop c l)) ∙ ap₂ (λ (x y : ℕ). x + y) (a ∙ ap (λ (x : ℕ). 3 + x) m) (b ∙ r) ∙ sym d)

    abbrev Told : ℕ → Type 0
    Told n = (l₁ l₂ : List ℤ) → length l₁ ≡ n → length l₂ ≡ n → All Good l₁ → All Good l₂ → in_shares k c l₁ ≡ in_shares k c l₂ → l₁ ≡ l₂

    -- Two lists of as many values with the same fields are the same.
    pub shares_inj : (n : ℕ) → Told n
    unfolding samples_field_in
    shares_inj =
        by_fields c some Told (λ n h l₁ l₂ p q g₁ g₂ e. none l₁ (omega arith) ∙ sym (none l₂ (omega arith)))
        (λ n h rest l₁ l₂ p q g₁ g₂ e.
        let x₁ = flat (map k.bytes (take c l₁)) in
        let x₂ = flat (map k.bytes (take c l₂)) in
        let n₁ = length-take c l₁ ∙ ap (min c) p in
        let n₂ = length-take c l₂ ∙ ap (min c) q in
        let t₁ = all_take Good c l₁ g₁ in
        let t₂ = all_take Good c l₂ g₂ in
        let s₁ = size_pairs (take c l₁) t₁ ∙ ap (λ (x : ℕ). x * k.width) n₁ in
        let s₂ = size_pairs (take c l₂) t₂ ∙ ap (λ (x : ℕ). x * k.width) n₂ in
        let f = field_split k.tag x₁ x₂ (in_shares k c (drop c l₁)) (in_shares k c (drop c l₂)) (s₁ ∙ sym s₂) (sym (shares_first l₁ (omega arith)) ∙ e ∙ shares_first l₂ (omega arith)) in
        let a = flat_inj k.bytes Good k.width (λ v y. w.size v) value_inj (take c l₁) (take c l₂) (n₁ ∙ sym n₂) t₁ t₂ f.0 in
        let b = rest (drop c l₁) (drop c l₂) (length-drop c l₁ ∙ ap (λ (x : ℕ). x - c) p) (length-drop c l₂ ∙ ap (λ (x : ℕ). x - c) q) (all_drop Good c l₁ g₁) (all_drop Good c l₂ g₂) f.1 in
        sym (take-append-drop c l₁) ∙ ap₂ (λ (x y : List ℤ). x ++ y) a b ∙ take-append-drop c l₂)
      where
        none : (l : List ℤ) → length l ≤ 0 → l ≡ []
        none [] h = refl
        none (x ∷ l) h = absurd (not-suc-le-zero h)

  -- The samples of a trace.
  pub samples_size : (l : List ℤ) → All Good l → length (samples_fields_in k l) ≡ fields_length k.width field_samples (length l)
  unfolding samples_fields_in
  samples_size l g = size_shares field_samples (omega arith) l g

  pub samples_inj : (n : ℕ) (l₁ l₂ : List ℤ) → length l₁ ≡ n → length l₂ ≡ n → All Good l₁ → All Good l₂ → samples_fields_in k l₁ ≡ samples_fields_in k l₂ → l₁ ≡ l₂
  unfolding samples_fields_in
  samples_inj n l₁ l₂ p q g₁ g₂ e = shares_inj field_samples (omega arith) n l₁ l₂ p q g₁ g₂ e
