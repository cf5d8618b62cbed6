-- The terms that theorems are stated in: what holds of each element of a list, what bytes are, which limits a number keeps, and a place by
-- its number.
use Rattle.std.specs.Prelude.{◌≡◌, ℕ, ◌<◌, ◌≤◌, ◌⊎◌, List, [], ◌∷◌}
use Rattle.numbers.specs.declared.Place.{Place}

-- P holds of each element of a list.
abbrev pub All : {A : Type 0} → (A → Type 0) → List A → Type 0
All P [] = Unit {0}
All P (x ∷ l) = P x × All P l

-- Each element of a list is a byte, a number below 256.
abbrev pub Bytes : List ℕ → Type 0
Bytes = All (λ b. b < 256)

-- n is from a to b, a and b among them.
abbrev pub Between : ℕ → ℕ → ℕ → Type 0
Between a b n = (a ≤ n) × (n ≤ b)

-- n is one of these numbers.
abbrev pub Among : ℕ → List ℕ → Type 0
Among n [] = ⊥
Among n (m ∷ ms) = (n ≡ m) ⊎ Among n ms

-- n is 0 or m.
abbrev pub ZeroOr : ℕ → ℕ → Type 0
ZeroOr m n = (n ≡ 0) ⊎ (n ≡ m)

-- The place, counted from 0, with the number `at`.
abbrev pub at_place : ℕ → Place
at_place at = record { 0 = at }
