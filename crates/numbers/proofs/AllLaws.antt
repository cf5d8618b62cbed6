-- What holds of each element of a list, of lists joined and mapped, and along a walk. Assumes nothing.
use Rattle.std.proofs.Common.{◌≡◌, ℕ, zero, suc, ◌+◌, ◌*◌, ◌<◌, List, [], ◌∷◌, ◌++◌, map, replicate, refl, subst, arith}
use Rattle.numbers.specs.Walk.{walk, flat}
use Rattle.numbers.specs.Terms.{All, Bytes}
use Rattle.numbers.proofs.WalkLaws.{cons_eq, at_zero, at_suc}

-- ## Lists

-- What holds of each element of two lists holds of each of both, one behind the other.
pub all_append : {A : Type 0} (P : A → Type 0) (x y : List A) → All P x → All P y → All P (x ++ y)
all_append P [] y p q = q
all_append P (a ∷ x) y p q = (p.0, all_append P x y p.1 q)

-- Where P of an element shows Q of its image, P of each element of a list shows Q of each of the list mapped.
pub all_map : {A B : Type 0} (P : A → Type 0) (Q : B → Type 0) (f : A → B) → ((a : A) → P a → Q (f a)) → (l : List A) → All P l → All Q (map f l)
all_map P Q f h [] p = tt
all_map P Q f h (x ∷ l) p = (h x p.0, all_map P Q f h l p.1)

-- Two functions that give the same of each element of a list give the same list.
pub map_same : {A B : Type 0} (f g : A → B) (l : List A) → All (λ x. f x ≡ g x) l → map f l ≡ map g l
map_same f g [] h = refl
map_same f g (x ∷ l) h = cons_eq h.0 (map_same f g l h.1)

-- Where two things that hold of an element show a third, the first two of each element of a list show the third of each.
pub all_with : {A : Type 0} (P Q R : A → Type 0) → ((a : A) → P a → Q a → R a) → (l : List A) → All P l → All Q l → All R l
all_with P Q R h [] p q = tt
all_with P Q R h (a ∷ l) p q = (h a p.0 q.0, all_with P Q R h l p.1 q.1)

-- Where each value of a list, of which P holds, becomes a list of which Q holds of each element, Q holds of each of those lists joined.
pub all_flat : {A B : Type 0} (Q : B → Type 0) (g : A → List B) (P : A → Type 0) → ((a : A) → P a → All Q (g a)) → (l : List A) → All P l
    → All Q (flat (map g l))
all_flat Q g P h [] p = tt
all_flat Q g P h (a ∷ l) p = all_append Q (g a) (flat (map g l)) (h a p.0) (all_flat Q g P h l p.1)

-- Zeros are bytes.
pub bytes_zeros : (k : ℕ) → Bytes (replicate k 0)
bytes_zeros zero = tt
bytes_zeros (suc k) = (omega arith, bytes_zeros k)

-- ## Walks

-- What holds at each step of a walk holds of all that it gives.
pub all_each : {A : Type 0} (P : A → Type 0) (f : ℕ → A) (w k at : ℕ) → ((j : ℕ) → j < k → P (f (at + j * w))) → All P (walk f w k at)
all_each P f w zero at h = tt
all_each P f w (suc k) at h =
    (subst (λ (a : ℕ). P (f a)) (at_zero at w) (h 0 (omega arith)), all_each P f w k (at + w) (λ j l. subst (λ (a : ℕ). P (f a)) (at_suc at w j) (h (suc j) (omega arith))))
