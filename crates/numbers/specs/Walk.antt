-- What stands at regular offsets of a list, and a choice by a test.
use Rattle.std.specs.Prelude.{ℕ, zero, suc, ◌+◌, Bool, true, false, ◌||◌, List, [], ◌∷◌, ◌++◌, length, take, drop, ◌==◌, slice_index}

-- what f gives at the offsets `at`, `at + w`, `at + w + w` and so on, k of them
abbrev pub walk : {A : Type 0} → (ℕ → A) → ℕ → ℕ → ℕ → List A
walk f w zero at = []
walk f w (suc k) at = f at ∷ walk f w k (at + w)

-- the lists of a list, one after the other
abbrev pub flat : {A : Type 0} → List (List A) → List A
flat [] = []
flat (l ∷ ls) = l ++ flat ls

-- the sum of the numbers of a list
abbrev pub sum : List ℕ → ℕ
sum [] = 0
sum (n ∷ l) = n + sum l

-- a number is one of a list
abbrev pub is_among : ℕ → List ℕ → Bool
is_among n [] = false
is_among n (k ∷ l) = n == k || is_among n l

-- the first of two where the test is true, the second where it is false
abbrev pub pick : {A : Type 0} → Bool → A → A → A
pick true a b = a
pick false a b = b

-- the k bytes of s from the offset `at` on, with 0 for each that lies past the end: always k of them
unfoldable pub bytes_at : List ℕ → ℕ → ℕ → List ℕ
bytes_at s at k = walk (λ a. slice_index s a) 1 k at

-- what a slice holds after another was copied into it: the other's content where both have the same length, its own where they do not
unfoldable pub copy_of : List ℕ → List ℕ → List ℕ
copy_of src out = pick (length out == length src) src out

-- a list after a store: `new` over what stood there, from the offset `at` on
unfoldable pub overwritten : List ℕ → ℕ → List ℕ → List ℕ
overwritten l at new = take at l ++ (new ++ drop (at + length new) l)
