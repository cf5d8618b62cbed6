-- What the functions inside this crate hand to each other: the pairs of some words, stored one after the other.
use Rattle.std.specs.Prelude.{ℕ, List, map}
use Rattle.numbers.specs.Walk.{flat}
use Rattle.value.specs.declared.Pair.{Pair}
use Rattle.read_samples.specs.Samples.{pair_content}

-- The samples of some words, whatever a word is, by what gives the pair of one.
abbrev pub pairs_content : {W : Type 0} → (W → Pair) → List W → List ℕ
pairs_content pair words = flat (map (λ w. pair_content (pair w)) words)
