-- The words of a reel of code 1, and those among them that are not normal (document 02, CR 3).
use Rattle.std.specs.Prelude.{ℕ, ◌+◌, ◌*◌, List, [], ◌∷◌, ◌++◌, eqb}
use Rattle.numbers.specs.Outcome.{Said, taken, refused}
use Rattle.numbers.specs.Walk.{pick, walk, flat, sum, bytes_at}
use Rattle.numbers.specs.BigEndian.{number}
use Rattle.formats.specs.Words.{is_normal}
use Rattle.reel.specs.Layout.{samples_of, traces_of}

-- The place of word j of trace k, both counted from 0, in a reel of code 1 with n samples a trace.
abbrev pub word_place : ℕ → ℕ → ℕ → ℕ
word_place n k j = 3600 + k * (240 + n * 4) + 240 + j * 4

-- The words of a reel of code 1, each as a number of 32 bits, trace by trace.
unfoldable pub reel_words : List ℕ → List ℕ
reel_words s = flat (walk (λ at. walk (λ p. number (bytes_at s p 4)) 4 (samples_of s) (at + 240)) (240 + samples_of s * 4) (traces_of s) 3600)

-- In how many words two reels of code 1, of t traces of n words each, differ.
unfoldable pub words_changed : List ℕ → List ℕ → ℕ → ℕ → ℕ
words_changed s₁ s₂ n t =
    sum (walk (λ at. sum (walk (λ p. pick (eqb (number (bytes_at s₁ p 4)) (number (bytes_at s₂ p 4))) 0 1) 4 n (at + 240))) (240 + n * 4) t 3600)

-- The count that reading a reel or nearest writing says, and that reading a word says: 0 beside a refusal.
abbrev pub count_said : Said → ℕ
count_said (taken []) = 0
count_said (taken (t ∷ [])) = 0
count_said (taken (t ∷ n ∷ [])) = 0
count_said (taken (t ∷ n ∷ l ∷ [])) = 0
count_said (taken (t ∷ n ∷ l ∷ c ∷ rest)) = c
count_said (refused number beside) = 0

abbrev pub word_count_said : Said → ℕ
word_count_said (taken []) = 0
word_count_said (taken (c ∷ rest)) = c
word_count_said (refused number beside) = 0

-- Those of some words that are not normal.
abbrev pub not_normal_words : List ℕ → List ℕ
not_normal_words [] = []
not_normal_words (n ∷ l) = pick (is_normal n) [] (n ∷ []) ++ not_normal_words l
