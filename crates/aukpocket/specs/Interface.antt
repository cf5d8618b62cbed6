-- What the C functions hand back: numbers in a structure, and what stands in the output.
use Rattle.std.specs.Prelude.{ℕ, List, [], ◌∷◌, ℤ, pos, negsuc}
use Rattle.numbers.specs.Outcome.{Said, taken, refused, Outcome}
use Rattle.look_up.specs.LookUp.{NumberOutcome}
use Rattle.std.specs.declared.cmp.Ordering.{Ordering}
use Rattle.std.specs.declared.cmp.Ordering.TheVariants.{Less, Equal, Greater}
use Rattle.compare.specs.Answer as compared
use Rattle.compare.specs.Answer.{Compared, ordered}
use Rattle.aukpocket.specs.declared.ReelAnswer.{ReelAnswer}
use Rattle.aukpocket.specs.declared.FieldAnswer.{FieldAnswer}
use Rattle.aukpocket.specs.declared.OrderAnswer.{OrderAnswer}
use Rattle.aukpocket.specs.declared.BoxAnswer.{BoxAnswer}
use Rattle.aukpocket.specs.declared.SampleAnswer.{SampleAnswer}

-- What a call says, handed over in a structure; or lost, where it returns more or fewer values than the structure takes from that call. A
-- function hands over a structure, so none of the values can be lost.
pub data Handed (A : Type 0) : Type 0 where
  handed : A → Handed A
  lost : Handed A

-- A taken call on a whole reel or record, in numbers: number 0, T, N, the length, the count of words that are not normal and that of
-- samples whose value changed.
abbrev pub taken_answer : ℕ → ℕ → ℕ → ℕ → ℕ → ReelAnswer
taken_answer t n l c d = record { number = 0; traces = t; samples = n; length = l; beside = 0; not_normal = c; changed = d }

-- A refused call on a whole reel or record, in numbers: the number of the cause and what stands beside it; the other members are 0.
abbrev pub refused_answer : ℕ → ℕ → ReelAnswer
refused_answer number beside = record { number = number; traces = 0; samples = 0; length = 0; beside = beside; not_normal = 0; changed = 0 }

-- What exact writing says, and taking cards back, in numbers: number 0 and T, N and the length where it is taken; else the number of the
-- cause and what stands beside it in the table. The other members are 0.
abbrev pub reel_answer : Said → Handed ReelAnswer
reel_answer (taken []) = lost
reel_answer (taken (t ∷ [])) = lost
reel_answer (taken (t ∷ n ∷ [])) = lost
reel_answer (taken (t ∷ n ∷ l ∷ [])) = handed (taken_answer t n l 0 0)
reel_answer (taken (t ∷ n ∷ l ∷ more ∷ rest)) = lost
reel_answer (refused number beside) = handed (refused_answer number beside)

-- What reading a reel says, in numbers: number 0, T, N, the length and the count of its words that are not normal.
abbrev pub read_answer : Said → Handed ReelAnswer
read_answer (taken []) = lost
read_answer (taken (t ∷ [])) = lost
read_answer (taken (t ∷ n ∷ [])) = lost
read_answer (taken (t ∷ n ∷ l ∷ [])) = lost
read_answer (taken (t ∷ n ∷ l ∷ c ∷ [])) = handed (taken_answer t n l c 0)
read_answer (taken (t ∷ n ∷ l ∷ c ∷ more ∷ rest)) = lost
read_answer (refused number beside) = handed (refused_answer number beside)

-- What nearest writing says, in numbers: number 0, T, N, the length and the count of samples whose value changed.
abbrev pub nearest_answer : Said → Handed ReelAnswer
nearest_answer (taken []) = lost
nearest_answer (taken (t ∷ [])) = lost
nearest_answer (taken (t ∷ n ∷ [])) = lost
nearest_answer (taken (t ∷ n ∷ l ∷ [])) = lost
nearest_answer (taken (t ∷ n ∷ l ∷ d ∷ [])) = handed (taken_answer t n l 0 d)
nearest_answer (taken (t ∷ n ∷ l ∷ d ∷ more ∷ rest)) = lost
nearest_answer (refused number beside) = handed (refused_answer number beside)

-- The structure and the output's bytes.
pub record ReelHanded : Type 0 where
  pub answer : Handed ReelAnswer
  pub bytes : List ℕ

abbrev pub reel_in : ReelAnswer → List ℕ → ReelHanded
reel_in answer out = record { answer = handed answer; bytes = out }

abbrev pub reel_handed : Outcome → ReelHanded
reel_handed o = record { answer = reel_answer o.said; bytes = o.bytes }

abbrev pub read_handed : Outcome → ReelHanded
read_handed o = record { answer = read_answer o.said; bytes = o.bytes }

abbrev pub nearest_handed : Outcome → ReelHanded
nearest_handed o = record { answer = nearest_answer o.said; bytes = o.bytes }

-- What listing a record's cards says, in numbers: number 0 and the listing's length where it is taken; else the number of the cause and what
-- stands beside it. The other members are 0.
abbrev pub listing_answer : Said → Handed ReelAnswer
listing_answer (taken []) = lost
listing_answer (taken (l ∷ [])) = handed (taken_answer 0 0 l 0 0)
listing_answer (taken (l ∷ more ∷ rest)) = lost
listing_answer (refused number beside) = handed (refused_answer number beside)

abbrev pub listing_handed : Outcome → ReelHanded
listing_handed o = record { answer = listing_answer o.said; bytes = o.bytes }

-- What looking up a field says, in numbers: number 0 and the field's number where it is taken; else the number of the cause and what
-- stands beside it, and 0 for the field's.
abbrev pub field_answer : Said → ℤ → Handed FieldAnswer
field_answer (taken []) z = handed (record { number = 0; value = z; beside = 0 })
field_answer (taken (more ∷ rest)) z = lost
field_answer (refused number beside) z = handed (record { number = number; value = z; beside = beside })

abbrev pub field_handed : NumberOutcome → Handed FieldAnswer
field_handed o = field_answer o.said o.value

-- An order in numbers: -1 where the first record is the lesser, 0 where they count as equal, 1 where the second is the lesser.
abbrev pub order_number : Ordering → ℤ
order_number Less = negsuc 0
order_number Equal = pos 0
order_number Greater = pos 1

-- What comparing two records says, in numbers: number 0 and the order where it is taken; else the number of the cause, which record has it, and
-- what stands beside it. The other members are 0.
abbrev pub order_answer : Compared → OrderAnswer
order_answer (ordered o) = record { number = 0; order = order_number o; which = 0; beside = 0 }
order_answer (compared.refused which number beside) = record { number = number; order = pos 0; which = which; beside = beside }

-- What checking a box says, in numbers: number 0, the number of reels and of traces where it is taken; else the number of the cause and what
-- stands beside it. The other members are 0.
abbrev pub box_answer : Said → Handed BoxAnswer
box_answer (taken []) = lost
box_answer (taken (r ∷ [])) = lost
box_answer (taken (r ∷ t ∷ [])) = handed (record { number = 0; reels = r; traces = t; beside = 0 })
box_answer (taken (r ∷ t ∷ more ∷ rest)) = lost
box_answer (refused number beside) = handed (record { number = number; reels = 0; traces = 0; beside = beside })

-- What writing a pair says, in numbers: number 0 where it is taken; else the number of the cause and what stands beside it.
abbrev pub sample_answer : Said → Handed SampleAnswer
sample_answer (taken []) = handed (record { number = 0; beside = 0; not_normal = 0 })
sample_answer (taken (more ∷ rest)) = lost
sample_answer (refused number beside) = handed (record { number = number; beside = beside; not_normal = 0 })

-- What reading a word says, in numbers: also 1 for an IBM word that isn't normal, else 0.
abbrev pub word_answer : Said → Handed SampleAnswer
word_answer (taken []) = lost
word_answer (taken (c ∷ [])) = handed (record { number = 0; beside = 0; not_normal = c })
word_answer (taken (c ∷ more ∷ rest)) = lost
word_answer (refused number beside) = handed (record { number = number; beside = beside; not_normal = 0 })

-- The structure and the bytes handed out.
pub record SampleHanded : Type 0 where
  pub answer : Handed SampleAnswer
  pub bytes : List ℕ

abbrev pub sample_in : SampleAnswer → List ℕ → SampleHanded
sample_in answer out = record { answer = handed answer; bytes = out }

abbrev pub sample_handed : Outcome → SampleHanded
sample_handed o = record { answer = sample_answer o.said; bytes = o.bytes }

abbrev pub word_handed : Outcome → SampleHanded
word_handed o = record { answer = word_answer o.said; bytes = o.bytes }
