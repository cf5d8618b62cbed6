-- Samples that stand in several fields, one behind the other: c samples in each, the last with the rest. A sample has v bytes, and each
-- field has three bytes of tag and length before its content. Fields and samples are counted from 0.
use Rattle.std.specs.Prelude.{ℕ, zero, suc, ◌+◌, ◌-◌, ◌*◌, ◌/◌, min, Bool, List, length, take, drop}
use Rattle.numbers.specs.Walk.{pick, walk}

-- What f gives for 0, for 1 and so on, k of them.
abbrev pub each : {A : Type 0} → (ℕ → A) → ℕ → List A
each f k = walk f 1 k 0

-- How many tests pass one after the other, from test j on: the first that doesn't pass ends the count, and no more than `most` are counted.
unfoldable pub run_from : (ℕ → Bool) → ℕ → ℕ → ℕ
run_from test zero j = 0
run_from test (suc most) j = pick (test j) (suc (run_from test most (j + 1))) 0

-- How many fields n samples need: n / c, rounded up.
unfoldable pub fields_in : ℕ → ℕ → ℕ
fields_in c n = (n + (c - 1)) / c

-- The samples of field f: c, and in the last field the rest.
abbrev pub field_count : ℕ → ℕ → ℕ → ℕ
field_count c n f = min c (n - f * c)

-- The place of field f, where the first stands at the place `at`: each field before it is full.
abbrev pub field_place : ℕ → ℕ → ℕ → ℕ → ℕ
field_place v c at f = at + f * (3 + c * v)

-- The place of sample j: behind the j samples before it, behind the tag and length of the first field, and behind those of each full field
-- before its own.
abbrev pub pair_place : ℕ → ℕ → ℕ → ℕ → ℕ
pair_place v c at j = at + 3 + j * v + 3 * (j / c)

-- The bytes of n samples with the tags and lengths of their fields.
abbrev pub fields_length : ℕ → ℕ → ℕ → ℕ
fields_length v c n = 3 * fields_in c n + n * v

-- What g gives for each field in order, by its samples and its place.
unfoldable pub in_fields : {A : Type 0} → (ℕ → ℕ → A) → ℕ → ℕ → ℕ → ℕ → List A
in_fields g v c n at = each (λ f. g (field_count c n f) (field_place v c at f)) (fields_in c n)

-- A list in shares of c, the last with the rest.
unfoldable pub shares : {A : Type 0} → ℕ → List A → List (List A)
shares c l = each (λ f. take c (drop (f * c) l)) (fields_in c (length l))
