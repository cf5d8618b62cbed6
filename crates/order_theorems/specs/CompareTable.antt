-- The table of the comparing call: which record is refused, by which number, and with what beside it.
use Rattle.std.specs.Prelude.{ℕ, List}
use Rattle.demands.specs.Tables.{FormRow}

-- "(12 and 13 apply, the first record's before the second's; the answer says which.)" (document 02, CR 9). The rows of 12 and 13 are `FormRow`, in
-- `Tables` of `demands`: the place is that in the record which is refused.
pub data CompareRow (a b : List ℕ) : ℕ → ℕ → ℕ → Type 0 where
  -- 1: a row of 12 and 13 applies to the first record
  first_record : {number place : ℕ} → FormRow a number place → CompareRow a b 1 number place
  -- 2: none applies to the first, so that it is valid, and one applies to the second
  second_record : {number place : ℕ} → ((n p : ℕ) → ¬ (FormRow a n p)) → FormRow b number place → CompareRow a b 2 number place
