-- What comparing two records says: "12 and 13 apply, the first record's before the second's; the answer says which" (document 02, CR 9).
use Rattle.std.specs.Prelude.{ℕ, List, Result, Ok, Err}
use Rattle.numbers.specs.Places.{place_no}
use Rattle.numbers.specs.Cause.{Check, cause_no}
use Rattle.numbers.specs.Cause as check
use Rattle.record.specs.Form.{form_causes}
use Rattle.std.specs.declared.cmp.Ordering.{Ordering}
use Rattle.compare.specs.Key.{order_of}
use Rattle.compare.specs.declared.RefusedRecord.{RefusedRecord}
use Rattle.compare.specs.declared.Which.{Which}
use Rattle.compare.specs.declared.Which.TheVariants.{First, Second}

-- The order of the first record to the second; or which record is refused, 1 or 2, by which number and at which place in that record.
pub data Compared : Type 0 where
  ordered : Ordering → Compared
  refused : ℕ → ℕ → ℕ → Compared

-- Which record, in numbers.
abbrev pub which_no : Which → ℕ
which_no First = 1
which_no Second = 2

-- The paper's values for each case of the answer.
abbrev pub compare_said : Result Ordering RefusedRecord → Compared
compare_said (Ok o) = ordered o
compare_said (Err r) = refused (which_no r.which) (cause_no r.refusal.cause) (place_no r.refusal.place)

-- What is said where judging the second record finds this, and no cause applies to the first;
abbrev pub second_found : List ℕ → List ℕ → Check → Compared
second_found a b check.Fine = ordered (order_of a b)
second_found a b (check.Refused number place) = refused 2 number (place_no place)

-- where judging the first finds this;
abbrev pub first_found : List ℕ → List ℕ → Check → Compared
first_found a b check.Fine = second_found a b (form_causes b)
first_found a b (check.Refused number place) = refused 1 number (place_no place)

-- of any two records.
abbrev pub compare_outcome : List ℕ → List ℕ → Compared
compare_outcome a b = first_found a b (form_causes a)
