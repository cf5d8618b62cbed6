-- What judging a record tells, whatever the causes that were looked for: that none applies and what its N and T are, or the first one.
-- Assumes nothing.
use mathlib.Core.Path.{◌≡◌, refl}
use mathlib.Core.List.{List}
use Prim.Native.Nat.{ℕ}
use native.Mathlib.Omega.{arith}
use Rattle.numbers.specs.declared.Place.{Place}
use Rattle.numbers.specs.Cause.{Check}
use Rattle.numbers.specs.Cause as check
use Rattle.record.specs.Form.{held_samples, held_count, record_found}
use Rattle.record.specs.Judged as judged

-- a record with no cause c against it, by its N and T
pub record Own (s : List ℕ) (c : Check) (n t : ℕ) : Type 0 where
  pub fine : c ≡ check.Fine
  pub n_is : held_samples s ≡ n
  pub t_is : held_count s (held_samples s) ≡ t

pub own : (s : List ℕ) (c : Check) {n t : ℕ} → record_found s c ≡ judged.Fine n t → Own s c n t
own s check.Fine e = record { fine = refl; n_is = cc; t_is = cc }
own s (check.Refused number place) e = absurd (let z : ◌≡◌ {A = ℕ} 0 1 = cc in omega arith)

pub refused_is : (s : List ℕ) (c : Check) {number : ℕ} {place : Place} → record_found s c ≡ judged.Refused number place → c ≡ check.Refused number place
refused_is s check.Fine e = absurd (let z : ◌≡◌ {A = ℕ} 0 1 = cc in omega arith)
refused_is s (check.Refused m p) e = cc
