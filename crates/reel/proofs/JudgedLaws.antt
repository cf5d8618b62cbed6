-- What judging a reel tells: that no cause applies and what its own numbers are, or the first cause. Assumes nothing.
use mathlib.Core.Path.{◌≡◌, refl}
use mathlib.Core.List.{List}
use Prim.Native.Nat.{ℕ}
use native.Mathlib.Omega.{arith}
use Rattle.numbers.specs.declared.Place.{Place}
use Rattle.numbers.specs.Cause.{Check}
use Rattle.numbers.specs.Cause as check
use Prim.Native.Nat.{◌≤◌}
use lib.ListN.{length}
use borrow.Author.Tests.{le-ltb}
use Rattle.numbers.specs.Cause.{then, first_of}
use Rattle.numbers.specs.Walk.{walk}
use Rattle.reel.specs.Layout.{first_trace, samples_of, interval_of, code_of, stride_by, traces_by, whole_in, over_in}
use Rattle.formats.specs.Codes.{sample_bytes}
use Rattle.reel.specs.Causes.{limit_causes_by, size_causes, trace_causes_by, behind_causes_by, causes_by, found_by, judged_by}
use Rattle.reel.specs.declared.Layout.{Layout}
use Rattle.reel.specs.Judged as judged

-- a reel of a layout with no cause against it, by its own numbers
pub record Own (k : Layout) (s : List ℕ) (code n i v w t : ℕ) : Type 0 where
  pub fine : causes_by k s ≡ check.Fine
  pub code_is : code_of s ≡ code
  pub n_is : samples_of s ≡ n
  pub i_is : interval_of s ≡ i
  pub v_is : sample_bytes (code_of s) ≡ v
  pub w_is : stride_by k s ≡ w
  pub t_is : traces_by k s ≡ t

pub own : (k : Layout) (s : List ℕ) {code n i v w t : ℕ} → judged_by k s ≡ judged.Fine code n i v w t → Own k s code n i v w t
own k s {code} {n} {i} {v} {w} {t} = go (causes_by k s) refl
  where
    go : (c : Check) → causes_by k s ≡ c → found_by k s c ≡ judged.Fine code n i v w t → Own k s code n i v w t
    go check.Fine q e = record { fine = q; code_is = cc; n_is = cc; i_is = cc; v_is = cc; w_is = cc; t_is = cc }
    go (check.Refused number place) q e = absurd (let z : ◌≡◌ {A = ℕ} 0 1 = cc in omega arith)

pub refused_is : (k : Layout) (s : List ℕ) {number : ℕ} {place : Place} → judged_by k s ≡ judged.Refused number place → causes_by k s ≡ check.Refused number place
refused_is k s {number} {place} = go (causes_by k s)
  where
    go : (c : Check) → found_by k s c ≡ judged.Refused number place → c ≡ check.Refused number place
    go check.Fine e = absurd (let z : ◌≡◌ {A = ℕ} 0 1 = cc in omega arith)
    go (check.Refused m p) e = cc

-- the causes of a reel that has its headers: those of its own numbers, of its size, and of its traces
pub causes_long : (k : Layout) (s : List ℕ) → first_trace ≤ length s
    → causes_by k s
    ≡ then (limit_causes_by k (code_of s) (samples_of s) (interval_of s))
    (then (size_causes (length s) (stride_by k s) (whole_in (length s) (stride_by k s)) (over_in (length s) (stride_by k s)))
    (first_of (walk (trace_causes_by k s (code_of s) (samples_of s) (interval_of s)) (stride_by k s) (whole_in (length s) (stride_by k s)) first_trace)))
unfolding causes_by behind_causes_by
causes_long k s h = rw (le-ltb (length s) first_trace h) refl
