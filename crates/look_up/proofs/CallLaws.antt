-- What the parts of the call have to do with its outcome. Assumes nothing.
use mathlib.Core.Path.{◌≡◌, sym}
use mathlib.Core.List.{List}
use Prim.Native.Nat.{ℕ}
use lib.IntN.{pos}
use Rattle.numbers.specs.Cause.{Check, Fine, Refused}
use Rattle.numbers.specs.declared.ByteNo.{ByteNo}
use Rattle.numbers.specs.declared.Place.{Place}
use Rattle.reel.specs.Layout.{traces_of}
use Rattle.reel.specs.Causes.{causes_of, reel_judged}
use Rattle.reel.specs.Judged as reel
use Rattle.reel.specs.declared.Layout.TheVariants.{Plain}
use Rattle.reel.proofs.JudgedLaws.{own}
use Rattle.look_up.specs.LookUp.{Found, is_none, field_at, found_number, field_causes, number_said, look_up_outcome}
use Rattle.look_up.specs.Parts.{Own}

-- the outcome, by what is found against the reel, and then against the trace number and the field
pub stopped_is : (s : List ℕ) (k : ℕ) (b : ByteNo) {number : ℕ} {place : Place} → causes_of s ≡ Refused number place
    → number_said (Refused number place) (pos 0) ≡ look_up_outcome s k b
unfolding look_up_outcome
stopped_is s k b e = rw e

pub outcome_is : (s : List ℕ) (t k : ℕ) (b : ByteNo) (c : Check) (x : Found) → causes_of s ≡ Fine → t ≡ traces_of s → x ≡ field_at k b → field_causes t k (is_none x) ≡ c
    → number_said c (found_number s k x) ≡ look_up_outcome s k b
unfolding look_up_outcome
outcome_is s t k b c x f o p e = rw (f, sym o, sym p, e)

-- the reel's own numbers
pub own_numbers : (s : List ℕ) {code n i v w t : ℕ} → reel_judged s ≡ reel.Fine code n i v w t → Own s n i w × (t ≡ traces_of s)
own_numbers s e =
    let o = own Plain s e in
    (record { fine = o.fine; samples = sym o.n_is; interval = sym o.i_is; stride = sym o.w_is }, sym o.t_is)
