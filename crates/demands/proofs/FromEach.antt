-- What stands in a list of bytes at places that are given by number. Assumes nothing.
use mathlib.Core.Path.{◌≡◌, refl, sym, ap, ◌∙◌, subst}
use mathlib.Core.Bool.{Bool, true, false}
use mathlib.Core.List.{List, [], ◌∷◌, ◌++◌, map}
use Prim.Native.Nat.{ℕ, zero, suc, ◌+◌, ◌≤◌, ◌<◌}
use native.Mathlib.Nat.{add-zero, not-suc-le-zero}
use native.Mathlib.Omega.{arith}
use lib.ListN.{length}
use Rattle.numbers.specs.Walk.{walk, flat}
use Rattle.numbers.specs.Cause.{first_of}
use Rattle.numbers.specs.Cause.{Check}
use Rattle.numbers.specs.Cause.{Fine}
use Rattle.numbers.specs.Terms.{All}
use Rattle.numbers.proofs.WalkLaws.{cons_eq}
use Rattle.fields.specs.Fields.{run_from}
use Rattle.demands.proofs.From.{From, from_at, from_parts, from_next}

-- Values, of which P holds, each encoded by g, one behind the other; the t-th stands at `place t`.
module _ {A : Type 0} (s : List ℕ) (g : A → List ℕ) (P : A → Type 0) (place : ℕ → ℕ)
    (next : (a : A) (t : ℕ) (rest : List ℕ) → P a → From s (place t) (g a ++ rest) → place (t + 1) ≡ place t + length (g a)) where
  -- Behind the t-th stands the rest.
  from_after : (a : A) (t : ℕ) (rest : List ℕ) → P a → From s (place t) (g a ++ rest) → From s (place (t + 1)) rest
  from_after a t rest p f = from_at (sym (next a t rest p f)) (from_next (g a) rest (length (g a)) refl f)

  pub from_last : (l : List A) (t : ℕ) (rest : List ℕ) → All P l → From s (place t) (flat (map g l) ++ rest) → From s (place (t + length l)) rest
  from_last [] t rest p f = from_at (ap place (sym (add-zero t))) f
  from_last (a ∷ l) t rest p f =
      let e : t + suc (length l) ≡ t + 1 + length l = omega arith in
      from_at (ap place (sym e)) (from_last l (t + 1) rest p.1 (from_after a t _ p.0 (from_parts (g a) (flat (map g l)) rest f)))

  -- What gives h of the value that stands at the t-th place gives h of each value along the numbers.
  pub from_each : {B : Type 0} (f : ℕ → B) (h : A → B) → ((a : A) (t : ℕ) (rest : List ℕ) → P a → From s (place t) (g a ++ rest) → f t ≡ h a)
      → (l : List A) (t : ℕ) (rest : List ℕ) → All P l → From s (place t) (flat (map g l) ++ rest) → walk f 1 (length l) t ≡ map h l
  from_each f h one [] t rest p e = refl
  from_each f h one (a ∷ l) t rest p e =
      let e = from_parts (g a) (flat (map g l)) rest e in
      cons_eq (one a t (flat (map g l) ++ rest) p.0 e) (from_each f h one l (t + 1) rest p.1 (from_after a t _ p.0 e))

  -- What holds of the number of each holds of each number.
  pub from_one : (Q : ℕ → Type 0) → ((a : A) (t : ℕ) (rest : List ℕ) → P a → From s (place t) (g a ++ rest) → Q t)
      → (l : List A) (t : ℕ) (rest : List ℕ) → All P l → From s (place t) (flat (map g l) ++ rest) → (j : ℕ) → j < length l → Q (t + j)
  from_one Q one [] t rest p e j l = absurd (not-suc-le-zero l)
  from_one Q one (a ∷ x) t rest p e zero l = subst Q (sym (add-zero t)) (one a t _ p.0 (from_parts (g a) (flat (map g x)) rest e))
  from_one Q one (a ∷ x) t rest p e (suc j) l =
      let d : t + 1 + j ≡ t + suc j = omega arith in
      subst Q d (from_one Q one x (t + 1) rest p.1 (from_after a t _ p.0 (from_parts (g a) (flat (map g x)) rest e)) j (omega arith))

  -- A check that finds nothing at any of them finds nothing along the numbers.
  pub from_none : (f : ℕ → Check) → ((a : A) (t : ℕ) (rest : List ℕ) → P a → From s (place t) (g a ++ rest) → f t ≡ Fine)
      → (l : List A) (t : ℕ) (rest : List ℕ) → All P l → From s (place t) (flat (map g l) ++ rest) → first_of (walk f 1 (length l) t) ≡ Fine
  from_none f one l t rest p e = ap first_of (from_each f (λ a. Fine) one l t rest p e) ∙ none l
    where
      none : (l : List A) → first_of (map (λ a. Fine) l) ≡ Fine
      none [] = refl
      none (a ∷ l) = none l

  -- As many tests pass as there are values before another byte, where no more are counted than the most.
  pub from_run : (test : ℕ → Bool) → ((a : A) (t : ℕ) (rest : List ℕ) → P a → From s (place t) (g a ++ rest) → test t ≡ true)
      → (most : ℕ) (l : List A) (t : ℕ) (rest : List ℕ) → All P l → length l ≤ most → test (t + length l) ≡ false
      → From s (place t) (flat (map g l) ++ rest) → run_from test most t ≡ length l
  unfolding run_from
  from_run test one zero [] t rest p few other e = refl
  from_run test one zero (a ∷ l) t rest p few other e = absurd (not-suc-le-zero few)
  from_run test one (suc most) [] t rest p few other e = rw (ap test (sym (add-zero t)) ∙ other)
  from_run test one (suc most) (a ∷ l) t rest p few other e =
      let e = from_parts (g a) (flat (map g l)) rest e in
      let d : t + 1 + length l ≡ t + suc (length l) = omega arith in
      rw (one a t _ p.0 e) (ap suc (from_run test one most l (t + 1) rest p.1 (omega arith) (ap test d ∙ other) (from_after a t _ p.0 e)))
