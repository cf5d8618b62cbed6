-- An array of numbers of 32 signed bits, as a function is handed it, and its largest magnitude. Assumes nothing.
use mathlib.Core.Path.{◌≡◌, refl, ap, ◌∙◌}
use mathlib.Core.Bool.{Bool, true, ◌&&◌}
use mathlib.Core.List.{List, [], ◌∷◌, map}
use Prim.Native.Nat.{ℕ, zero, suc, ◌+◌, ◌-◌, ◌*◌, ◌≤◌, ◌<◌, ◌^◌, max}
use native.Mathlib.Nat.{max-le, not-suc-le-zero}
use native.Mathlib.Omega.{arith}
use lib.IntN.{ℤ, pos, negsuc, nat_abs}
use lib.Dec.{ltb, eqb}
use lib.ListN.{length, get_or}
use lib.Signed.{mag}
use native.Mathlib.Decide.{ℕ_discrete}
use borrow.Author.Tests.{ltb-true, eq-eqb, ne_eqb}
use mir.Syntax.{Width, w16, w32}
use mir.Val.{Val, SFits, hbits, to_z, of_z}
use mir.Facts.{to_z-of_z}
use denote.Shadow.{shadow}
use denote.Laws.{Is}
use denote.Array.{Array, each}
use denote.Signed.{SInt}
use Rattle.std.specs.List.{fold, reduce}
use Rattle.std.specs.Option.{unwrap_or}
use Rattle.numbers.specs.Walk.{walk}
use Rattle.numbers.proofs.BoolLaws.{and_true}
use Rattle.numbers.proofs.WalkLaws.{walk_at}
use Rattle.scalars.specs.Parts.{largest, Fit32}
use Rattle.scalars.specs.Scalar.{same_number}

each_fits : (ns : List ℤ) (us : List Val) → shadow (each ℤ (SInt w32).own_val ns us) → Fit32 ns
each_fits [] us s = tt
each_fits (n ∷ ns) [] s = absurd s
each_fits (n ∷ ns) (u ∷ us) s = (s.0.1, each_fits ns us s.1)

-- what a function is told of such an array on entry: how many there are, and that each fits
pub array_fits : {k : ℕ} (ns : List ℤ) (vs : List Val) → Is (Array (SInt w32) k) ns vs → (length ns ≡ k) × Fit32 ns
array_fits ns vs p = (p.1.0.1, each_fits ns p.0 p.1.1)

-- the magnitude of a number of 32 signed bits is at most 2 ^ 31, and so is the largest
one_fits : (n : ℤ) → mag n < 2 ^ 31 → nat_abs n ≤ 2 ^ 31
one_fits (pos n) h = omega arith
one_fits (negsuc n) h = omega arith

pub largest_fits : (ns : List ℤ) → Fit32 ns → largest ns ≤ 2 ^ 31
largest_fits [] w = omega arith
largest_fits (n ∷ ns) w = max-le (one_fits n w.0) (largest_fits ns w.1)

-- the largest of a group is the greatest of its magnitudes, taken in their order
largest_from : (ns : List ℤ) (m : ℕ) → fold max m (map nat_abs ns) ≡ max m (largest ns)
largest_from [] m = omega arith
largest_from (n ∷ ns) m = omega (arith, largest_from ns (max m (nat_abs n)))

pub largest_max : (ns : List ℤ) → unwrap_or (reduce max (map nat_abs ns)) 0 ≡ largest ns
largest_max [] = refl
largest_max (n ∷ ns) = largest_from ns (nat_abs n)

-- each number of a table fits w signed bits
abbrev fitting : Width → List ℤ → Bool
fitting w [] = true
fitting w (z ∷ zs) = ltb (mag z) (2 ^ hbits w) && fitting w zs

entry_fits : (w : Width) (zs : List ℤ) → fitting w zs ≡ true → (j : ℕ) → j < length zs → SFits w (get_or zs j (pos 0))
entry_fits w [] t j h = absurd (not-suc-le-zero h)
entry_fits w (z ∷ zs) t zero h = record { sfits = ltb-true (mag z) (2 ^ hbits w) (and_true (ltb (mag z) (2 ^ hbits w)) (fitting w zs) t).0 }
entry_fits w (z ∷ zs) t (suc j) h = entry_fits w zs (and_true (ltb (mag z) (2 ^ hbits w)) (fitting w zs) t).1 j (omega arith)

-- a table of a number of w signed bits for each of the nine powers, as an entry of it is read
pub at_power : (w : Width) (f : ℕ → ℤ) → fitting w (walk f 1 9 0) ≡ true → (q : ℕ) → q < 9 → to_z w (of_z w (get_or (walk f 1 9 0) q (pos 0))) ≡ f q
at_power w f t q h =
    let e : 0 + q * 1 ≡ q = omega arith in
    to_z-of_z (entry_fits w (walk f 1 9 0) t q h) ∙ walk_at (pos 0) f 1 9 0 q h ∙ ap f e

-- two numbers of 16 signed bits are the same where their bits are
pub same_bits : (x y : ℤ) → SFits w16 x → SFits w16 y → eqb (of_z w16 x) (of_z w16 y) ≡ same_number x y
same_bits (pos a) (pos b) f h = refl
same_bits (pos a) (negsuc b) f h = ne_eqb a (2 ^ 16 - suc b) (λ e. apart e)
  where
    apart : a ≡ 2 ^ 16 - suc b → ⊥
    apart e = omega (arith, f.sfits, h.sfits)
same_bits (negsuc a) (pos b) f h = ne_eqb (2 ^ 16 - suc a) b (λ e. apart e)
  where
    apart : 2 ^ 16 - suc a ≡ b → ⊥
    apart e = omega (arith, f.sfits, h.sfits)
same_bits (negsuc a) (negsuc b) f h = go (ℕ_discrete a b)
  where
    same : 2 ^ 16 - suc a ≡ 2 ^ 16 - suc b → a ≡ b
    same e = omega (arith, f.sfits, h.sfits)

    go : Dec (a ≡ b) → eqb (2 ^ 16 - suc a) (2 ^ 16 - suc b) ≡ eqb a b
    go (yes e) = rw (eq-eqb a b e) (eq-eqb (2 ^ 16 - suc a) (2 ^ 16 - suc b) (ap (λ (x : ℕ). 2 ^ 16 - suc x) e))
    go (no n) = rw (ne_eqb a b n) (ne_eqb (2 ^ 16 - suc a) (2 ^ 16 - suc b) (λ e. n (same e)))
