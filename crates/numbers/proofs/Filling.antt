-- A slice that is filled from its front: what a loop's invariant says of it, and what each store and each part lent does to it.
-- Assumes nothing.
use Rattle.std.proofs.Common.{◌≡◌, ℕ, suc, ◌+◌, ◌-◌, ◌<◌, ◌≤◌, List, [], ◌∷◌, ◌++◌, map, length, take, drop, set, sym, refl, ap, ◌∙◌, subst, append_assoc, append-nil, add-one, arith, length-append, length-drop, length-set, drop_of_length-le, length-take, take_all, drop-drop, take-suc-set, take_at, drop_at}
use borrow.Rule.Slice.PartMut.{put_mid}
use Rattle.numbers.specs.Walk.{walk, flat, bytes_at, overwritten}
use Rattle.numbers.proofs.WalkLaws.{flat_more, flat_none, size_bytes}
use Rattle.numbers.proofs.ByteLaws.{bytes_append}

-- `out` is to become `all`: its first o elements are right already, and `rest` is left to write.
pub record Filling {A : Type 0} (all out : List A) (o : ℕ) (rest : List A) : Type 0 where
  pub front : take o out ++ rest ≡ all
  pub within : o ≤ length out
  pub size : length out ≡ length all

-- A slice as long as `all`, with nothing written.
pub start : {A : Type 0} (all out : List A) → length out ≡ length all → Filling all out 0 all
start all out h = record { front = refl; within = omega arith; size = h }

module _ {A : Type 0} {all out : List A} {o : ℕ} where
  -- What is written and what is left make up the slice.
  pub left : {rest : List A} → Filling all out o rest → o + length rest ≡ length out
  left {rest} w = omega (arith, w.size, w.within, simp (length-append, length-take) at (ap length w.front))

  -- Where nothing is left, the slice is what it was to become.
  pub finish : {rest : List A} → Filling all out o rest → rest ≡ [] → out ≡ all
  finish {rest} w e =
      let n : o + length rest ≡ length out = left w in
      let z : length rest ≡ 0 = ap length e in
      sym (take_all o out (omega arith)) ∙ sym (append-nil (take o out)) ∙ ap (λ (r : List A). take o out ++ r) (sym e) ∙ w.front

  -- What is left, written another way.
  pub again : {rest other : List A} → Filling all out o rest → rest ≡ other → Filling all out o other
  again w e = subst (λ (r : List A). Filling all out o r) e w

  -- Where it goes on, written another way.
  pub from : {rest : List A} {p : ℕ} → Filling all out o rest → o ≡ p → Filling all out p rest
  from {rest} w e = subst (λ (x : ℕ). Filling all out x rest) e w

  -- A store of the next element.
  pub put : {rest : List A} (x : A) → Filling all out o (x ∷ rest) → Filling all (set out o x) (o + 1) rest
  put {rest} x w =
      let n : o + suc (length rest) ≡ length out = left w in
      let h : o < length out = omega arith in
      record {
        front = rw (add-one, take-suc-set) (append_assoc (take o out) (x ∷ []) rest ∙ w.front);
        within = rw length-set (omega arith);
        size = rw length-set w.size;
      }

  -- A part lent from o to e, which comes back as the next elements.
  pub lend : (new rest : List A) (e : ℕ) {ys : List A} → Filling all out o (new ++ rest) → o ≤ e → length new ≡ e - o → ys ≡ new
      → Filling all (put_mid o (e - o) out ys) e rest
  lend new rest e {ys} w le n is =
      let l : o + length (new ++ rest) ≡ length out = left w in
      let k : o + (length new + length rest) ≡ length out = rw length-append at l in
      let m : length (take o out ++ new) ≡ e = simp (length-append, length-take) (omega (arith, w.within)) in
      let q : length (put_mid o (e - o) out ys) ≡ length out = rw is (simp (length-append, length-take, length-drop) (omega (arith, w.within))) in
      record {
        front =
            rw (is, ← append_assoc) (ap (λ (r : List A). r ++ rest) (take_at (take o out ++ new) (drop (e - o) (drop o out)) e m)
            ∙ append_assoc (take o out) new rest ∙ w.front);
        within = omega arith;
        size = q ∙ w.size;
      }

-- Two parts lent, the second behind the first: as they come back, they make up the slice.
pub in_turn : {A : Type 0} (k j : ℕ) (out : List A) {ys zs front behind : List A} → length out ≡ k + j → length front ≡ k → ys ≡ front → zs ≡ behind
    → put_mid k j (put_mid 0 k out ys) zs ≡ front ++ behind
in_turn {A} k j out {ys} {zs} {front} {behind} n size is was =
    let few : length (drop k out) ≤ j = rw length-drop (omega arith) in
    let rest : drop j (drop k out) ≡ [] = drop_of_length-le (drop k out) few in
    rw (is, was, take_at front (drop k out) k size, drop_at front (drop k out) k size, rest) (ap (λ (l : List A). front ++ l) (append-nil behind))

-- The last part lent: as it comes back, the slice is what it was to become.
pub close : {A : Type 0} {all out : List A} {o : ℕ} (new : List A) (e : ℕ) {ys : List A} → Filling all out o new → o ≤ e → length new ≡ e - o → ys ≡ new
    → put_mid o (e - o) out ys ≡ all
close new e w le n is = finish (lend new [] e (again w (sym (append-nil new))) le n is) refl

-- ## Parts of one length, one behind the other

-- What f gives along a walk of step w, each encoded by g in m elements.
module _ {A B : Type 0} (g : A → List B) (f : ℕ → A) (w m : ℕ) (size : (a : ℕ) → length (g (f a)) ≡ m) where
  -- The next of k parts, lent from o to e: behind it, one fewer is left.
  pub part_put : (k at o e : ℕ) {all out ys : List B} → 0 < k → e ≡ o + m → Filling all out o (flat (map g (walk f w k at))) → ys ≡ g (f at)
      → Filling all (put_mid o (e - o) out ys) e (flat (map g (walk f w (k - 1) (at + w))))
  part_put k at o e some q r is =
      lend (g (f at)) (flat (map g (walk f w (k - 1) (at + w)))) e (again r (flat_more g f w k at some)) (omega arith) (size at ∙ omega arith) is

  -- The same in a loop that counts the k parts behind the next one, which is not the last.
  pub next_put : (k at o e : ℕ) {all out ys : List B} → 0 < k → e ≡ o + m → Filling all out o (flat (map g (walk f w (k + 1) at))) → ys ≡ g (f at)
      → Filling all (put_mid o (e - o) out ys) e (flat (map g (walk f w (k - 1 + 1) (at + w))))
  next_put k at o e some q r is =
      let j : k + 1 - 1 ≡ k - 1 + 1 = omega arith in
      again (part_put (k + 1) at o e (omega arith) q r is) (ap (λ (x : ℕ). flat (map g (walk f w x (at + w)))) j)

  -- And where it is the last: as it comes back, the slice is what it was to become.
  pub last_put : (k at o e : ℕ) {all out ys : List B} → k ≤ 0 → e ≡ o + m → Filling all out o (flat (map g (walk f w (k + 1) at))) → ys ≡ g (f at)
      → put_mid o (e - o) out ys ≡ all
  last_put k at o e none q r is =
      finish (part_put (k + 1) at o e (omega arith) q r is) (flat_none g f w (k + 1 - 1) (at + w) (omega arith))

-- ## A store over what a slice holds

-- A part lent from o to e, which comes back as `new`.
pub over : (l new : List ℕ) (o e : ℕ) {ys : List ℕ} → e ≡ o + length new → ys ≡ new → put_mid o (e - o) l ys ≡ overwritten l o new
unfolding overwritten
over l new o e q is =
    let n : e - o ≡ length new = omega arith in
    rw (is, n, drop-drop (length new) o l)

-- The list is as long as it was.
pub size_over : (l new : List ℕ) (o : ℕ) → o + length new ≤ length l → length (overwritten l o new) ≡ length l
unfolding overwritten
size_over l new o h = simp (length-append, length-take, length-drop) (omega arith)

-- In a list of three parts, over the second: the others stay.
pub over_part : (front mid rest new : List ℕ) (o : ℕ) → length front ≡ o → length mid ≡ length new → overwritten (front ++ (mid ++ rest)) o new ≡ front ++ (new ++ rest)
unfolding overwritten
over_part front mid rest new o p q =
    let behind : length (front ++ mid) ≡ o + length new = rw length-append (omega arith) in
    let after : drop (o + length new) (front ++ (mid ++ rest)) ≡ rest = rw (← append_assoc) (drop_at (front ++ mid) rest (o + length new) behind) in
    rw (take_at front (mid ++ rest) o p, after)

-- Over bytes of a list, k of them before the store and j behind it.
pub over_bytes : (s : List ℕ) (at k j : ℕ) (new : List ℕ)
    → overwritten (bytes_at s at (k + (length new + j))) k new ≡ bytes_at s at k ++ (new ++ bytes_at s (at + k + length new) j)
over_bytes s at k j new =
    rw (bytes_append s at k (length new + j), bytes_append s (at + k) (length new) j)
    (over_part (bytes_at s at k) (bytes_at s (at + k) (length new)) (bytes_at s (at + k + length new) j) new k (size_bytes s at k) (size_bytes s (at + k) (length new)))
