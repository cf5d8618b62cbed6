-- The order of lists of numbers, a step and a part at a time. Assumes nothing.
use mathlib.Core.Path.{◌≡◌, refl, sym, ap, ap₂, ◌∙◌, subst}
use mathlib.Core.Logic.{⊎_elim}
use mathlib.Core.Bool.{Bool, true, false}
use mathlib.Core.List.{List, [], ◌∷◌, ◌++◌}
use Prim.Native.Nat.{ℕ, suc, ◌+◌, ◌-◌, ◌*◌, ◌≤◌, ◌<◌}
use native.Mathlib.Omega.{arith}
use borrow.Author.Tests.{lt-ltb, le-ltb}
use lib.Dec.{T}
use lib.IntN.{ℤ, pos, negsuc}
use lib.ListN.{length}
use Rattle.numbers.specs.Walk.{walk, pick}
use Rattle.std.specs.Ordering.{int_cmp}
use lib.Signed.{lt_z}
use Rattle.std.specs.Prelude.{cond}
use Rattle.numbers.proofs.SignLaws.{below_or}
use Rattle.numbers.proofs.WalkLaws.{walk_more, cons_eq, size_walk}
use Rattle.fields.specs.Fields.{each}
use Rattle.fields.proofs.FieldsLaws.{each_like, walk_like, walk_parts}
use Rattle.exact.specs.Order.{order_n, order_z, turned, or_else, lex_z}
use Rattle.std.specs.Ordering.{is_ne}
use Rattle.std.specs.declared.cmp.Ordering.{Ordering}
use Rattle.std.specs.declared.cmp.Ordering.TheVariants.{Less, Equal, Greater}

-- ## The order of numbers

rank : Ordering → ℕ
rank Less = 0
rank Equal = 1
rank Greater = 2

less_same : Less ≡ Equal → ⊥
unfolding rank
less_same e = let z : ◌≡◌ {A = ℕ} 0 1 = ap rank e in omega arith

more_same : Greater ≡ Equal → ⊥
unfolding rank
more_same e = let z : ◌≡◌ {A = ℕ} 2 1 = ap rank e in omega arith

same_number_lem : (a b : ℕ) → order_n a b ≡ Equal → a ≡ b
same_number_lem a b e =
    ⊎_elim (λ (l : a < b). absurd (less_same (rw (lt-ltb a b l) at e)))
    (λ (l : b ≤ a). ⊎_elim (λ (k : b < a). absurd (more_same (rw (le-ltb a b l, lt-ltb b a k) at e))) (λ (k : a ≤ b). let z : a ≡ b = omega arith in z) (below_or b a)) (below_or a b)

-- two numbers neither of which is the lesser are the same
pub same_is : (x y : ℤ) → order_z x y ≡ Equal → x ≡ y
same_is (pos a) (pos b) e = ap pos (same_number_lem a b e)
same_is (negsuc a) (negsuc b) e = ap negsuc (sym (same_number_lem b a e))
same_is (pos a) (negsuc b) e = absurd (more_same e)
same_is (negsuc a) (pos b) e = absurd (less_same e)

number_self : (a : ℕ) → order_n a a ≡ Equal
number_self a = rw (le-ltb a a (omega arith))

pub same_self : (x : ℤ) → order_z x x ≡ Equal
same_self (pos a) = number_self a
same_self (negsuc a) = number_self a

-- ## The order of lists

or_same : (c d : Ordering) → or_else c d ≡ Equal → (c ≡ Equal) × (d ≡ Equal)
or_same Less d e = absurd (less_same e)
or_same Equal d e = (refl, e)
or_same Greater d e = absurd (more_same e)

or_assoc : (c d e : Ordering) → or_else (or_else c d) e ≡ or_else c (or_else d e)
or_assoc Less d e = refl
or_assoc Equal d e = refl
or_assoc Greater d e = refl

-- LAW. Two lists neither of which is the lesser are the same,
pub lex_is : (k l : List ℤ) → lex_z k l ≡ Equal → k ≡ l
lex_is [] [] e = refl
lex_is [] (b ∷ l) e = absurd (less_same e)
lex_is (a ∷ k) [] e = absurd (more_same e)
lex_is (a ∷ k) (b ∷ l) e = let h = or_same (order_z a b) (lex_z k l) e in cons_eq (same_is a b h.0) (lex_is k l h.1)

-- and the other way round.
pub lex_self : (k : List ℤ) → lex_z k k ≡ Equal
lex_self [] = refl
lex_self (a ∷ k) = rw (same_self a) (lex_self k)

-- LAW. Lists joined, of which the first parts are equally long, part by part.
pub lex_append : (k l x y : List ℤ) → length k ≡ length l → lex_z (k ++ x) (l ++ y) ≡ or_else (lex_z k l) (lex_z x y)
lex_append [] [] x y e = refl
lex_append [] (b ∷ l) x y e = absurd (let z : 0 ≡ suc (length l) = e in omega arith)
lex_append (a ∷ k) [] x y e = absurd (let z : suc (length k) ≡ 0 = e in omega arith)
lex_append (a ∷ k) (b ∷ l) x y e = ap (or_else (order_z a b)) (lex_append k l x y (omega arith)) ∙ sym (or_assoc (order_z a b) (lex_z k l) (lex_z x y))

number_turn : (a b : ℕ) → order_n b a ≡ turned (order_n a b)
number_turn a b =
    ⊎_elim (λ (l : a < b). rw (lt-ltb a b l, le-ltb b a (omega arith)))
    (λ (l : b ≤ a). ⊎_elim (λ (k : b < a). rw (le-ltb a b l, lt-ltb b a k)) (λ (k : a ≤ b). rw (le-ltb a b l, le-ltb b a k)) (below_or b a)) (below_or a b)

order_turn : (x y : ℤ) → order_z y x ≡ turned (order_z x y)
order_turn (pos a) (pos b) = number_turn a b
order_turn (negsuc a) (negsuc b) = number_turn b a
order_turn (pos a) (negsuc b) = refl
order_turn (negsuc a) (pos b) = refl

turned_or : (c d : Ordering) → turned (or_else c d) ≡ or_else (turned c) (turned d)
turned_or Less d = refl
turned_or Equal d = refl
turned_or Greater d = refl

-- LAW. The order is total: seen from the other side it is turned.
pub lex_turn : (k l : List ℤ) → lex_z l k ≡ turned (lex_z k l)
lex_turn [] [] = refl
lex_turn [] (b ∷ l) = refl
lex_turn (a ∷ k) [] = refl
lex_turn (a ∷ k) (b ∷ l) = ap₂ or_else (order_turn a b) (lex_turn k l) ∙ sym (turned_or (order_z a b) (lex_z k l))

-- an order that decides comes before any other, and one that doesn't says that both are the same
pub decided : (c d : Ordering) → is_ne c ≡ true → or_else c d ≡ c
decided Less d e = refl
decided Equal d e = absurd (subst T (sym e) tt)
decided Greater d e = refl

pub undecided : (c : Ordering) → is_ne c ≡ false → c ≡ Equal
undecided Less e = absurd (subst T e tt)
undecided Equal e = refl
undecided Greater e = absurd (subst T e tt)

-- ## Walks

module _ (f g : ℕ → ℤ) (w v : ℕ) where
  walk_lex : (k p q : ℕ) → 0 < k → lex_z (walk f w k p) (walk g v k q) ≡ or_else (order_z (f p) (g q)) (lex_z (walk f w (k - 1) (p + w)) (walk g v (k - 1) (q + v)))
  walk_lex k p q h = ap₂ lex_z (walk_more f w k p h) (walk_more g v k q h)

  -- a step that decides
  pub lex_stop : (k p q : ℕ) → 0 < k → is_ne (order_z (f p) (g q)) ≡ true → order_z (f p) (g q) ≡ lex_z (walk f w k p) (walk g v k q)
  lex_stop k p q h e = sym (walk_lex k p q h ∙ decided (order_z (f p) (g q)) (lex_z (walk f w (k - 1) (p + w)) (walk g v (k - 1) (q + v))) e)

-- ## Pairs, one after the other

module _ (f g : ℕ → ℤ) where
  -- all the same
  pub lex_all : (n : ℕ) → ((j : ℕ) → j < n → order_z (f j) (g j) ≡ Equal) → Equal ≡ lex_z (each f n) (each g n)
  lex_all n h = sym (ap (lex_z (each f n)) (sym (each_like f g n (λ j l. same_is (f j) (g j) (h j l)))) ∙ lex_self (each f n))

  -- the first that differ
  pub lex_first : (n k : ℕ) → k < n → ((j : ℕ) → j < k → order_z (f j) (g j) ≡ Equal) → is_ne (order_z (f k) (g k)) ≡ true → order_z (f k) (g k) ≡ lex_z (each f n) (each g n)
  lex_first n k l h d =
      let e : n ≡ k + (n - k) = omega arith in
      let z : 0 + k * 1 ≡ k = omega arith in
      let rest : ℕ → Ordering = λ x. lex_z (walk f 1 (n - k) x) (walk g 1 (n - k) x) in
      lex_stop f g 1 1 (n - k) k k (omega arith) d
      ∙ ap rest (sym z)
      ∙ ap (λ (c : Ordering). or_else c (rest (0 + k * 1))) (lex_all k h)
      ∙ sym (lex_append (each f k) (each g k) (walk f 1 (n - k) (0 + k * 1)) (walk g 1 (n - k) (0 + k * 1)) (size_walk f 1 k 0 ∙ sym (size_walk g 1 k 0)))
      ∙ sym (ap₂ lex_z (ap (each f) e ∙ walk_parts f 1 k (n - k) 0) (ap (each g) e ∙ walk_parts g 1 k (n - k) 0))

-- walks, by how many steps come before
pub walk_pairs : (f g : ℕ → ℤ) (w v n p q : ℕ) → lex_z (each (λ k. f (p + k * w)) n) (each (λ k. g (q + k * v)) n) ≡ lex_z (walk f w n p) (walk g v n q)
walk_pairs f g w v n p q = ap₂ lex_z (from f w p) (from g v q)
  where
    from : (h : ℕ → ℤ) (u r : ℕ) → each (λ k. h (r + k * u)) n ≡ walk h u n r
    from h u r = walk_like (λ k. h (r + k * u)) h 1 u n 0 r (λ j l. let z : 0 + j * 1 ≡ j = omega arith in ap (λ (x : ℕ). h (r + x * u)) z)

-- what `cmp` of std answers
by_test : (s t : Bool) → cond s Less (cond t Greater Equal) ≡ pick s Less (pick t Greater Equal)
by_test true t = refl
by_test false true = refl
by_test false false = refl

pub order_is : (x y : ℤ) → int_cmp x y ≡ order_z x y
order_is x y = by_test (lt_z x y) (lt_z y x)
