-- The order of lists of numbers is that of a line: it is transitive, and "not greater" is too. Assumes nothing.
use mathlib.Core.Path.{◌≡◌, refl, sym, ap, ◌∙◌}
use mathlib.Core.Logic.{◌⊎◌, inl, inr, ⊎_elim}
use mathlib.Core.List.{List, [], ◌∷◌}
use Prim.Native.Nat.{ℕ, ◌≤◌, ◌<◌}
use native.Mathlib.Omega.{arith}
use borrow.Author.Tests.{lt-ltb, le-ltb}
use lib.IntN.{ℤ, pos, negsuc}
use Rattle.numbers.proofs.SignLaws.{below_or}
use Rattle.exact.specs.Order.{turned, order_n, order_z, or_else, lex_z}
use Rattle.std.specs.declared.cmp.Ordering.{Ordering}
use Rattle.std.specs.declared.cmp.Ordering.TheVariants.{Less, Equal, Greater}
use Rattle.compare.proofs.LexLaws.{same_is, lex_is, lex_turn}

-- ## Orders that differ

rank : Ordering → ℕ
rank Less = 0
rank Equal = 1
rank Greater = 2

same_less : Equal ≡ Less → ⊥
unfolding rank
same_less e = let z : ◌≡◌ {A = ℕ} 1 0 = ap rank e in omega arith

more_less : Greater ≡ Less → ⊥
unfolding rank
more_less e = let z : ◌≡◌ {A = ℕ} 2 0 = ap rank e in omega arith

less_more : Less ≡ Greater → ⊥
less_more e = more_less (sym e)

same_more : Equal ≡ Greater → ⊥
unfolding rank
same_more e = let z : ◌≡◌ {A = ℕ} 1 2 = ap rank e in omega arith

-- ## Less, and less again

is_below : (a b : ℕ) → order_n a b ≡ Less → a < b
is_below a b e =
    ⊎_elim (λ (l : a < b). l)
    (λ (l : b ≤ a). ⊎_elim (λ (k : b < a). absurd (more_less (rw (le-ltb a b l, lt-ltb b a k) at e))) (λ (k : a ≤ b). absurd (same_less (rw (le-ltb a b l, le-ltb b a k) at e))) (below_or b a)) (below_or a b)

below_is : (a b : ℕ) → a < b → order_n a b ≡ Less
below_is a b h = rw (lt-ltb a b h)

number_chain : (a b c : ℕ) → order_n a b ≡ Less → order_n b c ≡ Less → order_n a c ≡ Less
number_chain a b c p q = below_is a c (omega (arith, is_below a b p, is_below b c q))

signed_chain : (x y z : ℤ) → order_z x y ≡ Less → order_z y z ≡ Less → order_z x z ≡ Less
signed_chain (pos a) (pos b) (pos c) p q = number_chain a b c p q
signed_chain (negsuc a) (negsuc b) (negsuc c) p q = number_chain c b a q p
signed_chain (pos a) (pos b) (negsuc c) p q = absurd (more_less q)
signed_chain (pos a) (negsuc b) z p q = absurd (more_less p)
signed_chain (negsuc a) (pos b) (pos c) p q = refl
signed_chain (negsuc a) (pos b) (negsuc c) p q = absurd (more_less q)
signed_chain (negsuc a) (negsuc b) (pos c) p q = refl

-- LAW. A list less than one that is less than a third is less than the third.
pub lex_chain : (k l m : List ℤ) → lex_z k l ≡ Less → lex_z l m ≡ Less → lex_z k m ≡ Less
lex_chain [] [] m p q = absurd (same_less p)
lex_chain [] (b ∷ l) [] p q = absurd (more_less q)
lex_chain [] (b ∷ l) (c ∷ m) p q = refl
lex_chain (a ∷ k) [] m p q = absurd (more_less p)
lex_chain (a ∷ k) (b ∷ l) [] p q = absurd (more_less q)
lex_chain (a ∷ k) (b ∷ l) (c ∷ m) p q = go (order_z a b) (order_z b c) refl refl p q (λ x y. lex_chain k l m x y)
  where
    go : (x y : Ordering) → order_z a b ≡ x → order_z b c ≡ y → or_else x (lex_z k l) ≡ Less → or_else y (lex_z l m) ≡ Less → (lex_z k l ≡ Less → lex_z l m ≡ Less → lex_z k m ≡ Less)
        → or_else (order_z a c) (lex_z k m) ≡ Less
    go Less Less e f p q r = rw (signed_chain a b c e f)
    go Less Equal e f p q r = rw (← (same_is b c f), e)
    go Equal Less e f p q r = rw (same_is a b e, f)
    go Equal Equal e f p q r = rw (same_is a b e, f) (r p q)
    go Greater y e f p q r = absurd (more_less p)
    go Less Greater e f p q r = absurd (more_less q)
    go Equal Greater e f p q r = absurd (more_less q)

-- ## Not greater

-- LAW. So of lists that are not greater,
pub most_chain : (k l m : List ℤ) → ¬ (lex_z k l ≡ Greater) → ¬ (lex_z l m ≡ Greater) → ¬ (lex_z k m ≡ Greater)
most_chain k l m p q = go (lex_z k l) (lex_z l m) refl refl
  where
    go : (x y : Ordering) → lex_z k l ≡ x → lex_z l m ≡ y → ¬ (lex_z k m ≡ Greater)
    go Less Less e f r = less_more (sym (lex_chain k l m e f) ∙ r)
    go Less Equal e f r = less_more (sym e ∙ ap (lex_z k) (lex_is l m f) ∙ r)
    go Less Greater e f r = q f
    go Equal y e f r = q (ap (λ (x : List ℤ). lex_z x m) (sym (lex_is k l e)) ∙ r)
    go Greater y e f r = p e

-- where neither is, they are the same,
pub most_both : (k l : List ℤ) → ¬ (lex_z k l ≡ Greater) → ¬ (lex_z l k ≡ Greater) → lex_z k l ≡ Equal
most_both k l p q = go (lex_z k l) refl
  where
    go : (x : Ordering) → lex_z k l ≡ x → lex_z k l ≡ Equal
    go Less e = absurd (q (lex_turn k l ∙ ap turned e))
    go Equal e = e
    go Greater e = absurd (p e)

-- and one of the two is not.
pub most_total : (k l : List ℤ) → (¬ (lex_z k l ≡ Greater)) ⊎ (¬ (lex_z l k ≡ Greater))
most_total k l = go (lex_z k l) refl
  where
    go : (x : Ordering) → lex_z k l ≡ x → (¬ (lex_z k l ≡ Greater)) ⊎ (¬ (lex_z l k ≡ Greater))
    go Less e = inl (λ r. less_more (sym e ∙ r))
    go Equal e = inl (λ r. same_more (sym e ∙ r))
    go Greater e = inr (λ r. less_more (sym (lex_turn k l ∙ ap turned e) ∙ r))
