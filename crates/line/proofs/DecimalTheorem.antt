-- # Theorem: the text of a number is its decimal text
--
-- For every number below 2 ^ 64, `decimal_of` gives its decimal text, as `DecimalText` says what that is. Assumes nothing.
use mathlib.Core.Path.{◌≡◌, refl, sym, ap, subst, ◌∙◌}
use mathlib.Core.Logic.{⊎_elim}
use mathlib.Core.List.{List, [], ◌∷◌, ◌++◌}
use Prim.Native.Nat.{ℕ, zero, suc, ◌+◌, ◌-◌, ◌*◌, ◌/◌, ◌%◌, ◌^◌, ◌≤◌, ◌<◌}
use native.Mathlib.Nat.{pow-suc}
use native.Mathlib.Omega.{arith}
use borrow.Author.Tests.{lt-ltb, le-ltb}
use lib.ListN.{length, get_or, length-append}
use Rattle.numbers.proofs.AllLaws.{all_append}
use Rattle.numbers.proofs.SignLaws.{below_or}
use Rattle.line.specs.Decimal.{digit, digits_in, decimal_of}
use Rattle.line.specs.DecimalText.{value_after, DecimalText}

-- One digit.
one : (d : ℕ) → d < 10 → DecimalText d (digit d ∷ [])
one d h = record {
  some = omega arith;
  digits = ((omega arith, omega arith), tt);
  value = omega arith;
  leading = λ e. ap (λ (x : ℕ). x ∷ []) e;
}

value_snoc : (a : ℕ) (l : List ℕ) (x : ℕ) → value_after a (l ++ x ∷ []) ≡ value_after a l * 10 + (x - 48)
value_snoc a [] x = refl
value_snoc a (y ∷ l) x = value_snoc (a * 10 + (y - 48)) l x

first_snoc : (l : List ℕ) (x : ℕ) → 0 < length l → get_or (l ++ x ∷ []) 0 0 ≡ get_or l 0 0
first_snoc [] x h = absurd (omega arith)
first_snoc (y ∷ l) x h = refl

-- One digit more, behind the text of a number other than 0.
more : (m d : ℕ) (text : List ℕ) → DecimalText m text → 0 < m → d < 10 → DecimalText (m * 10 + d) (text ++ digit d ∷ [])
more m d text t h g = record {
  some = rw length-append (omega (arith, t.some));
  digits = all_append (λ x. (48 ≤ x) × (x ≤ 57)) text (digit d ∷ []) t.digits ((omega arith, omega arith), tt);
  value = rw (value_snoc 0 text (digit d), t.value) (omega arith);
  leading = λ e.
      let zero-text = t.leading (sym (first_snoc text (digit d) t.some) ∙ e) in
      let z : m ≡ 0 = sym t.value ∙ ap (value_after 0) zero-text in
      absurd (omega arith);
}

text_in : (k n : ℕ) → n < 10 ^ suc k → DecimalText n (digits_in (suc k) n)
unfolding digits_in
text_in zero n h = rw (lt-ltb n 10 h) (one n h)
text_in (suc k) n h =
    ⊎_elim (λ (p : n < 10). rw (lt-ltb n 10 p) (one n p))
    (λ (p : 10 ≤ n).
    let t = text_in k (n / 10) (omega (arith, pow-suc 10 (suc k))) in
    let e : n / 10 * 10 + n % 10 ≡ n = omega arith in
    let l = digits_in (suc k) (n / 10) ++ digit (n % 10) ∷ [] in
    rw (le-ltb n 10 p) (subst (λ (x : ℕ). DecimalText x l) e (more (n / 10) (n % 10) _ t (omega arith) (omega arith))))
    (below_or n 10)

-- THEOREM. The text of a number below 2 ^ 64 is its decimal text: "Each number is printed most significant digit first, without leading
-- zeros."
pub decimal_right : (n : ℕ) → n < 2 ^ 64 → DecimalText n (decimal_of n)
unfolding decimal_of
decimal_right n h = text_in 19 n (omega arith)
