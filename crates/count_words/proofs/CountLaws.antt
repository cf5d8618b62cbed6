-- The tests of a word whose first byte stands lowest, and the words that aren't normal. Assumes nothing.
use mathlib.Core.Path.{◌≡◌, refl, sym, ap, ◌∙◌}
use mathlib.Core.Logic.{⊎_elim}
use mathlib.Core.Bool.{Bool, true, false, not, ◌&&◌}
use mathlib.Core.List.{List, [], ◌∷◌}
use Prim.Native.Nat.{ℕ, ◌+◌, ◌*◌, ◌-◌, ◌/◌, ◌%◌, ◌^◌, ◌≤◌, ◌<◌}
use native.Mathlib.Omega.{arith}
use borrow.Author.Tests.{eqb-true, eqb-false, eq-eqb, ne_eqb, le-leb, lt-leb}
use lib.Dec.{leb, eqb}
use lib.ListN.{length, get_or, take, drop}
use Rattle.std.specs.Simd.{first_chunks}
use Rattle.std.specs.Int.{from_le_bytes, w32}
use Rattle.std.proofs.Common.{sum_by}
use Rattle.numbers.specs.Walk.{pick, sum, bytes_at}
use Rattle.numbers.specs.BigEndian.{number}
use Rattle.numbers.specs.Iff.{Iff}
use Rattle.numbers.proofs.WalkLaws.{walk_same, sum_under, sum_zero, four_bytes}
use Rattle.numbers.proofs.ChunkLaws.{parts_walk, sum_by_walk}
use Rattle.numbers.proofs.SignLaws.{below_or}
use Rattle.formats.specs.Value.{characteristic, fraction}
use Rattle.formats.specs.Words.{first_digit, is_normal}
use Rattle.formats.proofs.NormalLaws.{normal_tests}
use Rattle.sample.specs.Reading.{not_normal}
use Rattle.formats.specs.Codes.{sample_bytes}
use Rattle.reel.specs.Causes.{most_samples}
use Rattle.reel.specs.NotNormal.{not_normal_in}
use Rattle.count_words.specs.Counted.{words_fit, words_counted}
use Rattle.count_words.specs.Parts.{low_first, may_count, counts, tested, passing, passing_words}

-- ## One word

-- a word that counts may count
counts_may : (x : ℕ) → counts x ≤ may_count x
counts_may x =
    ⊎_elim (λ (l : x / 2 ^ 12 % 16 < 1). low (omega (arith, l)))
    (λ (l : 1 ≤ x / 2 ^ 12 % 16). rw (ne_eqb (x / 2 ^ 12 % 16) 0 (λ e. omega (arith, e, l)), ne_eqb x 0x80 (λ e. omega (arith, e, l))) (omega arith)) (below_or (x / 2 ^ 12 % 16) 1)
  where
    low : x / 2 ^ 12 % 16 ≡ 0 → counts x ≤ may_count x
    low d =
        ⊎_elim (λ (l : x % 2 ^ 7 < 1). by_zero (eqb x 0x80) refl (omega (arith, l)))
        (λ (l : 1 ≤ x % 2 ^ 7).
        rw (eq-eqb (x / 2 ^ 12 % 16) 0 d, ne_eqb (x % 2 ^ 7) 0 (λ e. omega (arith, e, l)), ne_eqb (x % 2 ^ 8) 0 (λ e. omega (arith, e, l)), ne_eqb x 0x80 (λ e. omega (arith, e, l)))
        (omega arith)) (below_or (x % 2 ^ 7) 1)
      where
        by_zero : (t : Bool) → eqb x 0x80 ≡ t → x % 2 ^ 7 ≡ 0 → counts x ≤ may_count x
        by_zero true q e = let is = eqb-true x 0x80 q in rw is (omega arith)
        by_zero false q e = rw (eq-eqb (x / 2 ^ 12 % 16) 0 d, eq-eqb (x % 2 ^ 7) 0 e, q) (omega arith)

-- a word counts where it isn't normal, and only there: x has its bytes turned round
word_counts : (n x : ℕ) → x / 2 ^ 12 % 16 ≡ first_digit n → x % 2 ^ 7 ≡ characteristic n → Iff (x ≡ 0x80) (n ≡ 2 ^ 31) → n < 2 ^ 32 → counts x ≡ pick (not (is_normal n)) 1 0
word_counts n x d c z h =
    ⊎_elim (λ (l : first_digit n < 1). low (omega (arith, l))) (λ (l : 1 ≤ first_digit n). high (λ e. omega (arith, e, l))) (below_or (first_digit n) 1)
  where
    -- the first digit isn't 0
    high : (first_digit n ≡ 0 → ⊥) → counts x ≡ pick (not (is_normal n)) 1 0
    high l =
        rw (normal_tests n, d, ne_eqb (first_digit n) 0 l, ne_eqb (fraction n) 0 (λ e. l (omega (arith, e))), ne_eqb x 0x80 (λ e. l (omega (arith, z.0 e))))

    low : first_digit n ≡ 0 → counts x ≡ pick (not (is_normal n)) 1 0
    low l =
        ⊎_elim (λ (k : characteristic n < 1). tiny (omega (arith, k))) (λ (k : 1 ≤ characteristic n). other (λ e. omega (arith, e, k))) (below_or (characteristic n) 1)
      where
        -- and C isn't: the word isn't normal
        other : (characteristic n ≡ 0 → ⊥) → counts x ≡ pick (not (is_normal n)) 1 0
        other k =
            rw (normal_tests n, d, c, eq-eqb (first_digit n) 0 l, ne_eqb (characteristic n) 0 k, ne_eqb x 0x80 (λ e. k (omega (arith, z.0 e))), ne_eqb n 0 (λ e. k (omega (arith, e)))) (either (eqb (fraction n) 0))
          where
            either : (t : Bool) → ◌≡◌ {A = ℕ} 1 (pick (not (pick t false false)) 1 0)
            either true = refl
            either false = refl

        -- and C is
        tiny : characteristic n ≡ 0 → counts x ≡ pick (not (is_normal n)) 1 0
        tiny k =
            ⊎_elim (λ (f : fraction n < 1). zeros (eqb n 0) refl (omega (arith, f)))
            (λ (f : 1 ≤ fraction n).
            rw (normal_tests n, d, c, eq-eqb (first_digit n) 0 l, eq-eqb (characteristic n) 0 k, ne_eqb (fraction n) 0 (λ e. omega (arith, e, f)), ne_eqb x 0x80 (λ e. omega (arith, z.0 e, f)))) (below_or (fraction n) 1)
          where
            zeros : (t : Bool) → eqb n 0 ≡ t → fraction n ≡ 0 → counts x ≡ pick (not (is_normal n)) 1 0
            zeros true q f =
                rw (normal_tests n, d, c, eq-eqb (first_digit n) 0 l, eq-eqb (characteristic n) 0 k, eq-eqb (fraction n) 0 f, q, ne_eqb x 0x80 (λ e. omega (arith, z.0 e, eqb-true n 0 q)))
            zeros false q f =
                rw (normal_tests n, d, c, eq-eqb (first_digit n) 0 l, eq-eqb (characteristic n) 0 k, eq-eqb (fraction n) 0 f, q, eq-eqb x 0x80 (z.1 (minus (eqb-false n 0 q))))
              where
                minus : (n ≡ 0 → ⊥) → n ≡ 2 ^ 31
                minus m = ⊎_elim (λ (b : n < 1). absurd (m (omega (arith, b)))) (λ (b : 1 ≤ n). omega (arith, b, f, k, h)) (below_or n 1)

-- the first digit of F is the first of the second byte, either way round
last_of : (y q k : ℕ) → y ≡ q + k * 16 → q < 16 → y % 16 ≡ q
last_of y q k e l = omega arith

sixteenth : (b : ℕ) → b < 256 → b / 16 < 16
sixteenth b h = omega arith

low_over : (a b c d : ℕ) → a < 256 → number (d ∷ c ∷ b ∷ a ∷ []) / 2 ^ 12 ≡ b / 16 + (c + d * 256) * 16
low_over a b c d h = omega arith

fraction_is : (a b c d : ℕ) → b < 256 → c < 256 → d < 256 → fraction (number (a ∷ b ∷ c ∷ d ∷ [])) ≡ b * 65536 + c * 256 + d
fraction_is a b c d hb hc hd = omega arith

first_of_lem : (b c d : ℕ) → c < 256 → d < 256 → (b * 65536 + c * 256 + d) / 16 ^ 5 ≡ b / 16
first_of_lem b c d hc hd = omega arith

-- and C is of the first byte
low_c : (a b c d : ℕ) → number (d ∷ c ∷ b ∷ a ∷ []) % 2 ^ 7 ≡ a % 128
low_c a b c d = omega arith

first_byte : (a b c d : ℕ) → b < 256 → c < 256 → d < 256 → number (a ∷ b ∷ c ∷ d ∷ []) / 2 ^ 24 ≡ a
first_byte a b c d hb hc hd = omega arith

minus_zero : (a b c d : ℕ) → a < 256 → b < 256 → c < 256 → d < 256 → Iff (number (d ∷ c ∷ b ∷ a ∷ []) ≡ 0x80) (number (a ∷ b ∷ c ∷ d ∷ []) ≡ 2 ^ 31)
minus_zero a b c d ha hb hc hd = ((λ e. omega (arith, e)), (λ e. omega (arith, e)))

fits_32 : (a b c d : ℕ) → a < 256 → b < 256 → c < 256 → d < 256 → number (a ∷ b ∷ c ∷ d ∷ []) < 2 ^ 32
fits_32 a b c d ha hb hc hd = omega arith

turned : (a b c d : ℕ) → a < 256 → b < 256 → c < 256 → d < 256 → counts (number (d ∷ c ∷ b ∷ a ∷ [])) ≡ pick (not (is_normal (number (a ∷ b ∷ c ∷ d ∷ [])))) 1 0
turned a b c d ha hb hc hd =
    let n = number (a ∷ b ∷ c ∷ d ∷ []) in
    let x = number (d ∷ c ∷ b ∷ a ∷ []) in
    let low : x / 2 ^ 12 % 16 ≡ b / 16 = last_of (x / 2 ^ 12) (b / 16) (c + d * 256) (low_over a b c d ha) (sixteenth b hb) in
    let high : first_digit n ≡ b / 16 = ap (λ (f : ℕ). f / 16 ^ 5) (fraction_is a b c d hb hc hd) ∙ first_of_lem b c d hc hd in
    let c-is : characteristic n ≡ a % 128 = ap (λ (y : ℕ). y % 128) (first_byte a b c d hb hc hd) in
    word_counts n x (low ∙ sym high) (low_c a b c d ∙ sym c-is) (minus_zero a b c d ha hb hc hd) (fits_32 a b c d ha hb hc hd)

module _ (s : List ℕ) (b : (i : ℕ) → get_or s i 0 < 256) where
  counts_is : (p : ℕ) → counts (low_first s p) ≡ not_normal 1 (bytes_at s p 4)
  unfolding bytes_at
  counts_is p =
      turned (get_or s p 0) (get_or s (p + 1) 0) (get_or s (p + 2) 0) (get_or s (p + 3) 0) (b p) (b (p + 1)) (b (p + 2)) (b (p + 3))
      ∙ ap (λ (l : List ℕ). pick (not (is_normal (number l))) 1 0) (sym (four_bytes s p))

  -- words that are counted are those that aren't normal
  pub exact_is : (n at : ℕ) → passing true s n at ≡ not_normal_in s 1 n at
  unfolding passing not_normal_in
  exact_is n at = ap sum (walk_same (λ p. counts (low_first s p)) (λ p. not_normal 1 (bytes_at s p 4)) 4 4 n at at (λ j l. counts_is (at + j * 4)))

  -- where none may count, none does
  pub none_is : (n at : ℕ) → passing false s n at ≡ 0 → not_normal_in s 1 n at ≡ 0
  unfolding passing
  none_is n at e = sym (exact_is n at) ∙ omega (arith, e, sum_under (λ p. counts (low_first s p)) (λ p. may_count (low_first s p)) 4 (λ p. counts_may (low_first s p)) n at)

-- ## Words cut out of a reel

-- the number of a word's own bytes, the first lowest
low_of_word : (s : List ℕ) (p : ℕ) → from_le_bytes w32 (bytes_at s p 4) ≡ low_first s p
low_of_word s p = ap (from_le_bytes w32) (four_bytes s p) ∙ turned_sum (get_or s p 0) (get_or s (p + 1) 0) (get_or s (p + 2) 0) (get_or s (p + 3) 0)
  where
    turned_sum : (a b c d : ℕ) → from_le_bytes w32 (a ∷ b ∷ c ∷ d ∷ []) ≡ number (d ∷ c ∷ b ∷ a ∷ [])
    turned_sum a b c d = omega arith

-- words that stand in a row pass as the words of a walk do
pub words_pass : (exact : Bool) (s : List ℕ) (n at e : ℕ) → e ≡ at + n * 4 → e ≤ length s
    → let t = take (e - at) (drop at s) in passing_words exact (first_chunks 4 (length t / 4) t) ≡ passing exact s n at
unfolding passing
words_pass exact s n at e q l =
    let f : List ℕ → ℕ = λ w. tested exact (from_le_bytes w32 w) in
    ap (sum_by f) (parts_walk 4 n s at e (omega arith) q l)
    ∙ sum_by_walk f (λ p. bytes_at s p 4) 4 n at
    ∙ ap sum (walk_same (λ p. f (bytes_at s p 4)) (λ p. tested exact (low_first s p)) 4 4 n at at (λ j h. ap (tested exact) (low_of_word s (at + j * 4))))

-- ## The call

module _ (s : List ℕ) (code n at : ℕ) where
  -- words that are all there are counted
  pub fit_counted : n ≤ most_samples → at + n * sample_bytes code ≤ length s → words_counted s code n at ≡ not_normal_in s code n at
  unfolding words_counted
  fit_counted few room = rw (le-leb n most_samples few, le-leb (at + n * sample_bytes code) (length s) room)

  -- of others none is
  pub too_many : most_samples < n → words_counted s code n at ≡ 0
  unfolding words_counted
  too_many l = rw (lt-leb n most_samples l)

  pub not_there : leb (at + n * sample_bytes code) (length s) ≡ false → words_counted s code n at ≡ 0
  unfolding words_counted
  not_there e = rw e (either (leb n most_samples))
    where
      either : (t : Bool) → pick (t && false) (not_normal_in s code n at) 0 ≡ 0
      either true = refl
      either false = refl

  -- under the other codes none is
  pub other_code : (code ≡ 1 → ⊥) → words_counted s code n at ≡ 0
  unfolding words_counted not_normal_in
  other_code h =
      rw (sum_zero (λ p. not_normal code (bytes_at s p 4)) (sample_bytes code) n at (λ j l. rw (ne_eqb code 1 h))) (either (words_fit s code n at))
    where
      either : (t : Bool) → ◌≡◌ {A = ℕ} (pick t 0 0) 0
      either true = refl
      either false = refl
