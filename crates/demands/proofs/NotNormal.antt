-- # How many words were not normal
--
-- Document 02 (CR 3): "Observers judge an old recorder by this. Reading one word also gives 1 for an IBM word other than the normal word of
-- its value, else 0. The reel's answer carries their count. It equals the number of such words on the reel as 01 defines normal, and is 0
-- for the other codes and beside a refusal."
--
-- - `counts_words`: the count is the number of the reel's words that are not normal.
-- - `none_counted`: under the other codes it is 0; `none_beside`: and beside a refusal, of a word too.
-- - `all_normal`: it is 0 exactly when each word is normal.
-- - `words_back`: it is 0 exactly when writing the reel's record under code 1 gives its words back, each as it was; `counts_changed`: it is
--   the number of those that don't come back so.
--
-- What normal is, `is_normal` in `Words` of `formats`, is spelled out by `normal_is`; that reading one word gives 1 exactly for a word other than
-- the normal word of its value, by `normal_0` and `other_1` (both in `sample_theorems`). Each byte of a reel is below 256; nothing else is
-- assumed, but where a statement says so.
use mathlib.Core.Path.{◌≡◌, refl, sym, ap, ap₂, ◌∙◌, subst}
use mathlib.Core.Bool.{Bool, true, false, not}
use mathlib.Core.List.{List, [], ◌∷◌, ◌++◌}
use Prim.Native.Nat.{ℕ, zero, suc, ◌+◌, ◌*◌, ◌≤◌, ◌<◌}
use native.Mathlib.Omega.{arith}
use borrow.Author.Tests.{eq-eqb, ne_eqb}
use lib.Dec.{T, eqb}
use lib.ListN.{length, take}
use Rattle.numbers.specs.Iff.{Iff}
use Rattle.numbers.specs.Walk.{pick, walk, flat, sum, bytes_at}
use Rattle.numbers.specs.BigEndian.{number, bytes_of}
use Rattle.numbers.specs.Outcome.{taken, refused, Outcome}
use Rattle.numbers.specs.Terms.{Bytes}
use Rattle.numbers.proofs.WalkLaws.{walk_same, four_bytes, sum_zero, zero_each}
use Rattle.numbers.proofs.ByteLaws.{number_at_lem, bytes_again}
use Rattle.formats.specs.Value.{ibm_value, exact_value}
use Rattle.formats.specs.Words.{is_normal}
use Rattle.format_theorems.proofs.NormalWords.{normal_same}
use Rattle.sample.specs.Reading.{not_normal}
use Rattle.sample.specs.Calls.{word_outcome}
use Rattle.reel.specs.Layout.{first_trace, trace_header, samples_of, code_of, stride, stride_of, traces_of}
use Rattle.formats.specs.Codes.{sample_bytes}
use Rattle.reel.specs.NotNormal.{not_normal_in, not_normal_among, not_normal_of}
use Rattle.reel_theorems.specs.ReelTable.{trace_at, sample_at}
use Rattle.read_reel.specs.Reading.{read_outcome}
use Rattle.write_reel.specs.Writing.{write_outcome}
use Rattle.demands.specs.Results.{sample_value}
use Rattle.demands.specs.NotNormal.{word_place, reel_words, words_changed, count_said, word_count_said, not_normal_words}
use Rattle.demands.proofs.Taken.{written_needs, written_bytes}
use Rattle.demands.proofs.Demand2.{reading, written}
use Rattle.demands.proofs.Determined.{read_valid}
use Rattle.demands.proofs.Demand3.{by_sample, reel_again, own_code}

-- ## One word

-- the number of four bytes from a place on
number_again : (s : List ℕ) (p : ℕ) → number (bytes_at (bytes_at s p 4) 0 4) ≡ number (bytes_at s p 4)
unfolding bytes_at
number_again s p = ap (λ (l : List ℕ). number (bytes_at l 0 4)) (four_bytes s p) ∙ sym (ap number (four_bytes s p))

-- what reading gives for the word at a place
one_word : (s : List ℕ) (p : ℕ) → not_normal 1 (bytes_at s p 4) ≡ pick (not (is_normal (number (bytes_at s p 4)))) 1 0
one_word s p = ap (λ (n : ℕ). pick (not (is_normal n)) 1 0) (number_again s p)

zero_normal : (s : List ℕ) (p : ℕ) → Iff (not_normal 1 (bytes_at s p 4) ≡ 0) (is_normal (number (bytes_at s p 4)) ≡ true)
zero_normal s p = (λ e. there (is_normal (number (bytes_at s p 4))) (sym (one_word s p) ∙ e), λ e. one_word s p ∙ ap (λ (b : Bool). pick (not b) 1 0) e)
  where
    there : (b : Bool) → ◌≡◌ {A = ℕ} (pick (not b) 1 0) 0 → b ≡ true
    there true e = refl
    there false e = absurd (omega (arith, e))

-- ## The words of a reel

-- words that are not normal, of two lists one behind the other
others_append : (l k : List ℕ) → length (not_normal_words (l ++ k)) ≡ length (not_normal_words l) + length (not_normal_words k)
others_append [] k = omega arith
others_append (n ∷ l) k = go (is_normal n) (others_append l k)
  where
    go : (b : Bool) → length (not_normal_words (l ++ k)) ≡ length (not_normal_words l) + length (not_normal_words k)
        → length (pick b [] (n ∷ []) ++ not_normal_words (l ++ k)) ≡ length (pick b [] (n ∷ []) ++ not_normal_words l) + length (not_normal_words k)
    go true e = e
    go false e = omega (arith, e)

-- of the words along a walk, and of lists of words along one
others_walk : (f : ℕ → ℕ) (w k at : ℕ) → length (not_normal_words (walk f w k at)) ≡ sum (walk (λ p. pick (not (is_normal (f p))) 1 0) w k at)
others_walk f w zero at = refl
others_walk f w (suc k) at = go (is_normal (f at)) (others_walk f w k (at + w))
  where
    others : List ℕ
    others = not_normal_words (walk f w k (at + w))

    go : (b : Bool) {x : ℕ} → length others ≡ x → length (pick b [] (f at ∷ []) ++ others) ≡ pick (not b) 1 0 + x
    go true e = omega (arith, e)
    go false e = omega (arith, e)

others_flat : (g : ℕ → List ℕ) (w k at : ℕ) → length (not_normal_words (flat (walk g w k at))) ≡ sum (walk (λ p. length (not_normal_words (g p))) w k at)
others_flat g w zero at = refl
others_flat g w (suc k) at = omega (arith, others_append (g at) (flat (walk g w k (at + w))), others_flat g w k (at + w))

-- the words of a trace that are not normal
trace_others : (s : List ℕ) (n at : ℕ) → not_normal_in s 1 n at ≡ length (not_normal_words (walk (λ p. number (bytes_at s p 4)) 4 n at))
unfolding not_normal_in
trace_others s n at =
    ap sum (walk_same (λ p. not_normal 1 (bytes_at s p 4)) (λ p. pick (not (is_normal (number (bytes_at s p 4)))) 1 0) 4 4 n at at (λ j l. one_word s (at + j * 4)))
    ∙ sym (others_walk (λ p. number (bytes_at s p 4)) 4 n at)

-- and those of a reel
reel_others : (s : List ℕ) → code_of s ≡ 1 → not_normal_of s ≡ length (not_normal_words (reel_words s))
unfolding not_normal_among reel_words
reel_others s c =
    let n = samples_of s in
    let t = traces_of s in
    let words : ℕ → List ℕ = λ at. walk (λ p. number (bytes_at s p 4)) 4 n (at + 240) in
    ap (λ (x : ℕ). not_normal_among s x n (stride n (sample_bytes x)) t first_trace) c
    ∙ ap sum (walk_same (λ p. not_normal_in s 1 n (p + trace_header)) (λ p. length (not_normal_words (words p))) (240 + n * 4) (240 + n * 4) t 3600 3600 (λ j l. trace_others s n (3600 + j * (240 + n * 4) + 240)))
    ∙ sym (others_flat words (240 + n * 4) t 3600)

-- where no word counts, each gives 0, and the other way round
each_zero : (s : List ℕ) → Iff (not_normal_of s ≡ 0) ((k j : ℕ) → k < traces_of s → j < samples_of s → not_normal (code_of s) (bytes_at s (sample_at s k j) 4) ≡ 0)
unfolding not_normal_among not_normal_in
each_zero s = (
  λ e k j p q. zero_each word v n (trace_at s k + 240) (zero_each trace w t 3600 e k p) j q,
  λ h. sum_zero trace w t 3600 (λ k p. sum_zero word v n (trace_at s k + 240) (λ j q. h k j p q)),
)
  where
    n : ℕ
    n = samples_of s

    t : ℕ
    t = traces_of s

    v : ℕ
    v = sample_bytes (code_of s)

    w : ℕ
    w = stride_of s

    word : ℕ → ℕ
    word p = not_normal (code_of s) (bytes_at s p 4)

    trace : ℕ → ℕ
    trace at = sum (walk word v n (at + trace_header))

-- ## The count

module _ (s out : List ℕ) (t n l c : ℕ) (b : Bytes s) (e : (read_outcome s out).said ≡ taken (t ∷ n ∷ l ∷ c ∷ [])) where
  -- THEOREM. "It equals the number of such words on the reel as 01 defines normal": where the reading of a reel of code 1 is taken, the count
  -- returned is the number of its words that are not normal.
  -- Rules out 80000000 taken as normal, the first bit of F for its first digit, the last trace's count for the sum, and N said for the count.
  pub counts_words : code_of s ≡ 1 → c ≡ length (not_normal_words (reel_words s))
  counts_words h = (reading s out t n l c b e).count ∙ reel_others s h

  -- THEOREM. "and is 0 for the other codes".
  -- Rules out words counted under code 2.
  pub none_counted : (code_of s ≡ 1 → ⊥) → c ≡ 0
  none_counted h = (reading s out t n l c b e).count ∙ (each_zero s).1 (λ k j p q. rw (ne_eqb (code_of s) 1 h))

  -- the place of a word, by T and N as they were returned
  place : code_of s ≡ 1 → (k j : ℕ) → sample_at s k j ≡ word_place n k j
  place h k j =
      let x = reading s out t n l c b e in
      ap (λ (y : ℕ). 3600 + k * stride (samples_of s) (sample_bytes y) + 240 + j * sample_bytes y) h ∙ ap (λ (y : ℕ). word_place y k j) (sym x.samples)

  -- THEOREM. The count of a reel of code 1 is 0 exactly when each of its words is normal.
  -- Rules out what `counts_words` rules out, except a count that is wrong and not 0.
  pub all_normal : code_of s ≡ 1 → Iff (c ≡ 0) ((k j : ℕ) → k < t → j < n → is_normal (number (bytes_at s (word_place n k j) 4)) ≡ true)
  all_normal h =
      let x = reading s out t n l c b e in (
        λ z k j p q. (zero_normal s (word_place n k j)).0
            (ap₂ (λ (y a : ℕ). not_normal y (bytes_at s a 4)) (sym h) (sym (place h k j))
            ∙ (each_zero s).0 (sym x.count ∙ z) k j (subst (λ (y : ℕ). k < y) x.traces p) (subst (λ (y : ℕ). j < y) x.samples q)),
        λ f. x.count
            ∙ (each_zero s).1
            (λ k j p q.
            ap₂ (λ (y a : ℕ). not_normal y (bytes_at s a 4)) h (place h k j)
            ∙ (zero_normal s (word_place n k j)).1 (f k j (subst (λ (y : ℕ). k < y) (sym x.traces) p) (subst (λ (y : ℕ). j < y) (sym x.samples) q))),
      )

  -- the exact value of a word of a reel of code 1
  value_at : code_of s ≡ 1 → (k j : ℕ) → sample_value s k j ≡ ibm_value (number (bytes_at s (word_place n k j) 4))
  value_at h k j = ap₂ (λ (y a : ℕ). exact_value y (bytes_at s a 4)) h (place h k j) ∙ ap ibm_value (number_again s (word_place n k j))

-- two normal words of the same value are the same four bytes
same_bytes_lem : (s w : List ℕ) (p : ℕ) → Bytes s → Bytes w → is_normal (number (bytes_at s p 4)) ≡ true → is_normal (number (bytes_at w p 4)) ≡ true
    → ibm_value (number (bytes_at s p 4)) ≡ ibm_value (number (bytes_at w p 4)) → bytes_at w p 4 ≡ bytes_at s p 4
same_bytes_lem s w p b d x y v =
    sym (bytes_again w d p 4) ∙ ap (bytes_of 4) (sym (normal_same (number (bytes_at s p 4)) (number (bytes_at w p 4)) (number_at_lem s b p 4) (number_at_lem w d p 4) x y v)) ∙ bytes_again s b p 4

-- a word counts exactly where the normal word of its value is another
one_changed : (s w : List ℕ) (p : ℕ) → Bytes s → Bytes w → is_normal (number (bytes_at w p 4)) ≡ true → ibm_value (number (bytes_at s p 4)) ≡ ibm_value (number (bytes_at w p 4))
    → not_normal 1 (bytes_at s p 4) ≡ pick (eqb (number (bytes_at s p 4)) (number (bytes_at w p 4))) 0 1
one_changed s w p b d y v = one_word s p ∙ go (is_normal x) refl
  where
    x : ℕ
    x = number (bytes_at s p 4)

    z : ℕ
    z = number (bytes_at w p 4)

    go : (t : Bool) → is_normal x ≡ t → ◌≡◌ {A = ℕ} (pick (not t) 1 0) (pick (eqb x z) 0 1)
    go true q = rw (eq-eqb x z (normal_same x z (number_at_lem s b p 4) (number_at_lem w d p 4) q y v))
    go false q = rw (ne_eqb x z (λ e. clash (sym q ∙ ap is_normal e ∙ y)))
      where
        clash : false ≡ true → ⊥
        clash e = subst T (sym e) tt

-- what writing the record of a reel of code 1 under code 1 gives: words that are normal, of the same values
record WrittenBack (s reel : List ℕ) (t n : ℕ) : Type 0 where
  bytes : Bytes reel
  normal : (k j : ℕ) → k < t → j < n → is_normal (number (bytes_at reel (word_place n k j) 4)) ≡ true
  value : (k j : ℕ) → k < t → j < n → ibm_value (number (bytes_at s (word_place n k j) 4)) ≡ ibm_value (number (bytes_at reel (word_place n k j) 4))

module _ (s out : List ℕ) (t n l c : ℕ) (out₂ : List ℕ) (b : Bytes s) (e : (read_outcome s out).said ≡ taken (t ∷ n ∷ l ∷ c ∷ [])) (h : code_of s ≡ 1) (room : length s ≤ length out₂) where
  -- the record, the reel that is written of it, and that the writing is taken
  abbrev r : List ℕ
  r = take l (read_outcome s out).bytes

  abbrev reel : List ℕ
  reel = take (length s) (write_outcome r 1 out₂).bytes

  said_back : (write_outcome r 1 out₂).said ≡ taken (t ∷ n ∷ length s ∷ [])
  said_back = ap (λ (y : ℕ). (write_outcome r y out₂).said) (sym h) ∙ (own_code s out t n l c b e).writes out₂ room

  written_back : WrittenBack s reel t n
  written_back =
      let x = reading s out t n l c b e in
      let again = reel_again s out t n l c 1 out₂ t n (length s) b e said_back in
      let size : length r ≡ l = ap length x.content ∙ x.whole in
      let said : (read_outcome reel r).said ≡ taken (t ∷ n ∷ l ∷ 0 ∷ []) = ap (λ (o : Outcome). o.said) (again.read r (omega (arith, size))) in
      let bytes : Bytes reel = rw (written r 1 out₂ t n (length s) said_back).content (written_bytes r (read_valid s out t n l c b e).bytes 1 out₂ (written_needs r 1 out₂ (t ∷ n ∷ length s ∷ []) said_back)) in
      record {
        bytes = bytes;
        normal = (all_normal reel r t n l 0 bytes said again.code_is).0 refl;
        value = λ k j p q.
            sym (value_at s out t n l c b e h k j) ∙ by_sample s reel again.means k j (subst (λ (y : ℕ). k < y) x.traces p) (subst (λ (y : ℕ). j < y) x.samples q)
            ∙ value_at reel r t n l 0 bytes said again.code_is k j;
      }

  -- THEOREM. Observers' measure: the count of a reel of code 1 is 0 exactly when writing its record under code 1, into any output with room
  -- for the reel, gives the reel's words back, each as it was. Such a writing is always taken.
  -- Rules out a writer that gives other words than the normal ones, and what `counts_words` rules out, except a count that is wrong and not 0.
  pub words_back : ((write_outcome r 1 out₂).said ≡ taken (t ∷ n ∷ length s ∷ []))
      × Iff (c ≡ 0) ((k j : ℕ) → k < t → j < n → bytes_at reel (word_place n k j) 4 ≡ bytes_at s (word_place n k j) 4)
  words_back =
      let w = written_back in (
        said_back,
        (
          λ z k j p q. same_bytes_lem s reel (word_place n k j) b w.bytes ((all_normal s out t n l c b e h).0 z k j p q) (w.normal k j p q) (w.value k j p q),
          λ f. (all_normal s out t n l c b e h).1 (λ k j p q. ap (λ (a : List ℕ). is_normal (number a)) (sym (f k j p q)) ∙ w.normal k j p q),
        ),
      )

  -- THEOREM. And in every case the count is the number of the reel's words that don't come back as they were.
  -- Rules out what `counts_words` rules out, and a writer that gives other words than the normal ones.
  pub counts_changed : c ≡ words_changed s reel n t
  unfolding not_normal_among not_normal_in words_changed
  counts_changed =
      let x = reading s out t n l c b e in
      let own : not_normal_of s ≡ not_normal_among s 1 n (240 + n * 4) t 3600 =
      ap (λ (y : ℕ). not_normal_among s y (samples_of s) (stride (samples_of s) (sample_bytes y)) (traces_of s) first_trace) h
      ∙ ap₂ (λ (a d : ℕ). not_normal_among s 1 a (240 + a * 4) d 3600) (sym x.samples) (sym x.traces) in
      x.count ∙ own
      ∙ ap sum
      (walk_same trace changed (240 + n * 4) (240 + n * 4) t 3600 3600
      (λ k p. let at = 3600 + k * (240 + n * 4) + 240 in ap sum (walk_same word differ 4 4 n at at (λ j q. one_changed s reel (word_place n k j) b written_back.bytes (written_back.normal k j p q) (written_back.value k j p q)))))
    where
      word : ℕ → ℕ
      word p = not_normal 1 (bytes_at s p 4)

      differ : ℕ → ℕ
      differ p = pick (eqb (number (bytes_at s p 4)) (number (bytes_at reel p 4))) 0 1

      trace : ℕ → ℕ
      trace at = sum (walk word 4 n (at + trace_header))

      changed : ℕ → ℕ
      changed at = sum (walk differ 4 n (at + 240))

-- THEOREM. "and beside a refusal", of a reel and of a word.
pub none_beside : (s out : List ℕ) (number place : ℕ) → (read_outcome s out).said ≡ refused number place → count_said (read_outcome s out).said ≡ 0
none_beside s out number place e = ap count_said e

pub no_word_beside : (code : ℕ) (w : List ℕ) (number place : ℕ) → (word_outcome code w).said ≡ refused number place → word_count_said (word_outcome code w).said ≡ 0
no_word_beside code w number place e = ap word_count_said e
