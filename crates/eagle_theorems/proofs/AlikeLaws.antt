-- Eagle reels that differ in nothing that carries meaning: the same T, N, count and meaning, and no cause but that of a trailer's end. Assumes
-- nothing.
use mathlib.Core.Path.{◌≡◌, sym, ap, ap₂, ◌∙◌, subst}
use mathlib.Core.List.{List, ◌∷◌, [], ◌++◌, map}
use mathlib.Core.Bool.{false}
use Prim.Native.Nat.{ℕ, ◌+◌, ◌*◌, ◌≤◌, ◌<◌}
use native.Mathlib.Nat.{zero-add}
use native.Mathlib.Omega.{arith}
use borrow.Author.Tests.{le-ltb, le-leb, eq-eqb}
use lib.Dec.{ltb}
use lib.ListN.{length, get_or}
use Rattle.numbers.specs.Walk.{walk, sum, bytes_at}
use Rattle.numbers.specs.BigEndian.{number}
use Rattle.numbers.specs.Cause.{refuse_if, then, first_of}
use Rattle.numbers.specs.Cause.{Fine}
use Rattle.numbers.proofs.WalkLaws.{walk_same}
use Rattle.numbers.proofs.RowLaws.{then_second, none_of}
use Rattle.formats.specs.Codes.{sample_bytes}
use Rattle.reel.specs.Layout.{number16, samples_of, interval_of, code_of, stride_in, stride_by, whole_in, over_in, traces_by}
use Rattle.reel.specs.Causes.{most_samples, most_traces, most_interval, limit_causes_by, size_causes, trace_causes, trailer_cause, trace_causes_by, behind_causes_by, causes_by}
use Rattle.reel.specs.Meaning.{blank, card_text_by, trace_meaning, meaning_by}
use Rattle.reel.specs.NotNormal.{not_normal_in, not_normal_among, not_normal_by}
use Rattle.reel.specs.declared.Layout.TheVariants.{Eagle}
use Rattle.reel.proofs.CheckLaws.{fine_by}
use Rattle.demands.proofs.Headers.{meaning_eq}
use Rattle.eagle_theorems.specs.EagleTable.{eagle_length, eagle_at, eagle_count, Ends}
use Rattle.eagle_theorems.specs.Results.{Alike}
use Rattle.eagle_theorems.proofs.TraceLaws.{SameTrace, binary_same, trace_fine, trace_same, words_same}
use Rattle.eagle_theorems.proofs.PlainLaws.{eagle_code, eagle_stride, eagle_count_lem, passes}

-- bytes that are the same one by one
bytes_same : (s₁ s₂ : List ℕ) (at k : ℕ) → ((p : ℕ) → p < k → get_or s₁ (at + p) 0 ≡ get_or s₂ (at + p) 0) → bytes_at s₁ at k ≡ bytes_at s₂ at k
unfolding bytes_at
bytes_same s₁ s₂ at k h =
    walk_same (λ a. get_or s₁ a 0) (λ a. get_or s₂ a 0) 1 1 k at at (λ j l. let e : j * 1 ≡ j = omega arith in rw e (h j l))

module _ (s₁ s₂ : List ℕ) (a : Alike s₁ s₂) where
  binary_part : (d c : ℕ) → d + c ≤ 60 → bytes_at s₁ (3200 + d) c ≡ bytes_at s₂ (3200 + d) c
  binary_part d c h =
      bytes_same s₁ s₂ (3200 + d) c (λ p l. let e : 3200 + d + p ≡ 3200 + (d + p) = omega arith in rw e (a.binary (d + p) (omega (arith, h, l))))

  -- LAW. The reels' own numbers are the same, and so is T.
  alike_code : code_of s₁ ≡ code_of s₂
  alike_code = ap number (binary_part 24 2 (omega arith))

  pub alike_samples : samples_of s₁ ≡ samples_of s₂
  alike_samples = ap number (binary_part 20 2 (omega arith))

  alike_interval : interval_of s₁ ≡ interval_of s₂
  alike_interval = ap number (binary_part 16 2 (omega arith))

  alike_stride : stride_by Eagle s₁ ≡ stride_by Eagle s₂
  alike_stride = ap₂ (λ (m c : ℕ). stride_in Eagle m (sample_bytes c)) alike_samples alike_code

  pub alike_traces : traces_by Eagle s₁ ≡ traces_by Eagle s₂
  alike_traces = ap₂ whole_in a.size alike_stride

  -- Its cards, and the numbers of the binary header.
  alike_cards : card_text_by Eagle s₁ ≡ card_text_by Eagle s₂
  unfolding card_text_by
  alike_cards =
      ap (λ (l : List ℕ). map blank l ++ (0x40 ∷ 0x40 ∷ []))
      (bytes_same s₁ s₂ 0 3198 (λ p l. ap (λ (y : ℕ). get_or s₁ y 0) (zero-add p) ∙ a.cards p l ∙ ap (λ (y : ℕ). get_or s₂ y 0) (sym (zero-add p))))

  module _ (e : causes_by Eagle s₁ ≡ Fine) where
    abbrev n : ℕ
    n = samples_of s₁

    abbrev i : ℕ
    i = interval_of s₁

    abbrev w : ℕ
    w = eagle_length s₁

    -- Trace k of the second has the same bytes as that of the first.
    trace : (k : ℕ) → k < eagle_count s₁ → SameTrace s₁ s₂ n (eagle_at s₁ k) (eagle_at s₁ k)
    trace k l =
        record {
          header = λ d c h.
              sym (bytes_same s₁ s₂ (eagle_at s₁ k + d) c (λ p o. let q : eagle_at s₁ k + d + p ≡ eagle_at s₁ k + (d + p) = omega arith in rw q (a.headers k (d + p) l (omega (arith, h, o)))));
          words = λ j h.
              sym (bytes_same s₁ s₂ (eagle_at s₁ k + 240 + j * 4) 4 (λ p o. let q : eagle_at s₁ k + 240 + j * 4 + p ≡ eagle_at s₁ k + 240 + (j * 4 + p) = omega arith in rw q (a.words k (j * 4 + p) l (omega (arith, h, o)))));
        }

    -- What is found along the traces of the one and of the other.
    along : {B : Type 0} (f g : ℕ → B) → ((k : ℕ) → k < eagle_count s₁ → f (eagle_at s₁ k) ≡ g (eagle_at s₁ k)) → walk f w (eagle_count s₁) 3600 ≡ walk g w (eagle_count s₁) 3600
    along f g each = walk_same f g w w (eagle_count s₁) 3600 3600 each

    -- The numbers of both, by those of the first under code 1.
    first_numbers : {A : Type 0} (f : ℕ → ℕ → ℕ → A) → f (code_of s₁) (stride_by Eagle s₁) (traces_by Eagle s₁) ≡ f 1 w (eagle_count s₁)
    first_numbers f = ap (λ (c : ℕ). f c (stride_by Eagle s₁) (traces_by Eagle s₁)) (eagle_code s₁ e) ∙ ap₂ (f 1) (eagle_stride s₁ e) (eagle_count_lem s₁ e)

    second_numbers : {A : Type 0} (f : ℕ → ℕ → ℕ → ℕ → ℕ → A) → f (code_of s₂) (samples_of s₂) (interval_of s₂) (stride_by Eagle s₂) (traces_by Eagle s₂) ≡ f 1 n i w (eagle_count s₁)
    second_numbers f =
        ap (λ (c : ℕ). f c (samples_of s₂) (interval_of s₂) (stride_by Eagle s₂) (traces_by Eagle s₂)) (sym alike_code ∙ eagle_code s₁ e)
        ∙ ap₂ (λ (m y : ℕ). f 1 m y (stride_by Eagle s₂) (traces_by Eagle s₂)) (sym alike_samples) (sym alike_interval)
        ∙ ap₂ (f 1 n i) (sym alike_stride ∙ eagle_stride s₁ e) (sym alike_traces ∙ eagle_count_lem s₁ e)

    -- LAW. They mean the same.
    pub alike_means : meaning_by Eagle s₁ ≡ meaning_by Eagle s₂
    unfolding meaning_by
    alike_means =
        meaning_eq alike_cards (binary_same s₂ s₁ binary_part)
        (first_numbers (λ c v t. walk (trace_meaning s₁ c n i) v t 3600)
        ∙ along (trace_meaning s₁ 1 n i) (trace_meaning s₂ 1 n i) (λ k l. sym (trace_same s₁ s₂ n i (eagle_at s₁ k) (eagle_at s₁ k) (trace k l)))
        ∙ sym (second_numbers (λ c m y v t. walk (trace_meaning s₂ c m y) v t 3600)))

    -- LAW. As many of their words are not normal.
    pub alike_count : not_normal_by Eagle s₁ ≡ not_normal_by Eagle s₂
    unfolding not_normal_among
    alike_count =
        first_numbers (λ c v t. not_normal_among s₁ c n v t 3600)
        ∙ ap sum (along (λ p. not_normal_in s₁ 1 n (p + 240)) (λ p. not_normal_in s₂ 1 n (p + 240)) (λ k l. sym (words_same s₁ s₂ n i (eagle_at s₁ k) (eagle_at s₁ k) (trace k l))))
        ∙ sym (second_numbers (λ c m y v t. not_normal_among s₂ c m v t 3600))

    -- LAW. Where each trailer of the second ends in FFFF, no cause applies to it.
    pub alike_fine : ((k : ℕ) → k < eagle_count s₁ → Ends s₂ k) → causes_by Eagle s₂ ≡ Fine
    unfolding causes_by behind_causes_by
    alike_fine ends =
        let h = fine_by Eagle s₁ e in
        let k = h.numbers in
        let size = length s₂ in
        let long : ltb size 3600 ≡ false = le-ltb size 3600 (omega (arith, h.long, a.size)) in
        let over : over_in size w ≡ 0 = ap₂ over_in (sym a.size) (sym (eagle_stride s₁ e)) ∙ h.whole in
        let few : ltb most_traces (eagle_count s₁) ≡ false = le-ltb most_traces (eagle_count s₁) (omega (arith, h.few, eagle_count_lem s₁ e)) in
        second_numbers (λ c m y v t. then (refuse_if (ltb size 3600) 1 size) (then (limit_causes_by Eagle c m y) (then (size_causes size v t (over_in size v)) (first_of (walk (trace_causes_by Eagle s₂ c m y) v t 3600)))))
        ∙ rw (long, le-leb 1 n k.n_low, le-leb n most_samples k.n_high, le-leb 1 i k.i_low, le-leb i most_interval k.i_high, over, few) (none_of (trace_causes_by Eagle s₂ 1 n i) w (eagle_count s₁) 3600 each)
      where
        ended : (j : ℕ) → j < eagle_count s₁ → trailer_cause s₂ (eagle_at s₁ j + (240 + n * 4)) ≡ Fine
        ended j l =
            let q : number16 s₂ (eagle_at s₁ j + (240 + n * 4) + 958) ≡ 0xFFFF = subst (λ (m : ℕ). number16 s₂ (3600 + j * (240 + m * 4 + 960) + (240 + m * 4) + 958) ≡ 0xFFFF) (sym alike_samples) (ends j l) in
            rw (eq-eqb (number16 s₂ (eagle_at s₁ j + (240 + n * 4) + 958)) 0xFFFF q)

        each : (j : ℕ) → j < eagle_count s₁ → trace_causes_by Eagle s₂ 1 n i (3600 + j * w) ≡ Fine
        each j l = then_second (trace_causes s₂ 1 n i (eagle_at s₁ j)) _ (trace_fine s₁ s₂ n i (eagle_at s₁ j) (eagle_at s₁ j) (trace j l) (passes s₁ e j l)) (ended j l)
