-- The plain reel of an Eagle reel: where no cause applies to the Eagle reel none applies to the plain one, both mean the same, and they are
-- read alike. Assumes nothing.
use mathlib.Core.Path.{◌≡◌, refl, sym, ap, ap₂, ◌∙◌, subst}
use mathlib.Core.List.{List, [], ◌∷◌, ◌++◌, map, map-append, append_assoc, append-nil}
use mathlib.Core.Bool.{false}
use Prim.Native.Nat.{ℕ, ◌+◌, ◌-◌, ◌*◌, ◌/◌, ◌%◌, ◌≤◌, ◌<◌}
use native.Mathlib.Nat.{mul-div_cancel, mul-mod_left}
use native.Mathlib.Omega.{arith}
use borrow.Author.Tests.{le-ltb, le-leb, eqb-true}
use lib.Dec.{ltb}
use lib.ListN.{length, length-append}
use Rattle.numbers.specs.Walk.{walk, flat, sum, bytes_at}
use Rattle.numbers.specs.BigEndian.{number}
use Rattle.numbers.specs.Cause.{first_of}
use Rattle.numbers.specs.Cause.{Fine}
use Rattle.numbers.specs.Terms.{All, Bytes}
use Rattle.numbers.proofs.WalkLaws.{size_bytes, size_walk, map_walk, all_at}
use Rattle.numbers.proofs.AllLaws.{all_append, all_flat, all_each}
use Rattle.numbers.proofs.CauseLaws.{then_fine}
use Rattle.numbers.proofs.RowLaws.{none_is, none_of}
use Rattle.numbers.proofs.ByteLaws.{bytes_at_lem, bytes_append}
use Rattle.formats.specs.Codes.{sample_bytes}
use Rattle.reel.specs.Layout.{samples_of, interval_of, code_of, stride, stride_in, stride_by, whole_in, over_in, traces_by, stride_of, traces_of}
use Rattle.reel.specs.Causes.{most_samples, most_traces, most_interval, trace_causes, causes_by, causes_of, behind_causes_by, trace_causes_by}
use Rattle.reel.specs.Meaning.{trace_meaning, meaning_by, meaning_of, card_text_by, binary_numbers, blank}
use Rattle.reel.specs.NotNormal.{not_normal_in, not_normal_among, not_normal_by, not_normal_of}
use Rattle.reel.specs.declared.Layout.TheVariants.{Plain, Eagle}
use Rattle.reel.proofs.CheckLaws.{SoundBy, fine_by}
use Rattle.read_reel.specs.Reading.{read_outcome_by, read_outcome}
use Rattle.demands.specs.NotNormal.{reel_words}
use Rattle.demands.proofs.Headers.{meaning_eq}
use Rattle.demands.proofs.From.{From, from_start, from_length, from_next, from_parts, from_bytes, from_behind, from_walk}
use Rattle.eagle_theorems.specs.EagleTable.{bare_trace, eagle_length, eagle_count}
use Rattle.eagle_theorems.specs.PlainReel.{plain_reel}
use Rattle.eagle_theorems.specs.Results.{eagle_words}
use Rattle.eagle_theorems.proofs.TraceLaws.{SameTrace, binary_same, words_made, trace_fine, trace_same, words_same, read_alike}

-- ## Parts that were copied

-- Where k bytes of s, from `at` on, stand in x from p on, so do the bytes within them.
part : (s x rest : List ℕ) (p at k : ℕ) → From x p (bytes_at s at k ++ rest) → (d c : ℕ) → d + c ≤ k → bytes_at x (p + d) c ≡ bytes_at s (at + d) c
part s x rest p at k f d c h =
    let e = k - (d + c) in
    let y = bytes_at s (at + d) c in
    let z = bytes_at s (at + (d + c)) e in
    let q : k ≡ d + c + e = omega arith in
    let w : bytes_at s at k ≡ bytes_at s at d ++ (y ++ z) =
    ap (bytes_at s at) q ∙ bytes_append s at (d + c) e ∙ ap (λ (l : List ℕ). l ++ z) (bytes_append s at d c) ∙ append_assoc (bytes_at s at d) y z in
    let g = from_next (bytes_at s at d) ((y ++ z) ++ rest) d (size_bytes s at d) (from_parts (bytes_at s at d) (y ++ z) rest (subst (λ (l : List ℕ). From x p (l ++ rest)) w f)) in
    from_bytes y (z ++ rest) c (size_bytes s (at + d) c) (from_parts y z rest g)

-- So a trace that was copied but for its trailer has the same bytes.
copied_trace : (s x rest : List ℕ) (n p at : ℕ) → From x p (bytes_at s at (240 + n * 4) ++ rest) → SameTrace s x n p at
copied_trace s x rest n p at f =
    record {
      header = λ d c h. part s x rest p at (240 + n * 4) f d c (omega (arith, h));
      words = λ j l.
          let a : p + 240 + j * 4 ≡ p + (240 + j * 4) = omega arith in
          let b : at + 240 + j * 4 ≡ at + (240 + j * 4) = omega arith in
          rw (a, b) (part s x rest p at (240 + n * 4) f (240 + j * 4) 4 (omega (arith, l)));
    }

-- ## The reel

module _ (s : List ℕ) where
  abbrev bare : ℕ
  bare = bare_trace s

  abbrev count : ℕ
  count = eagle_count s

  -- The places of its traces; the traces, one behind the other without their trailers; and what stands before them.
  abbrev places : List ℕ
  places = walk (λ (q : ℕ). q) (eagle_length s) count 3600

  abbrev traces : List ℕ
  traces = flat (map (λ at. bytes_at s at bare) places)

  plain_parts : plain_reel s ≡ bytes_at s 0 3198 ++ (0x40 ∷ 0x40 ∷ (bytes_at s 3200 400 ++ traces))
  unfolding plain_reel
  plain_parts = ap (λ (l : List (List ℕ)). bytes_at s 0 3198 ++ (0x40 ∷ 0x40 ∷ (bytes_at s 3200 400 ++ flat l))) (sym (map_walk (λ at. bytes_at s at bare) (λ (q : ℕ). q) (eagle_length s) count 3600))

  from_cards : From (plain_reel s) 0 (bytes_at s 0 3198 ++ (0x40 ∷ 0x40 ∷ (bytes_at s 3200 400 ++ traces)))
  from_cards = subst (From (plain_reel s) 0) plain_parts (from_start (plain_reel s))

  from_binary : From (plain_reel s) 3200 (bytes_at s 3200 400 ++ traces)
  from_binary = from_next (0x40 ∷ 0x40 ∷ []) (bytes_at s 3200 400 ++ traces) 2 refl (from_next (bytes_at s 0 3198) _ 3198 (size_bytes s 0 3198) from_cards)

  from_traces : From (plain_reel s) 3600 (traces ++ [])
  from_traces = subst (From (plain_reel s) 3600) (sym (append-nil traces)) (from_next (bytes_at s 3200 400) traces 400 (size_bytes s 3200 400) from_binary)

  -- The binary header stands where it stood, so the reel's own numbers are those of the Eagle reel.
  binary_part : (d c : ℕ) → d + c ≤ 400 → bytes_at (plain_reel s) (3200 + d) c ≡ bytes_at s (3200 + d) c
  binary_part = part s (plain_reel s) traces 3200 3200 400 from_binary

  pub plain_code : code_of (plain_reel s) ≡ code_of s
  plain_code = ap number (binary_part 24 2 (omega arith))

  pub plain_samples : samples_of (plain_reel s) ≡ samples_of s
  plain_samples = ap number (binary_part 20 2 (omega arith))

  plain_interval : interval_of (plain_reel s) ≡ interval_of s
  plain_interval = ap number (binary_part 16 2 (omega arith))

  -- LAW. The card text is that of the Eagle reel.
  plain_cards : card_text_by Plain (plain_reel s) ≡ card_text_by Eagle s
  unfolding card_text_by
  plain_cards =
      let cards = bytes_at s 0 3198 ++ (0x40 ∷ 0x40 ∷ []) in
      let behind = bytes_at s 3200 400 ++ traces in
      let f = subst (From (plain_reel s) 0) (sym (append_assoc (bytes_at s 0 3198) (0x40 ∷ 0x40 ∷ []) behind)) from_cards in
      ap (map blank) (from_bytes cards behind 3200 (simp (length-append, size_bytes)) f) ∙ map-append blank (bytes_at s 0 3198) (0x40 ∷ 0x40 ∷ [])

  -- LAW. So are the numbers of the binary header.
  plain_binary : binary_numbers (plain_reel s) ≡ binary_numbers s
  plain_binary = binary_same s (plain_reel s) (λ d c h. binary_part d c (omega (arith, h)))

  -- LAW. Its bytes are bytes where those of the Eagle reel are.
  pub plain_bytes : Bytes s → Bytes (plain_reel s)
  plain_bytes b =
      subst Bytes (sym plain_parts)
      (all_append _ (bytes_at s 0 3198) _ (bytes_at_lem s b 0 3198) (
        omega arith,
        (
          omega arith,
          all_append _ (bytes_at s 3200 400) traces (bytes_at_lem s b 3200 400)
              (all_flat _ (λ at. bytes_at s at bare) (λ (at : ℕ). at ≡ at) (λ at h. bytes_at_lem s b at bare) places (all_at (λ (at : ℕ). at ≡ at) (λ (q : ℕ). q) (λ q. refl) (eagle_length s) count 3600)),
        ),
      ))

  module _ (e : causes_by Eagle s ≡ Fine) where
    sound : SoundBy Eagle s
    sound = fine_by Eagle s e

    abbrev n : ℕ
    n = samples_of s

    abbrev i : ℕ
    i = interval_of s

    -- An Eagle reel to which no cause applies has code 1,
    pub eagle_code : code_of s ≡ 1
    eagle_code = eqb-true (code_of s) 1 sound.allowed

    -- its traces stand this far apart, and there are this many.
    pub eagle_stride : stride_by Eagle s ≡ eagle_length s
    eagle_stride = ap (λ (c : ℕ). stride_in Eagle n (sample_bytes c)) eagle_code

    pub eagle_count_lem : traces_by Eagle s ≡ eagle_count s
    eagle_count_lem = ap (whole_in (length s)) eagle_stride

    -- None of them has a cause.
    abbrev Passes : ℕ → Type 0
    Passes at = trace_causes s 1 n i at ≡ Fine

    pub passes : (j : ℕ) → j < count → Passes (3600 + j * eagle_length s)
    passes j l =
        let at = 3600 + j * eagle_length s in
        let q = none_is (trace_causes_by Eagle s (code_of s) n i) (stride_by Eagle s) (traces_by Eagle s) 3600 sound.traces j (omega (arith, l, eagle_count_lem)) in
        (then_fine (trace_causes s 1 n i at) _ (sym (ap₂ (λ (c w : ℕ). trace_causes_by Eagle s c n i (3600 + j * w)) eagle_code eagle_stride) ∙ q)).0

    all_pass : All Passes places
    all_pass = all_each Passes (λ (q : ℕ). q) (eagle_length s) count 3600 passes

    size_places : length places ≡ count
    size_places = size_walk (λ (q : ℕ). q) (eagle_length s) count 3600

    -- What is found at each trace of the plain reel, by what is found at that of the Eagle reel.
    along : {B : Type 0} (f : ℕ → B) (h : ℕ → B) → ((at p : ℕ) → Passes at → SameTrace s (plain_reel s) n p at → f p ≡ h at)
        → walk f bare count 3600 ≡ walk h (eagle_length s) count 3600
    along f h each =
        ap (λ (k : ℕ). walk f bare k 3600) (sym size_places)
        ∙ from_walk (plain_reel s) (λ at. bytes_at s at bare) Passes bare (λ at q. size_bytes s at bare) f h (λ at p rest q g. each at p q (copied_trace s (plain_reel s) rest n p at g)) places 3600 [] all_pass from_traces
        ∙ map_walk h (λ (q : ℕ). q) (eagle_length s) count 3600

    -- LAW. The plain reel's length.
    plain_length : length (plain_reel s) ≡ 3600 + count * bare
    plain_length =
        let f = from_behind (plain_reel s) (λ at. bytes_at s at bare) Passes bare (λ at q. size_bytes s at bare) places 3600 [] all_pass from_traces in
        sym (from_length f) ∙ omega (arith, ap (λ (k : ℕ). k * bare) size_places)

    plain_stride : stride_of (plain_reel s) ≡ bare
    plain_stride = ap₂ (λ (m c : ℕ). stride m (sample_bytes c)) plain_samples (plain_code ∙ eagle_code)

    behind_it : length (plain_reel s) - 3600 ≡ count * bare
    behind_it = omega (arith, plain_length)

    whole : whole_in (length (plain_reel s)) bare ≡ count
    whole = ap (λ (k : ℕ). k / bare) behind_it ∙ mul-div_cancel count (omega arith)

    over : over_in (length (plain_reel s)) bare ≡ 0
    over = ap (λ (k : ℕ). k % bare) behind_it ∙ mul-mod_left count bare

    -- LAW. It has as many traces.
    pub plain_traces : traces_of (plain_reel s) ≡ eagle_count s
    plain_traces = ap (whole_in (length (plain_reel s))) plain_stride ∙ whole

    -- LAW. No cause of 1 to 9, 18 and 19 applies to it.
    pub plain_no_cause : causes_of (plain_reel s) ≡ Fine
    unfolding causes_by behind_causes_by
    plain_no_cause =
        let k = sound.numbers in
        let long : ltb (length (plain_reel s)) 3600 ≡ false = le-ltb (length (plain_reel s)) 3600 (omega (arith, plain_length)) in
        let few : ltb most_traces count ≡ false = le-ltb most_traces count (omega (arith, sound.few, eagle_count_lem)) in
        let traces_fine : first_of (walk (trace_causes (plain_reel s) 1 n i) bare count 3600) ≡ Fine =
        ap first_of (along (trace_causes (plain_reel s) 1 n i) (λ at. Fine) (λ at p h t. trace_fine s (plain_reel s) n i p at t h)) ∙ none_of (λ at. Fine) (eagle_length s) count 3600 (λ j l. refl) in
        rw (long, plain_code, plain_samples, plain_interval, eagle_code, le-leb 1 n k.n_low, le-leb n most_samples k.n_high, le-leb 1 i k.i_low, le-leb i most_interval k.i_high, whole, over, few) traces_fine

    -- Both reels by these numbers.
    plain_numbers : {A : Type 0} (f : ℕ → ℕ → ℕ → ℕ → ℕ → A) → f (code_of (plain_reel s)) (samples_of (plain_reel s)) (interval_of (plain_reel s)) (stride_of (plain_reel s)) (traces_of (plain_reel s)) ≡ f 1 n i bare count
    plain_numbers f =
        let x = plain_reel s in
        ap (λ (c : ℕ). f c (samples_of x) (interval_of x) (stride_of x) (traces_of x)) (plain_code ∙ eagle_code)
        ∙ ap₂ (λ (m y : ℕ). f 1 m y (stride_of x) (traces_of x)) plain_samples plain_interval
        ∙ ap₂ (λ (w t : ℕ). f 1 n i w t) plain_stride plain_traces

    eagle_numbers : {A : Type 0} (f : ℕ → ℕ → ℕ → A) → f (code_of s) (stride_by Eagle s) (traces_by Eagle s) ≡ f 1 (eagle_length s) count
    eagle_numbers f = ap (λ (c : ℕ). f c (stride_by Eagle s) (traces_by Eagle s)) eagle_code ∙ ap₂ (f 1) eagle_stride eagle_count_lem

    -- LAW. It means the same as the Eagle reel.
    pub plain_means : meaning_of (plain_reel s) ≡ meaning_by Eagle s
    unfolding meaning_by
    plain_means =
        meaning_eq plain_cards plain_binary
        (plain_numbers (λ c m y w t. walk (trace_meaning (plain_reel s) c m y) w t 3600)
        ∙ along (trace_meaning (plain_reel s) 1 n i) (trace_meaning s 1 n i) (λ at p h t. trace_same s (plain_reel s) n i p at t)
        ∙ sym (eagle_numbers (λ c w t. walk (trace_meaning s c n i) w t 3600)))

    -- LAW. As many of its words are not normal.
    pub plain_count : not_normal_of (plain_reel s) ≡ not_normal_by Eagle s
    unfolding not_normal_among
    plain_count =
        plain_numbers (λ c m y w t. not_normal_among (plain_reel s) c m w t 3600)
        ∙ ap sum (along (λ p. not_normal_in (plain_reel s) 1 n (p + 240)) (λ at. not_normal_in s 1 n (at + 240)) (λ at p h t. words_same s (plain_reel s) n i p at t))
        ∙ sym (eagle_numbers (λ c w t. not_normal_among s c n w t 3600))

    -- LAW. Its words are those of the Eagle reel.
    pub plain_words : reel_words (plain_reel s) ≡ eagle_words s
    unfolding reel_words eagle_words
    plain_words =
        ap₂ (λ (m t : ℕ). flat (walk (λ at. walk (λ p. number (bytes_at (plain_reel s) p 4)) 4 m (at + 240)) (240 + m * 4) t 3600)) plain_samples plain_traces
        ∙ ap flat (along (λ at. walk (λ p. number (bytes_at (plain_reel s) p 4)) 4 n (at + 240)) (λ at. walk (λ p. number (bytes_at s p 4)) 4 n (at + 240)) (λ at p h t. words_made s (plain_reel s) n i p at t number))

    -- LAW. Reading the one as an Eagle reel and the other as a plain reel, into any output, ends alike: with the same numbers and the same
    -- bytes.
    pub plain_reading : (out : List ℕ) → read_outcome_by Eagle s out ≡ read_outcome (plain_reel s) out
    plain_reading =
        read_alike Eagle Plain s (plain_reel s) e plain_no_cause (eagle_count_lem ∙ sym plain_traces) (sym plain_samples) (sym plain_count) (sym plain_means)
