-- # What writing gives
--
-- A pair that is written becomes a word, the number of as many bytes as a sample of the code has; `single_word` has its four bytes.
use mathlib.Core.Path.{◌≡◌, refl, sym, ap, ◌∙◌, subst}
use mathlib.Core.Logic.{◌⊎◌, inl, inr, ⊎_elim}
use mathlib.Core.Bool.{Bool, true, false, not, ◌&&◌}
use mathlib.Core.List.{List, [], ◌∷◌, ◌++◌}
use Prim.Native.Nat.{ℕ, ◌^◌, ◌≤◌, ◌<◌}
use native.Mathlib.Omega.{arith}
use borrow.Author.Tests.{eqb-true, eqb-false, ne_eqb, lt-ltb, ltb-true, not-true}
use lib.Dec.{eqb, ltb}
use lib.IntN.{ℤ, pos}
use lib.ListN.{length, get_or}
use Rattle.numbers.specs.Terms.{Bytes}
use Rattle.numbers.specs.Iff.{Iff}
use Rattle.numbers.specs.Walk.{pick, bytes_at}
use Rattle.numbers.specs.BigEndian.{number, bytes_of}
use Rattle.numbers.specs.TwosComplement.{signed_of}
use Rattle.numbers.proofs.BoolLaws.{and_true, and_both}
use Rattle.numbers.proofs.ByteLaws.{bytes_of_lem, number_at_lem, number_bytes_lem}
use Rattle.numbers.proofs.SignLaws.{below_or}
use Rattle.formats.specs.Format.{in_format}
use Rattle.formats.specs.Codes.{is_code, sample_bytes, format_of}
use Rattle.formats.specs.Value.{characteristic, ibm_value, whole_value, gain_value, gain_of, is_finite, ieee_value, value_in, is_bad, is_word, word_number, exact_value}
use Rattle.formats.specs.Words.{ibm_word, word_of, first_digit, is_normal, Writes}
use Rattle.formats.specs.Written.{Word}
use Rattle.formats.proofs.CodeLaws.{Code, ibm, whole32, whole16, gain, ieee, whole8, code_is}
use Rattle.format_theorems.specs.Statements.{HasNumber}
use Rattle.format_theorems.proofs.OneFit.{one_fit}
use Rattle.format_theorems.proofs.NormalWords.{normal_means, normal_again, normal_written, normal_same}
use Rattle.format_theorems.proofs.IeeeWords.{ieee_only, ieee_minus_zero}
use Rattle.format_theorems.proofs.WordTheorems.{whole_only, gain_least, word_sound, word_fits, worded_writes}
use Rattle.value.specs.Pair.{value_of, is_canonical}
use Rattle.value.specs.Writing.{write_pair}
use Rattle.value.specs.declared.Pair.{Pair}
use Rattle.value.proofs.WrittenLaws.{written_is}
use Rattle.sample.specs.Reading.{not_normal, read_word}
use Rattle.sample.specs.Calls.{single_word}
use Rattle.sample.specs.Reading.{Taken}
use Rattle.sample_theorems.specs.Statements.{Says}
use Rattle.sample_theorems.proofs.Pairs.{taken_code, taken_good, reading_value}

-- ## Words and their bytes

-- The number of the word in the four bytes of a single word.
pub single_number : (code n : ℕ) → is_code code ≡ true → n < 256 ^ sample_bytes code → word_number code (single_word code n) ≡ n
unfolding bytes_at
single_number code n i = go code (code_is code i)
  where
    go : (code : ℕ) → Code code → n < 256 ^ sample_bytes code → word_number code (single_word code n) ≡ n
    go code ibm h = number_bytes_lem 4 n h
    go code whole32 h = number_bytes_lem 4 n h
    go code whole16 h = number_bytes_lem 2 n h
    go code gain h = number_bytes_lem 4 n h
    go code ieee h = number_bytes_lem 4 n h
    go code whole8 h = number_bytes_lem 1 n h

-- There are four, each of them a byte.
pub single_bytes : (code n : ℕ) → is_code code ≡ true → (length (single_word code n) ≡ 4) × Bytes (single_word code n)
single_bytes code n i = go code (code_is code i)
  where
    nil : 0 < 256
    nil = omega arith

    go : (code : ℕ) → Code code → (length (single_word code n) ≡ 4) × Bytes (single_word code n)
    go code ibm = (refl, bytes_of_lem 4 n)
    go code whole32 = (refl, bytes_of_lem 4 n)
    go code whole16 = let b = bytes_of_lem 2 n in (refl, (b.0, (b.1.0, (nil, (nil, tt)))))
    go code gain = (refl, bytes_of_lem 4 n)
    go code ieee = (refl, bytes_of_lem 4 n)
    go code whole8 = let b = bytes_of_lem 1 n in (refl, (b.0, (nil, (nil, (nil, tt)))))

-- The count of a word goes by its number.
pub count_by : (code : ℕ) (w u : List ℕ) → word_number code w ≡ word_number code u → not_normal code w ≡ not_normal code u
count_by code w u e = go (eqb code 1) refl
  where
    go : (t : Bool) → eqb code 1 ≡ t → ◌≡◌ {A = ℕ} (pick (t && not (is_normal (word_number 1 w))) 1 0) (pick (t && not (is_normal (word_number 1 u))) 1 0)
    go true q =
        let one = eqb-true code 1 q in
        ap (λ (n : ℕ). pick (not (is_normal n)) 1 0) (ap (λ (c : ℕ). word_number c w) (sym one) ∙ e ∙ ap (λ (c : ℕ). word_number c u) one)
    go false q = refl

-- a word of the code, of the bytes that a sample has, with a value
word_parts : (code n : ℕ) → is_word code n ≡ true → (n < 256 ^ sample_bytes code) × (is_bad code n ≡ false)
word_parts code n h = let t = and_true (ltb n (256 ^ sample_bytes code)) _ h in (ltb-true n (256 ^ sample_bytes code) t.0, not-true (is_bad code n) t.1)

list_word : (code : ℕ) (w : List ℕ) → Bytes w → is_bad code (word_number code w) ≡ false → is_word code (word_number code w) ≡ true
list_word code w b g = and_both _ _ (lt-ltb (word_number code w) (256 ^ sample_bytes code) (number_at_lem w b 0 (sample_bytes code))) (ap not g)

-- ## Sound

-- THEOREM. The word that is written has the pair's value under the code, and is one that reading takes.
pub writing_sound : (code : ℕ) (p : Pair) (n : ℕ) → write_pair code p ≡ Word n → Says code (value_of p) n
writing_sound code p n h =
    let t = written_is code p n h in
    let s = word_sound code (value_of p) n t.0 t.2 in
    let q = word_parts code n s.0 in
    let e = single_number code n t.0 q.0 in
    record { fit = q.0; good = ap (is_bad code) e ∙ q.1; value = ap (value_in code) e ∙ s.1 }

-- ## Complete

-- THEOREM. Where any word of the code has the pair's value, a word is written: 14 means that no word has it.
pub writing_complete : (code : ℕ) (p : Pair) (w : List ℕ) → is_code code ≡ true → is_canonical p ≡ true → Bytes w → is_bad code (word_number code w) ≡ false
    → exact_value code w ≡ value_of p → Writes (write_pair code p)
writing_complete code p w h c b g e =
    rw (h, c) (subst (λ (v : ℤ). Writes (word_of code v)) e (worded_writes code (word_number code w) h (list_word code w b g)))

-- ## One statement of fit

-- THEOREM. "All six codes share one statement of value and of fit" (document 02, CR 4): a canonical pair is written under a code exactly when
-- its value is one of the code's format,
pub writing_fits : (code : ℕ) (p : Pair) → is_code code ≡ true → is_canonical p ≡ true → Iff (Writes (write_pair code p)) (in_format (format_of code) (value_of p) ≡ true)
writing_fits code p h c =
    let f = word_fits code (value_of p) h in
    (λ w. f.1 (w.0, (written_is code p w.0 w.1).2), λ e. rw (h, c) (f.0 e))

-- THEOREM. exactly when some word of the code has it;
pub writing_worded : (code : ℕ) (p : Pair) → is_code code ≡ true → is_canonical p ≡ true → Iff (Writes (write_pair code p)) (HasNumber code (value_of p))
writing_worded code p h c =
    let f = writing_fits code p h c in
    let o = one_fit code (value_of p) h in
    (λ w. o.0 (f.0 w), λ t. f.1 (o.1 t))

-- THEOREM. and the pair of a word that is read fits the word's code.
pub reading_fits : (code : ℕ) (w : List ℕ) (e m : ℤ) → Bytes w → read_word code w ≡ Taken e m → in_format (format_of code) (value_of (record { e = e; m = m })) ≡ true
reading_fits code w e m b h =
    (one_fit code (value_of (record { e = e; m = m })) (taken_code code w e m h)).1
    (record { word = word_number code w; good = list_word code w b (taken_good code w e m h); value = sym (reading_value code w e m h) })

-- ## The word that document 01 names

-- THEOREM. What it is to be normal, as a statement: for zero the word is 00000000; otherwise the first hexadecimal digit of F isn't 0, unless C is 0.
pub normal_is : (n : ℕ) → Iff (is_normal n ≡ true) ((ibm_value n ≡ pos 0 → n ≡ 0) × ((ibm_value n ≡ pos 0 → ⊥) → (first_digit n ≡ 0 → ⊥) ⊎ (characteristic n ≡ 0)))
normal_is n = normal_means n

-- THEOREM. Code 1: a word is normal exactly when it is the word that is written of its value.
pub normal_word : (n : ℕ) → n < 2 ^ 32 → Iff (is_normal n ≡ true) (ibm_word (ibm_value n) ≡ Word n)
normal_word n h = (normal_again n h, λ e. (normal_written (ibm_value n) n e).normal)

-- THEOREM. No two normal words have the same value.
pub normal_only : (n₁ n₂ : ℕ) → n₁ < 2 ^ 32 → n₂ < 2 ^ 32 → is_normal n₁ ≡ true → is_normal n₂ ≡ true → ibm_value n₁ ≡ ibm_value n₂ → n₁ ≡ n₂
normal_only = normal_same

-- THEOREM. The word that is written under code 1 is normal.
pub writing_normal : (p : Pair) (n : ℕ) → write_pair 1 p ≡ Word n → is_normal n ≡ true
writing_normal p n h = (normal_written (value_of p) n (written_is 1 p n h).2).normal

-- THEOREM. So any normal word of the pair's value is the word that is written.
pub writing_only : (p : Pair) (n k : ℕ) → write_pair 1 p ≡ Word n → k < 2 ^ 32 → is_normal k ≡ true → ibm_value k ≡ value_of p → k ≡ n
writing_only p n k h b t e =
    let x = normal_written (value_of p) n (written_is 1 p n h).2 in
    normal_only k n b x.fit t x.normal (e ∙ sym x.value)

-- ## How many words are not normal (document 02, CR 3)

-- a word is the number of its four bytes
number_fits : (w : List ℕ) → Bytes w → number (bytes_at w 0 4) < 2 ^ 32
number_fits w b = number_at_lem w b 0 4

-- What reading a word gives is `not_normal`, which `word_taken` of `demands` says of the call.

-- THEOREM. It gives 0 exactly for the normal word of its value,
pub normal_0 : (w : List ℕ) → Bytes w → Iff (not_normal 1 w ≡ 0) (ibm_word (exact_value 1 w) ≡ Word (number (bytes_at w 0 4)))
normal_0 w b = (λ e. there (is_normal n) refl e, λ e. rw ((normal_word n h).1 e))
  where
    n : ℕ
    n = number (bytes_at w 0 4)

    h : n < 2 ^ 32
    h = number_fits w b

    there : (t : Bool) → is_normal n ≡ t → ◌≡◌ {A = ℕ} (pick (not t) 1 0) 0 → ibm_word (ibm_value n) ≡ Word n
    there true q e = (normal_word n h).0 q
    there false q e = absurd (let z : ◌≡◌ {A = ℕ} 1 0 = e in omega (arith, z))

-- THEOREM. and 1 exactly for any other IBM word.
pub other_1 : (w : List ℕ) → Bytes w → Iff (not_normal 1 w ≡ 1) (ibm_word (exact_value 1 w) ≡ Word (number (bytes_at w 0 4)) → ⊥)
other_1 w b = (λ e f. differ (sym e ∙ (normal_0 w b).1 f), λ f. there (is_normal n) refl f)
  where
    n : ℕ
    n = number (bytes_at w 0 4)

    differ : ◌≡◌ {A = ℕ} 1 0 → ⊥
    differ z = omega (arith, z)

    there : (t : Bool) → is_normal n ≡ t → (ibm_word (ibm_value n) ≡ Word n → ⊥) → ◌≡◌ {A = ℕ} (pick (not (is_normal n)) 1 0) 1
    there true q f = absurd (f ((normal_word n (number_fits w b)).0 q))
    there false q f = rw q

-- THEOREM. Under the other codes it gives 0.
pub other_codes : (code : ℕ) (w : List ℕ) → (code ≡ 1 → ⊥) → not_normal code w ≡ 0
other_codes code w h = rw (ne_eqb code 1 h)

-- THEOREM. For a word that is written it gives 0, under every code.
pub writing_0 : (code : ℕ) (p : Pair) (n : ℕ) → write_pair code p ≡ Word n → not_normal code (single_word code n) ≡ 0
writing_0 code p n h = go (eqb code 1) refl
  where
    go : (t : Bool) → eqb code 1 ≡ t → ◌≡◌ {A = ℕ} (pick (t && not (is_normal (word_number 1 (single_word code n)))) 1 0) 0
    go true q =
        let one = eqb-true code 1 q in
        let w = ap (λ (c : ℕ). write_pair c p) (sym one) ∙ h in
        rw (one, single_number 1 n refl (writing_sound 1 p n w).fit, writing_normal p n w)
    go false q = refl

-- ## The words of the other codes

-- THEOREM. Code 4: no gain below that of the word that is written has a number of 16 bits with the value.
pub writing_least : (p : Pair) (n g d : ℕ) → write_pair 4 p ≡ Word n → d < 2 ^ 16 → gain_value g (signed_of 16 d) ≡ value_of p → get_or (single_word 4 n) 1 0 ≤ g
writing_least p n g d h b e =
    ⊎_elim (λ (l : g < 256). gain_least (value_of p) n (written_is 4 p n h).2 g d l b e) (λ (l : 256 ≤ g). let k : gain_of n < 256 = omega arith in omega (arith, k)) (below_or g 256)

-- THEOREM. Codes 2, 3 and 8: no other number of 32, 16 or 8 bits has the value of the word that is written: it is the number itself, so under
-- code 2,
pub writing_32 : (p : Pair) (n k : ℕ) → write_pair 2 p ≡ Word n → k < 2 ^ 32 → whole_value (signed_of 32 k) ≡ value_of p → k ≡ n
writing_32 p n k h b e = whole_only 32 (value_of p) n k (omega arith) (written_is 2 p n h).2 b e

-- THEOREM. so under code 3,
pub writing_16 : (p : Pair) (n k : ℕ) → write_pair 3 p ≡ Word n → k < 2 ^ 16 → whole_value (signed_of 16 k) ≡ value_of p → k ≡ n
writing_16 p n k h b e = whole_only 16 (value_of p) n k (omega arith) (written_is 3 p n h).2 b e

-- THEOREM. and under code 8;
pub writing_8 : (p : Pair) (n k : ℕ) → write_pair 8 p ≡ Word n → k < 2 ^ 8 → whole_value (signed_of 8 k) ≡ value_of p → k ≡ n
writing_8 p n k h b e = whole_only 8 (value_of p) n k (omega arith) (written_is 8 p n h).2 b e

-- THEOREM. of code 3's word it is the first two bytes, of code 8's the first, the rest 00.
pub first_bytes : (n : ℕ) → (single_word 3 n ≡ bytes_of 2 n ++ (0 ∷ 0 ∷ [])) × (single_word 8 n ≡ bytes_of 1 n ++ (0 ∷ 0 ∷ 0 ∷ []))
first_bytes n = (refl, refl)

-- THEOREM. Code 5: any word of the pair's value is the word that is written, but for 80000000, for which 00000000 is written.
pub writing_ieee : (p : Pair) (n k : ℕ) → write_pair 5 p ≡ Word n → k < 2 ^ 32 → is_finite 8 23 k ≡ true → ieee_value 8 23 k ≡ value_of p → (k ≡ n) ⊎ ((k ≡ 0x8000_0000) × (n ≡ 0))
writing_ieee p n k h b f e = go (eqb k 0x8000_0000) refl
  where
    w : word_of 5 (ieee_value 8 23 k) ≡ Word n
    w = ap (word_of 5) e ∙ (written_is 5 p n h).2

    go : (t : Bool) → eqb k 0x8000_0000 ≡ t → (k ≡ n) ⊎ ((k ≡ 0x8000_0000) × (n ≡ 0))
    go true q =
        let z = eqb-true k 0x8000_0000 q in
        let m : Word 0 ≡ Word n = sym ieee_minus_zero ∙ ap (λ (x : ℕ). word_of 5 (ieee_value 8 23 x)) (sym z) ∙ w in
        let i : n ≡ 0 = cc in
        inr (z, i)
    go false q =
        let m : Word k ≡ Word n = sym (ieee_only k b f (eqb-false k 0x8000_0000 q)) ∙ w in
        let i : k ≡ n = cc in
        inl i
