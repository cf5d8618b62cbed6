-- # The nearest value of a code
--
-- Document 02, CR 5; each sentence of it about values stands over the theorem that says it. The theorems are over `nearest_value code v`, the
-- value that nearest writing gives a sample of the value v, for every whole number v over the denominator and for all six codes. What
-- the call itself says is no part of them.
--
-- - `nearest_word`: the nearest value is that of a word of the code, the one that exact writing gives.
-- - `no_word_nearer`: no word of the code is nearer; one that is as near has the same value, or one farther from zero.
-- - `nearest_only`, `nearest_means`: CR 5's two sentences determine the nearest value.
-- - `zero_word`: what becomes zero is written 00 throughout.
-- - `end_word`, `word_inside`: what the ends of the range are; `inside_means`: what is inside; `beyond_range`: a value beyond the range
--   becomes the end.
-- - `half_reaching`, `half_each`, `half_whole`, `half_gain`, `half_place`: how far a value inside the range moves at most; `last_places`,
--   `zero_place`: what a word's last place is.
-- - `no_farther_apart`: how far apart two values come out at most under codes 2, 3 and 8.
-- - `nearest_again`, `changes_none`, `changes_same`, `changes_one`: which values change.
--
-- Nothing is assumed but what a theorem says. `NearestEdges` has the ends as numbers, and the nearest values at the edges.
use mathlib.Core.Path.{◌≡◌, refl, sym, ap, ◌∙◌, subst}
use mathlib.Core.Logic.{◌⊎◌, inl, inr}
use mathlib.Core.Bool.{Bool, true, false}
use Prim.Native.Nat.{ℕ, zero, suc, ◌+◌, ◌-◌, ◌*◌, ◌^◌, ◌≤◌, ◌<◌}
use native.Mathlib.Nat.{le_trans, le_of_eq}
use native.Mathlib.Omega.{arith}
use lib.Dec.{eqb, leb→le, le→leb}
use lib.Pow.{pow_pos, pow_mono}
use lib.IntN.{ℤ, pos, negsuc, nat_abs, ◌*ℤ◌}
use lib.Signed.{◌≤ℤ◌}
use Rattle.numbers.specs.Iff.{Iff}
use Rattle.numbers.specs.Walk.{pick}
use Rattle.numbers.specs.First.{first}
use Rattle.numbers.specs.TwosComplement.{signed_of}
use Rattle.numbers.specs.SignMagnitude.{sign_magnitude, is_negative}
use Rattle.numbers.specs.Terms.{Among}
use Rattle.numbers.proofs.Magnitudes.{abs_signed}
use Rattle.formats.specs.Format.{unit, limit, fits_at, in_format}
use Rattle.formats.specs.Codes.{denominator_power, is_code, ibm_format, whole_format, gain_format, ieee_format, format_of}
use Rattle.formats.specs.Value.{sign_bit, characteristic, fraction, gain_of, gain_number, ieee_sign, ieee_exponent, significand, ieee_power, value_in, is_word}
use Rattle.formats.specs.Words.{word_of}
use Rattle.formats.specs.Nearest.{reaching, range_end, nearest_value, distance, changes}
use Rattle.formats.specs.Written.{Word}
use Rattle.formats.proofs.PlacedLaws.{value_in_format}
use Rattle.formats.proofs.NormalLaws.{abs_value}
use Rattle.formats.proofs.CodeLaws.{Code, ibm, whole32, whole16, gain, ieee, whole8, code_is}
use Rattle.formats.proofs.NearestLaws.{code_rounds, under_end, nearest_in_lem, value_among, nearest_self, nearest_other}
use Rattle.format_theorems.specs.Statements.{HasNumber}
use Rattle.format_theorems.specs.Nearness.{NearestOf, Inside, whole_codes, last_place}
use Rattle.format_theorems.proofs.IeeeWords.{single_power, single_significand}
use Rattle.format_theorems.proofs.OneFit.{word_in, one_fit}
use Rattle.format_theorems.proofs.WordTheorems.{gain_says, gain_found, word_sound, word_complete}
use Rattle.formats.proofs.DifferLaws.{same_differs}
use Rattle.format_theorems.proofs.DistanceLaws.{value_nearer, value_only, beyond, within_half, unit_more, reaching_first, place_reaches, some_reaches, one_unit, one_apart}

-- ## The nearest value

-- it is one of the format's
code_nearest : (code : ℕ) (v : ℤ) → is_code code ≡ true → in_format (format_of code) (nearest_value code v) ≡ true
code_nearest code v k = nearest_in_lem (format_of code) (code_rounds code k) v

-- and so is the value of each word
code_word : (code n : ℕ) → is_code code ≡ true → is_word code n ≡ true → in_format (format_of code) (value_in code n) ≡ true
code_word code n k g = value_in_format (format_of code) (value_in code n) (word_in code n k g)

-- THEOREM. "each sample becomes the nearest value of the target code": the nearest value is that of a word of the code, and the word that
-- exact writing gives of it is such a word.
-- Rules out a nearest value that can't be written, so that number 14 would occur.
pub nearest_word : (code : ℕ) (v : ℤ) → is_code code ≡ true
    → (n : ℕ) × (word_of code (nearest_value code v) ≡ Word n) × (is_word code n ≡ true) × (value_in code n ≡ nearest_value code v)
nearest_word code v k =
    let w = word_complete code (nearest_value code v) k (code_nearest code v k) in
    let t = word_sound code (nearest_value code v) w.0 k w.1 in
    (w.0, w.1, t.0, t.1)

-- THEOREM. "Every other word of that code that has a value is at least as far away. Of two equally near, the one nearer zero is taken": a
-- word that is as near has the nearest value itself, or one strictly farther from zero.
-- Rules out rounding toward zero or downward, ties to even or away from zero, and anything but the end for a value beyond the range.
pub no_word_nearer : (code : ℕ) (v : ℤ) (n : ℕ) → is_code code ≡ true → is_word code n ≡ true
    → (distance v (nearest_value code v) ≤ distance v (value_in code n))
    × ((distance v (nearest_value code v) ≡ distance v (value_in code n)) → (value_in code n ≡ nearest_value code v) ⊎ (nat_abs (nearest_value code v) < nat_abs (value_in code n)))
no_word_nearer code v n k g = value_nearer (format_of code) (code_rounds code k) v (value_in code n) (code_word code n k g)

-- THEOREM. The two sentences, and that some word has it, determine the nearest value.
-- Rules out a second value that both sentences would allow.
pub nearest_only : (code : ℕ) (v w : ℤ) → is_code code ≡ true → NearestOf code v w → w ≡ nearest_value code v
nearest_only code v w k t =
    let a = nearest_word code v k in
    value_only (format_of code) (code_rounds code k) v w ((one_fit code w k).1 t.has)
    (subst (λ (z : ℤ). distance v w ≤ distance v z) a.3 (t.near a.0 a.2))
    (subst (λ (z : ℤ). distance v w ≡ distance v z → nat_abs w ≤ nat_abs z) a.3 (t.tie a.0 a.2))

-- THEOREM. So a value is the nearest one exactly when CR 5's sentences say so.
-- Rules out a definition of the nearest value that is none of CR 5's.
pub nearest_means : (code : ℕ) (v w : ℤ) → is_code code ≡ true → Iff (w ≡ nearest_value code v) (NearestOf code v w)
nearest_means code v w k = (λ e. subst (NearestOf code v) (sym e) there, nearest_only code v w k)
  where
    tied : {a b : ℤ} → (a ≡ b) ⊎ (nat_abs b < nat_abs a) → nat_abs b ≤ nat_abs a
    tied (inl e) = le_of_eq (ap nat_abs (sym e))
    tied (inr l) = omega arith

    there : NearestOf code v (nearest_value code v)
    there =
        let a = nearest_word code v k in
        record {
          has = record { word = a.0; good = a.2; value = a.3 };
          near = λ n g. (no_word_nearer code v n k g).0;
          tie = λ n g e. tied ((no_word_nearer code v n k g).1 e);
        }

-- zero's word is 0 under every code
word_of_zero : (code : ℕ) → Code code → word_of code (pos 0) ≡ Word 0
unfolding first
word_of_zero code ibm = refl
word_of_zero code whole32 = refl
word_of_zero code whole16 = refl
word_of_zero code gain = refl
word_of_zero code ieee = refl
word_of_zero code whole8 = refl

-- THEOREM. What becomes zero is written 00 throughout, also where it was negative.
-- Rules out minus zero, 80000000, under codes 1 and 5, and a zero with a characteristic or a gain, as 40000000 of code 1 and 00010000 of code
-- 4 are.
pub zero_word : (code : ℕ) (v : ℤ) → is_code code ≡ true → nearest_value code v ≡ pos 0 → word_of code (nearest_value code v) ≡ Word 0
zero_word code v k z = ap (word_of code) z ∙ word_of_zero code (code_is code k)

-- ## The range

-- THEOREM. Each end of the range is the value of a word,
-- Rules out an end that lies beyond the code's words, as an infinity does.
pub end_word : (code : ℕ) (s : Bool) → is_code code ≡ true → HasNumber code (sign_magnitude s (range_end (format_of code) s))
end_word code s k =
    let x = format_of code in
    let some = (code_rounds code k).some in
    (one_fit code (sign_magnitude s (range_end x s)) k).0
    (value_in_format x (sign_magnitude s (range_end x s))
    (record { sign = s; c = x.characteristics - 1; f = limit x s - 1; below = omega (arith, some); fits = omega (arith, pow_pos x.fraction); is = refl }))

-- THEOREM. and no word's value is beyond it.
-- Rules out an end before the last word.
pub word_inside : (code n : ℕ) → is_code code ≡ true → is_word code n ≡ true → Inside code (value_in code n)
word_inside code n k g =
    let x = format_of code in
    let r = code_rounds code k in
    under_end x r (is_negative (value_in code n)) (nat_abs (value_in code n)) (value_among x r (value_in code n) (code_word code n k g))

-- a value by ends of each sign: the ends enclose it,
above_least : (e : Bool → ℕ) (v : ℤ) → nat_abs v ≤ e (is_negative v) → sign_magnitude true (e true) ≤ℤ v
above_least e (pos a) h = go (e true)
  where
    go : (b : ℕ) → sign_magnitude true b ≤ℤ pos a
    go zero = record { le = le→leb 0 a (omega arith) }
    go (suc b) = record { le = tt }
above_least e (negsuc a) h = go (e true) h
  where
    go : (b : ℕ) → suc a ≤ b → sign_magnitude true b ≤ℤ negsuc a
    go zero l = absurd (none l)
      where
        none : suc a ≤ 0 → ⊥
        none l = omega arith
    go (suc b) l = record { le = le→leb a b (omega arith) }

below_greatest : (e : Bool → ℕ) (v : ℤ) → nat_abs v ≤ e (is_negative v) → v ≤ℤ sign_magnitude false (e false)
below_greatest e (pos a) h = record { le = le→leb a (e false) h }
below_greatest e (negsuc a) h = record { le = tt }

-- and a value between two that aren't beyond the ends isn't either
between_ends : (e : Bool → ℕ) (l v h : ℤ) → nat_abs l ≤ e (is_negative l) → nat_abs h ≤ e (is_negative h) → l ≤ℤ v → v ≤ℤ h → nat_abs v ≤ e (is_negative v)
between_ends e l (pos a) (pos b) i j p q = le_trans (leb→le a b q.le) j
between_ends e l (pos a) (negsuc b) i j p q = absurd q.le
between_ends e (pos b) (negsuc a) h i j p q = absurd p.le
between_ends e (negsuc b) (negsuc a) h i j p q = le_trans (let z : suc a ≤ suc b = omega (arith, leb→le a b p.le) in z) i

-- THEOREM. So v is inside the range exactly when some word's value is at most v and some word's value is at least v.
-- Rules out a range by another measure than the values of the code's words.
pub inside_means : (code : ℕ) (v : ℤ) → is_code code ≡ true
    → Iff (Inside code v) ((n k : ℕ) × (is_word code n ≡ true) × (is_word code k ≡ true) × (value_in code n ≤ℤ v) × (v ≤ℤ value_in code k))
inside_means code v c = (there, λ t. between_ends e (value_in code t.0) v (value_in code t.1) (word_inside code t.0 c t.2) (word_inside code t.1 c t.3) t.4 t.5)
  where
    e : Bool → ℕ
    e = range_end (format_of code)

    there : Inside code v → (n k : ℕ) × (is_word code n ≡ true) × (is_word code k ≡ true) × (value_in code n ≤ℤ v) × (v ≤ℤ value_in code k)
    there h =
        let a = end_word code true c in
        let b = end_word code false c in
        (a.word, b.word, a.good, b.good, subst (λ (w : ℤ). w ≤ℤ v) (sym a.value) (above_least e v h), subst (λ (w : ℤ). v ≤ℤ w) (sym b.value) (below_greatest e v h))

-- THEOREM. "for values beyond the range this is the end": where the value is at the end on its side, or beyond it.
-- Rules out wrapping around, an infinity, and zero for a value that is too large.
pub beyond_range : (code : ℕ) (v : ℤ) → range_end (format_of code) (is_negative v) ≤ nat_abs v → nearest_value code v ≡ sign_magnitude (is_negative v) (range_end (format_of code) (is_negative v))
beyond_range code v h = ap (sign_magnitude (is_negative v)) (beyond (format_of code) (is_negative v) (nat_abs v) h)

-- ## Halves

-- THEOREM. Inside the range twice the distance is at most the last place of the least characteristic that reaches the value.
-- Rules out rounding by a larger characteristic than needed.
pub half_reaching : (code : ℕ) (v : ℤ) → is_code code ≡ true → Inside code v → 2 * distance v (nearest_value code v) ≤ unit (format_of code) (reaching (format_of code) (nat_abs v))
half_reaching code v k i = within_half (format_of code) (code_rounds code k) v i

-- THEOREM. So beside each characteristic whose fractions reach the value, twice the distance is at most the last place there.
-- Rules out rounding by a larger characteristic than one that reaches the value; how the least is found has no part in it.
pub half_each : (code : ℕ) (v : ℤ) (c : ℕ) → is_code code ≡ true → Inside code v
    → nat_abs v < 2 ^ (format_of code).fraction * unit (format_of code) c → 2 * distance v (nearest_value code v) ≤ unit (format_of code) c
half_each code v c k i h =
    let x = format_of code in
    le_trans (half_reaching code v k i) (unit_more x (code_rounds code k) (reaching x (nat_abs v)) c (reaching_first x (nat_abs v) c h))

-- codes 2, 3 and 8 have one characteristic, whose last place is 1
record OneUnit (code : ℕ) : Type 0 where
  code_good : is_code code ≡ true
  one : (format_of code).characteristics ≡ 1
  whole : (format_of code).base ≡ denominator_power

one_of : (code : ℕ) → Among code whole_codes → OneUnit code
one_of code (inl e) = subst OneUnit (sym e) (record { code_good = refl; one = refl; whole = refl })
one_of code (inr (inl e)) = subst OneUnit (sym e) (record { code_good = refl; one = refl; whole = refl })
one_of code (inr (inr (inl e))) = subst OneUnit (sym e) (record { code_good = refl; one = refl; whole = refl })
one_of code (inr (inr (inr e))) = absurd e

-- THEOREM. "Inside the range the distance is at most a half for codes 2, 3 and 8".
-- Rules out dropping the part behind the point.
pub half_whole : (code : ℕ) (v : ℤ) → Among code whole_codes → Inside code v → 2 * distance v (nearest_value code v) ≤ 2 ^ denominator_power
half_whole code v a i =
    let o = one_of code a in
    let x = format_of code in
    le_trans (half_reaching code v o.code_good i) (le_of_eq (one_unit x (code_rounds code o.code_good) o.one (nat_abs v) ∙ ap (λ (b : ℕ). 2 ^ b) o.whole))

-- THEOREM. Code 4: at each gain g at which the value is below 32,768 / 2 ^ g in size, the distance is at most half of 1 / 2 ^ g.
-- Rules out rounding to whole numbers, or by a gain smaller than need be.
pub half_gain : (v : ℤ) (g : ℕ) → g ≤ 255 → Inside 4 v → nat_abs v < 2 ^ 15 * 2 ^ (denominator_power - g) → 2 * distance v (nearest_value 4 v) ≤ 2 ^ (denominator_power - g)
half_gain v g few i h =
    let e : denominator_power - g ≡ denominator_power - 255 + 1 * (255 - g) = omega (arith, few) in
    subst (λ (k : ℕ). 2 * distance v (nearest_value 4 v) ≤ 2 ^ k) (sym e) (half_each 4 v (255 - g) refl i (subst (λ (k : ℕ). nat_abs v < 2 ^ 15 * 2 ^ k) e h))

-- THEOREM. The last place of a word: a word's value is F, d, the significand or the whole number times its last place.
-- Rules out a last place by another measure than the word's own digits.
pub last_places : (n : ℕ) → (value_in 1 n ≡ sign_magnitude (sign_bit n) (fraction n * last_place 1 n)) × (value_in 4 n ≡ signed_of 16 (gain_number n) *ℤ pos (last_place 4 n))
    × (value_in 5 n ≡ sign_magnitude (ieee_sign 8 23 n) (significand 8 23 n * last_place 5 n))
    × (value_in 2 n ≡ signed_of 32 n *ℤ pos (last_place 2 n)) × (value_in 3 n ≡ signed_of 16 n *ℤ pos (last_place 3 n)) × (value_in 8 n ≡ signed_of 8 n *ℤ pos (last_place 8 n))
last_places n = (refl, refl, refl, refl, refl, refl)

-- THEOREM. The last place of a written zero of code 1 is that of C = 0, 16 ^ -70.
-- Rules out the last place of another C for 00000000, or none.
pub zero_place : last_place 1 0 ≡ 2 ^ (denominator_power - 280)
zero_place = refl

-- THEOREM. "and for code 1 half of the last fraction place of the written word": the word that exact writing gives of the nearest value. So
-- under all six codes, under code 4 by the last bit of d and under code 5 by that of the significand. For code 4 it is a weak bound, since the
-- written word has the smallest gain: `half_gain` is the sharp one.
-- Rules out rounding to fewer digits than the written word has.
pub half_place : (code : ℕ) (v : ℤ) (n : ℕ) → is_code code ≡ true → Inside code v → word_of code (nearest_value code v) ≡ Word n → 2 * distance v (nearest_value code v) ≤ last_place code n
half_place code v n k i e = le_trans (half_reaching code v k i) (go code (code_is code k) i e)
  where
    go : (code : ℕ) → Code code → Inside code v → word_of code (nearest_value code v) ≡ Word n → unit (format_of code) (reaching (format_of code) (nat_abs v)) ≤ last_place code n
    go code ibm i e =
        let size : nat_abs (nearest_value 1 v) ≡ fraction n * unit ibm_format (characteristic n) = ap nat_abs (sym (word_sound 1 (nearest_value 1 v) n refl e).1) ∙ abs_value n in
        unit_more ibm_format (code_rounds 1 refl) _ (characteristic n) (place_reaches ibm_format (code_rounds 1 refl) v i (characteristic n) (fraction n) (omega arith) size)
    go code whole32 i e = le_of_eq (one_unit (whole_format 32) (code_rounds 2 refl) refl (nat_abs v))
    go code whole16 i e = le_of_eq (one_unit (whole_format 16) (code_rounds 3 refl) refl (nat_abs v))
    go code whole8 i e = le_of_eq (one_unit (whole_format 8) (code_rounds 8 refl) refl (nat_abs v))
    go code gain i e =
        let w = nearest_value 4 v in
        let t = some_reaches gain_format (code_rounds 4 refl) v i in
        let c = t.0 in
        let b : c ≡ 255 - (255 - c) = omega (arith, t.2) in
        let l = gain_found w (255 - c) (subst (λ (z : ℕ). fits_at gain_format w z ≡ true) b t.3) in
        let g : gain_of n ≤ 255 - c = rw (gain_says w n e).1 l in
        pow_mono (let z : denominator_power - 255 + 1 * reaching gain_format (nat_abs v) ≤ denominator_power - gain_of n = omega (arith, g, t.1, t.2) in z)
    go code ieee i e =
        let x = ieee_format 8 23 in
        let c = ieee_exponent 8 23 n - 1 in
        let size : nat_abs (nearest_value 5 v) ≡ significand 8 23 n * unit x c =
        ap nat_abs (sym (word_sound 5 (nearest_value 5 v) n refl e).1) ∙ abs_signed (ieee_sign 8 23 n) (significand 8 23 n * 2 ^ ieee_power 8 23 n) ∙ ap (λ (k : ℕ). significand 8 23 n * 2 ^ k) (single_power n) in
        le_trans (unit_more x (code_rounds 5 refl) _ c (place_reaches x (code_rounds 5 refl) v i c (significand 8 23 n) (single_significand n) size)) (le_of_eq (ap (λ (k : ℕ). 2 ^ k) (sym (single_power n))))

-- ## Two values

-- THEOREM. "For codes 2, 3 and 8 two values come out no farther apart than they were, plus 1", inside the range or not.
-- Rules out rounding some values up and others down, as 0.9 to 0 and 1.1 to 2, and a value far inside the range that becomes the end.
pub no_farther_apart : (code : ℕ) (v w : ℤ) → Among code whole_codes → distance (nearest_value code v) (nearest_value code w) ≤ distance v w + 2 ^ denominator_power
no_farther_apart code v w a =
    let o = one_of code a in
    let x = format_of code in
    subst (λ (b : ℕ). distance (nearest_value code v) (nearest_value code w) ≤ distance v w + 2 ^ b) o.whole (one_apart x (code_rounds code o.code_good) o.one v w)

-- ## Values that change

-- THEOREM. The nearest value is its own nearest.
-- Rules out a reel that changes when it is written nearest a second time.
pub nearest_again : (code : ℕ) (v : ℤ) → is_code code ≡ true → nearest_value code (nearest_value code v) ≡ nearest_value code v
nearest_again code v k = nearest_self (format_of code) (code_rounds code k) (nearest_value code v) (code_nearest code v k)

-- THEOREM. "The answer counts the samples whose value changed": a sample counts 0 exactly when its nearest value is its value,
-- Rules out counting a sample whose word changes and whose value doesn't.
pub changes_same : (code : ℕ) (v : ℤ) → Iff (changes code v ≡ 0) (nearest_value code v ≡ v)
changes_same code v = let d = same_differs v (nearest_value code v) in (λ h. sym (d.0 h), λ h. d.1 (sym h))

-- THEOREM. and that is exactly when the value is one of the code's, so that exact writing takes it.
-- Rules out a count of 0 beside a value that the code doesn't have.
pub changes_none : (code : ℕ) (v : ℤ) → is_code code ≡ true → Iff (changes code v ≡ 0) (in_format (format_of code) v ≡ true)
changes_none code v k = (
  λ h. nearest_other (format_of code) (code_rounds code k) v ((changes_same code v).0 h),
  λ h. (changes_same code v).1 (nearest_self (format_of code) (code_rounds code k) v h),
)

-- THEOREM. It counts 0 or 1, so 1 for every other value.
-- Rules out a count by how far a value moves.
pub changes_one : (code : ℕ) (v : ℤ) → (changes code v ≡ 0) ⊎ (changes code v ≡ 1)
changes_one code v = go (eqb (distance v (nearest_value code v)) 0)
  where
    go : (b : Bool) → (◌≡◌ {A = ℕ} (pick b 0 1) 0) ⊎ (◌≡◌ {A = ℕ} (pick b 0 1) 1)
    go true = inl refl
    go false = inr refl
