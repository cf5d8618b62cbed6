-- # What a pair says
--
-- `Bytes` says that each byte of a list is a number below 256.
use mathlib.Core.Path.{◌≡◌, refl, sym, ap, ap₂, ◌∙◌}
use mathlib.Core.Bool.{Bool, true, false, ◌&&◌}
use mathlib.Core.Logic.{⊎_elim}
use mathlib.Core.List.{List, ◌++◌}
use Prim.Native.Nat.{ℕ, zero, suc, ◌+◌, ◌-◌, ◌*◌, ◌%◌, ◌^◌, ◌≤◌, ◌<◌}
use native.Mathlib.Nat.{mul-le-mul_left, mul-le-mul_right, mul-one, one-mul, lt_of_le_of_lt, lt_of_lt_of_le, le_of_eq, zero-mul, zero-lt-suc, mul_assoc, not-le_of_lt}
use native.Mathlib.Omega.{arith}
use borrow.Author.Tests.{eqb-true, leb-true, le-leb}
use lib.Dec.{leb, eqb}
use lib.Pow.{pow_pos, pow_mono, pow-add, shl_lt}
use lib.Count.{count_trailing_zeros}
use lib.IntN.{ℤ, pos, negsuc, neg_ℤ, nat_abs, sub_ℕ, ◌+ℤ◌, ◌*ℤ◌, +ℤ-neg_ℤ_cancel}
use lib.Signed.{mag}
use lib.ListN.{length, drop, length-drop, take-append-drop}
use lib.Seq.{take_all}
use Rattle.numbers.specs.Terms.{Bytes}
use Rattle.numbers.specs.Iff.{Iff}
use Rattle.numbers.specs.Walk.{pick, bytes_at}
use Rattle.numbers.specs.BigEndian.{number, bytes_of}
use Rattle.numbers.specs.TwosComplement.{signed_of, bits_of}
use Rattle.numbers.proofs.WalkLaws.{bytes_part}
use Rattle.numbers.proofs.BoolLaws.{and_true}
use Rattle.numbers.proofs.ByteLaws.{number_bytes_lem, number_at_lem, bytes_again}
use Rattle.numbers.proofs.SignLaws.{below_or, sub_below, sub_above, abs_zero, signed_bits, bits_signed, bits_lt, mag_signed}
use Rattle.formats.specs.Codes.{denominator_power, is_code}
use Rattle.formats.specs.Value.{sign_bit, characteristic, fraction, whole_value, gain_of, gain_number, ieee_sign, ieee_exponent, ieee_fraction, significand, ieee_power, is_bad, word_number, exact_value}
use Rattle.numbers.specs.SignMagnitude.{sign_magnitude, is_negative}
use Rattle.value.specs.Pair.{highest_exponent, mantissa_bits, pair_of, value_of, is_exponent, is_canonical, pair_bytes, pair_in}
use Rattle.value.specs.declared.Pair.{Pair}
use Rattle.value.proofs.Twos.{odd_pos, split}
use Rattle.numbers.proofs.Magnitudes.{abs_signed, signed_mul, signed_back, signed_word}
use Rattle.value.proofs.Pairs.{pair_at, value_pair}
use Rattle.value.proofs.Apart.{highest, shifted, odd_yes}
use Rattle.formats.proofs.CodeLaws.{Code, ibm, whole32, whole16, gain, ieee, whole8, code_is}
use Rattle.sample.specs.Reading.{pair_taken, bad_number, read_word}
use Rattle.sample.specs.Reading.{Taken, Refused}

-- ## A canonical pair and its value determine each other

-- THEOREM. The pair of a value has that value.
pub pair_value : (v : ℤ) → value_of (pair_of v) ≡ v
pair_value = value_pair

unshift : (e : ℤ) (k : ℕ) → e +ℤ pos denominator_power ≡ pos k → e ≡ sub_ℕ k denominator_power
unshift e k h = sym (+ℤ-neg_ℤ_cancel e (pos denominator_power)) ∙ ap (λ (z : ℤ). z +ℤ neg_ℤ (pos denominator_power)) h

eta : (p : Pair) (e m : ℤ) → p.e ≡ e → p.m ≡ m → p ≡ record { e = e; m = m }
eta p e m h l = rw (sym h, sym l)

-- THEOREM. A canonical pair is the pair of its value.
pub value_pair_back : (p : Pair) → is_canonical p ≡ true → pair_of (value_of p) ≡ p
value_pair_back p h = go (eqb (nat_abs p.e) 0 && eqb (nat_abs p.m) 0) refl
  where
    go : (b : Bool) → (eqb (nat_abs p.e) 0 && eqb (nat_abs p.m) 0) ≡ b → pair_of (value_of p) ≡ p
    go true q =
        let z = and_true (eqb (nat_abs p.e) 0) _ q in
        let e0 = abs_zero p.e (eqb-true (nat_abs p.e) 0 z.0) in
        let m0 = abs_zero p.m (eqb-true (nat_abs p.m) 0 z.1) in
        let v : value_of p ≡ pos 0 = rw (m0, e0) in
        rw v (sym (eta p (pos 0) (pos 0) e0 m0))
    go false q =
        let a = nat_abs p.m in
        let r = and_true (is_exponent p.e) _ (rw q at h) in
        let d = and_true (leb a (2 ^ (mantissa_bits - 1) - 1)) _ r.1 in
        let k = shifted p.e r.0 in
        let v : value_of p ≡ sign_magnitude (is_negative p.m) (a * 2 ^ k.0) =
        ap₂ (λ (x y : ℤ). x *ℤ pos (2 ^ nat_abs y)) (sym (signed_back p.m)) k.1.is ∙ signed_mul (is_negative p.m) a (2 ^ k.0) in
        rw (v, pair_at (is_negative p.m) a k.0 (eqb-true (a % 2) 1 d.1)) (sym (eta p _ _ (unshift p.e k.0 k.1.is) (sym (signed_back p.m))))

-- THEOREM. Two canonical pairs are the same exactly when their values are.
pub pairs_by_value : (p q : Pair) → is_canonical p ≡ true → is_canonical q ≡ true → Iff (p ≡ q) (value_of p ≡ value_of q)
pairs_by_value p q h l = (λ e. ap value_of e, λ e. sym (value_pair_back p h) ∙ ap pair_of e ∙ value_pair_back q l)

-- ## Six bytes

mag_abs : (z : ℤ) (n : ℕ) → nat_abs z ≤ n → mag z ≤ n
mag_abs (pos k) n h = h
mag_abs (negsuc k) n h = omega arith

-- a canonical pair's numbers fit their bytes
record Fit (p : Pair) : Type 0 where
  e : mag p.e < 2 ^ 15
  m : mag p.m < 2 ^ (mantissa_bits - 1)

exponent_mag : (e : ℤ) → is_exponent e ≡ true → mag e < 2 ^ 15
exponent_mag (pos n) h = let l = leb-true n highest_exponent h in omega arith
exponent_mag (negsuc n) h =
    let l = leb-true n (denominator_power - 1) (and_true (leb n (denominator_power - 1)) true h).0 in
    omega arith

fit : (p : Pair) → is_canonical p ≡ true → Fit p
fit p h = go (eqb (nat_abs p.e) 0 && eqb (nat_abs p.m) 0) refl
  where
    go : (b : Bool) → (eqb (nat_abs p.e) 0 && eqb (nat_abs p.m) 0) ≡ b → Fit p
    go true q =
        let z = and_true (eqb (nat_abs p.e) 0) _ q in
        let x = mag_abs p.e 0 (le_of_eq (eqb-true (nat_abs p.e) 0 z.0)) in
        let y = mag_abs p.m 0 (le_of_eq (eqb-true (nat_abs p.m) 0 z.1)) in
        record { e = omega arith; m = omega arith }
    go false q =
        let r = and_true (is_exponent p.e) _ (rw q at h) in
        let d = and_true (leb (nat_abs p.m) (2 ^ (mantissa_bits - 1) - 1)) _ r.1 in
        let y = mag_abs p.m (2 ^ (mantissa_bits - 1) - 1) (leb-true _ _ d.0) in
        record { e = exponent_mag p.e r.0; m = omega arith }

-- THEOREM. The pair of a canonical pair's six bytes is that pair.
pub bytes_pair : (p : Pair) → is_canonical p ≡ true → pair_in (pair_bytes p.e p.m) ≡ p
unfolding bytes_at
bytes_pair p h =
    let f = fit p h in
    let x = ap (signed_of 16) (number_bytes_lem 2 (bits_of 16 p.e) (bits_lt 16 p.e (omega arith) f.e)) ∙ signed_bits 16 p.e (omega arith) f.e in
    let y = ap (signed_of mantissa_bits) (number_bytes_lem 4 (bits_of mantissa_bits p.m) (bits_lt mantissa_bits p.m (omega arith) f.m)) ∙ signed_bits mantissa_bits p.m (omega arith) f.m in
    sym (eta p _ _ (sym x) (sym y))

-- THEOREM. And the bytes of the pair of six bytes are those bytes, whether or not it is canonical: so no two lists of six bytes give one
-- pair.
pub pair_bytes_lem : (b : List ℕ) → length b ≡ 6 → Bytes b → pair_bytes (pair_in b).e (pair_in b).m ≡ b
pair_bytes_lem b n h =
    let x = bits_signed 16 (number (bytes_at b 0 2)) (omega arith) (number_at_lem b h 0 2) in
    let y = bits_signed mantissa_bits (number (bytes_at b 2 4)) (omega arith) (number_at_lem b h 2 4) in
    let t : length (drop 2 b) ≤ 4 = simp length-drop (omega arith) in
    let front = ap (bytes_of 2) x ∙ bytes_again b h 0 2 ∙ sym (bytes_part b 0 2 (omega arith)) in
    let back = ap (bytes_of 4) y ∙ bytes_again b h 2 4 ∙ sym (bytes_part b 2 4 (omega arith)) ∙ take_all 4 (drop 2 b) t in
    ap₂ (λ (k l : List ℕ). k ++ l) front back ∙ take-append-drop 2 b

-- ## Reading

-- a number within the mantissa's limit times a power of two that stays within the highest exponent has a canonical pair
exponent_in : (t : ℕ) → t ≤ highest → is_exponent (sub_ℕ t denominator_power) ≡ true
exponent_in t h =
    ⊎_elim (λ (l : t < denominator_power). rw (sub_below t denominator_power l, le-leb (denominator_power - suc t) (denominator_power - 1) (omega arith)))
    (λ (l : denominator_power ≤ t). rw (sub_above t denominator_power l) (le-leb (t - denominator_power) highest_exponent (omega arith))) (below_or t denominator_power)

canon_of : (s : Bool) (o t : ℕ) → o % 2 ≡ 1 → o < 2 ^ (mantissa_bits - 1) → t ≤ highest → is_canonical (pair_of (sign_magnitude s (o * 2 ^ t))) ≡ true
canon_of s o t e l h =
    rw (pair_at s o t e)
    (odd_yes (record { e = sub_ℕ t denominator_power; m = sign_magnitude s o }) (rw (abs_signed s o) e) (rw (abs_signed s o) (omega arith)) (exponent_in t h))

grow : (x n : ℕ) → x ≤ x * 2 ^ n
grow x n = rw mul-one at (mul-le-mul_left x (pow_pos n))

canon_times : (s : Bool) (a k : ℕ) → a ≤ 2 ^ (mantissa_bits - 1) → a * 2 ^ k < 2 ^ suc highest → is_canonical (pair_of (sign_magnitude s (a * 2 ^ k))) ≡ true
canon_times s zero k l h = rw (zero-mul (2 ^ k)) (nil s)
  where
    nil : (s : Bool) → is_canonical (pair_of (sign_magnitude s 0)) ≡ true
    nil false = refl
    nil true = refl
canon_times s (suc n) k l h =
    let a = suc n in
    let d = split mantissa_bits a (zero-lt-suc n) (omega arith) in
    let t = count_trailing_zeros mantissa_bits a in
    let whole : a * 2 ^ k ≡ d.o * 2 ^ (t + k) =
    ap (λ (x : ℕ). x * 2 ^ k) d.is ∙ mul_assoc d.o (2 ^ t) (2 ^ k) ∙ ap (λ (x : ℕ). d.o * x) (sym (pow-add 2 t k)) in
    let small : d.o < 2 ^ (mantissa_bits - 1) = below d.o d.odd (omega (arith, d.is, grow d.o t)) in
    let low : t + k ≤ highest = ⊎_elim (λ (p : t + k < suc highest). omega arith) (λ (p : suc highest ≤ t + k). absurd (no d.o (t + k) d.odd p (rw whole at h))) (below_or (t + k) (suc highest)) in
    rw whole (canon_of s d.o (t + k) d.odd small low)
  where
    below : (o : ℕ) → o % 2 ≡ 1 → o ≤ 2 ^ (mantissa_bits - 1) → o < 2 ^ (mantissa_bits - 1)
    below o e h = omega arith

    no : (o j : ℕ) → o % 2 ≡ 1 → suc highest ≤ j → o * 2 ^ j < 2 ^ suc highest → ⊥
    no o j e p h = not-le_of_lt (lt_of_le_of_lt (rw one-mul at (mul-le-mul_right (2 ^ j) (odd_pos o e))) h) (pow_mono p)

-- a two's complement number of w bits times a power of two of at most the denominator's
canon_whole : (w n k : ℕ) → n < 2 ^ w → nat_abs (signed_of w n) ≤ 2 ^ (mantissa_bits - 1) → k ≤ denominator_power → is_canonical (pair_of (signed_of w n *ℤ pos (2 ^ k))) ≡ true
canon_whole w n k b l h =
    let s = leb (2 ^ (w - 1)) n in
    let a = nat_abs (signed_of w n) in
    rw (signed_word w n b, signed_mul s a (2 ^ k)) (canon_times s a k l (lt_of_lt_of_le (shl_lt mantissa_bits k (omega arith)) (pow_mono {j = suc highest} (omega arith))))

abs_most : (w n : ℕ) → 0 < w → n < 2 ^ w → nat_abs (signed_of w n) ≤ 2 ^ (w - 1)
abs_most w n h b = let m = mag_signed w n h b in above (signed_of w n) m
  where
    above : (z : ℤ) → mag z < 2 ^ (w - 1) → nat_abs z ≤ 2 ^ (w - 1)
    above (pos k) l = omega arith
    above (negsuc k) l = omega arith

-- a magnitude of so many bits times a power of two that leaves room for them
canon_below : (s : Bool) (a k p : ℕ) → a < 2 ^ p → p ≤ mantissa_bits - 1 → p + k ≤ suc highest → is_canonical (pair_of (sign_magnitude s (a * 2 ^ k))) ≡ true
canon_below s a k p h l m = canon_times s a k (omega (arith, h, pow_mono l)) (lt_of_lt_of_le (shl_lt p k h) (pow_mono m))

-- The pair of a word's value is canonical.
pub value_canonical : (code : ℕ) (w : List ℕ) → is_code code ≡ true → Bytes w → is_canonical (pair_of (exact_value code w)) ≡ true
value_canonical code w i h = go code (code_is code i)
  where
    whole : (b k : ℕ) → k * 8 ≡ b → 0 < k → b ≤ mantissa_bits → number (bytes_at w 0 k) < 2 ^ b → is_canonical (pair_of (whole_value (signed_of b (number (bytes_at w 0 k))))) ≡ true
    whole b k e p l m =
        let n = number (bytes_at w 0 k) in
        let most : 2 ^ (b - 1) ≤ 2 ^ (mantissa_bits - 1) = pow_mono (let z : b - 1 ≤ mantissa_bits - 1 = omega arith in z) in
        canon_whole b n denominator_power m (omega (arith, most, abs_most b n (omega (arith, e, p)) m)) (omega arith)

    go : (code : ℕ) → Code code → is_canonical (pair_of (exact_value code w)) ≡ true
    go code ibm =
        let n = number (bytes_at w 0 4) in
        let c : characteristic n < 128 = omega arith in
        canon_below (sign_bit n) (fraction n) (denominator_power - (4 * 64 + 24) + 4 * characteristic n) 24 (omega arith) (omega arith) (omega (arith, c))
    go code whole32 = whole 32 4 refl (omega arith) (omega arith) (number_at_lem w h 0 4)
    go code whole16 = whole 16 2 refl (omega arith) (omega arith) (number_at_lem w h 0 2)
    go code gain =
        let n = number (bytes_at w 0 4) in
        let d = gain_number n in
        let l : d < 2 ^ 16 = omega arith in
        canon_whole 16 d (denominator_power - gain_of n) l (omega (arith, abs_most 16 d (omega arith) l)) (omega arith)
    go code ieee =
        let n = number (bytes_at w 0 4) in
        let e : ieee_exponent 8 23 n < 256 = omega arith in
        let t : ieee_fraction 23 n < 2 ^ 23 = omega arith in
        canon_below (ieee_sign 8 23 n) (significand 8 23 n) (ieee_power 8 23 n) 24 (few (eqb (ieee_exponent 8 23 n) 0) (ieee_fraction 23 n) t) (omega arith) (low (eqb (ieee_exponent 8 23 n) 0) (ieee_exponent 8 23 n) e)
      where
        few : (b : Bool) (t : ℕ) → t < 2 ^ 23 → pick b t (2 ^ 23 + t) < 2 ^ 24
        few true t h = omega arith
        few false t h = omega arith

        low : (b : Bool) (e : ℕ) → e < 256 → 24 + (denominator_power + pick b 1 e - (127 + 23)) ≤ suc highest
        low true e h = omega arith
        low false e h = omega arith
    go code whole8 = whole 8 1 refl (omega arith) (omega arith) (number_at_lem w h 0 1)

-- a word that is read was one of a code's
pub taken_code : (code : ℕ) (w : List ℕ) (e m : ℤ) → read_word code w ≡ Taken e m → is_code code ≡ true
taken_code code w e m h = go (is_code code) refl h
  where
    go : (b : Bool) → is_code code ≡ b → pick b (pick (is_bad code (word_number code w)) (Refused (bad_number code)) (pair_taken (exact_value code w))) (Refused 2) ≡ Taken e m → is_code code ≡ true
    go true x q = x
    go false x q = absurd (let z : ◌≡◌ {A = ℕ} 0 1 = cc in omega arith)

-- and had a value
pub taken_good : (code : ℕ) (w : List ℕ) (e m : ℤ) → read_word code w ≡ Taken e m → is_bad code (word_number code w) ≡ false
taken_good code w e m h = go (is_code code) (is_bad code (word_number code w)) refl h
  where
    go : (b t : Bool) → is_bad code (word_number code w) ≡ t → pick b (pick t (Refused (bad_number code)) (pair_taken (exact_value code w))) (Refused 2) ≡ Taken e m → is_bad code (word_number code w) ≡ false
    go true true x q = absurd (let z : ◌≡◌ {A = ℕ} 0 1 = cc in omega arith)
    go true false x q = x
    go false t x q = absurd (let z : ◌≡◌ {A = ℕ} 0 1 = cc in omega arith)

-- and gives the pair of its value
taken_is : (code : ℕ) (w : List ℕ) (e m : ℤ) → read_word code w ≡ Taken e m → record { e = e; m = m } ≡ pair_of (exact_value code w)
taken_is code w e m h = go (is_code code) (is_bad code (word_number code w)) h
  where
    v : ℤ
    v = exact_value code w

    go : (b t : Bool) → pick b (pick t (Refused (bad_number code)) (pair_taken v)) (Refused 2) ≡ Taken e m → record { e = e; m = m } ≡ pair_of v
    go true true q = absurd (let z : ◌≡◌ {A = ℕ} 0 1 = cc in omega arith)
    go true false q =
        let x : (pair_of v).e ≡ e = cc in
        let y : (pair_of v).m ≡ m = cc in
        sym (eta (pair_of v) e m x y)
    go false t q = absurd (let z : ◌≡◌ {A = ℕ} 0 1 = cc in omega arith)

-- THEOREM. The pair that reading gives has exactly the word's value V, under each code.
pub reading_value : (code : ℕ) (w : List ℕ) (e m : ℤ) → read_word code w ≡ Taken e m → value_of (record { e = e; m = m }) ≡ exact_value code w
reading_value code w e m h = ap value_of (taken_is code w e m h) ∙ pair_value (exact_value code w)

-- THEOREM. The pair that reading gives is canonical.
pub reading_canonical : (code : ℕ) (w : List ℕ) (e m : ℤ) → Bytes w → read_word code w ≡ Taken e m → is_canonical (record { e = e; m = m }) ≡ true
reading_canonical code w e m b h = ap is_canonical (taken_is code w e m h) ∙ value_canonical code w (taken_code code w e m h) b

-- THEOREM. Document 01: "The four codes share one fact about pairs, shown for all of them", and so do the six. Two words, each under any code, give the same
-- pair exactly when their values are equal.
pub reading_same : (c₁ c₂ : ℕ) (w₁ w₂ : List ℕ) (e₁ m₁ e₂ m₂ : ℤ) → read_word c₁ w₁ ≡ Taken e₁ m₁ → read_word c₂ w₂ ≡ Taken e₂ m₂
    → Iff ((e₁ ≡ e₂) × (m₁ ≡ m₂)) (exact_value c₁ w₁ ≡ exact_value c₂ w₂)
reading_same c₁ c₂ w₁ w₂ e₁ m₁ e₂ m₂ h l = (there, back)
  where
    there : (e₁ ≡ e₂) × (m₁ ≡ m₂) → exact_value c₁ w₁ ≡ exact_value c₂ w₂
    there q = sym (reading_value c₁ w₁ e₁ m₁ h) ∙ ap₂ (λ (x y : ℤ). value_of (record { e = x; m = y })) q.0 q.1 ∙ reading_value c₂ w₂ e₂ m₂ l

    back : exact_value c₁ w₁ ≡ exact_value c₂ w₂ → (e₁ ≡ e₂) × (m₁ ≡ m₂)
    back q =
        let x = taken_is c₁ w₁ e₁ m₁ h ∙ ap pair_of q ∙ sym (taken_is c₂ w₂ e₂ m₂ l) in
        (ap (λ (p : Pair). p.e) x, ap (λ (p : Pair). p.m) x)

-- THEOREM. Reading refuses no word under a code but a gain word whose first byte isn't 00, and an infinity or a not-a-number.
pub reading_takes : (code : ℕ) (w : List ℕ) → is_code code ≡ true → is_bad code (word_number code w) ≡ false
    → read_word code w ≡ Taken (pair_of (exact_value code w)).e (pair_of (exact_value code w)).m
reading_takes code w h l = rw (h, l)
