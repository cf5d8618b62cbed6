-- # Refusals are exact
--
-- The table of the causes 1 to 9, 18 and 19 is `ReelTable`, in `specs/`. A reel is refused by a number with a place exactly when that row of the table
-- applies to it, and it has no cause exactly when no row does. Assumes nothing.
use mathlib.Core.Path.{◌≡◌, refl, sym, ap, ◌∙◌, subst}
use mathlib.Core.List.{List, [], ◌∷◌}
use mathlib.Core.Logic.{◌⊎◌, inl, inr}
use mathlib.Core.Bool.{Bool, true, false, not}
use Prim.Native.Nat.{ℕ, ◌+◌, ◌-◌, ◌*◌, ◌^◌, ◌≤◌, ◌<◌}
use native.Mathlib.Nat.{div-add-mod'}
use native.Mathlib.Omega.{arith}
use borrow.Author.Tests.{lt-ltb, ltb-true, ltb-false, eqb-true, eqb-false, ne_eqb, not-true, not-false}
use lib.Dec.{T, ltb, eqb}
use lib.IntN.{nat_abs}
use lib.ListN.{length, get_or}
use Rattle.numbers.specs.Walk.{walk, bytes_at}
use Rattle.numbers.specs.Cause.{refuse_if, first_of}
use Rattle.numbers.specs.Places.{byte_place}
use Rattle.numbers.specs.Cause.{Check}
use Rattle.numbers.specs.Cause.{Fine, Refused}
use Rattle.numbers.specs.Iff.{Iff}
use Rattle.numbers.specs.Terms.{Bytes, at_place, Between, ZeroOr}
use Rattle.numbers.proofs.RowLaws.{Tests, test_by, then_row, then_first, then_second, fine_then, refused_then, holds_then, row_then, no_row, test_between, test_either, test_room, not_enough, too_short, first_is, first_of_lem, walk_fine, walk_holds, walk_refused, walk_row, fine_none}
use Rattle.numbers.specs.BigEndian.{number}
use Rattle.formats.specs.Codes.{is_code, sample_bytes, word_length}
use Rattle.formats.specs.Value.{is_finite, is_bad, word_number}
use Rattle.formats.proofs.CodeLaws.{word_there}
use Rattle.sample.specs.Reading.{bad_number}
use Rattle.numbers.proofs.BoolLaws.{among_is, is_among_lem}
use Rattle.numbers.proofs.ByteLaws.{byte_at_lem}
use Rattle.numbers.proofs.WalkLaws.{four_bytes}
use Rattle.scalars.specs.Scalar.{is_allowed}
use Rattle.reel.specs.Layout.{Field, elevation_scalar, coordinate_scalar, field_number, first_trace, trace_header, number16, samples_of, interval_of, code_of, stride_of, whole_in, over_in, traces_of}
use Rattle.reel.specs.Causes.{most_samples, most_traces, most_interval, within, neither, limit_causes, size_causes, scalar_cause, word_cause, trace_causes, behind_causes_by, behind_causes, causes_by, causes_of}
use Rattle.reel_theorems.specs.ReelTable.{trace_at, sample_at, word_at, ZeroFirst, FiniteAt, Headed, Whole, OwnNumbers, AllowedAt, Allowed, Passed, Until, ReelRow, short_reel, bad_code, bad_samples, bad_interval, left_over, many, bad_115, bad_117, bad_69, bad_71, bad_gain, not_finite}

-- ## Headers and size

-- A number that is a code.
pub test_code : (code number place : ℕ) → Tests (is_code code ≡ true) number place (refuse_if (not (is_code code)) number place)
test_code code number place = test_by (is_code code ≡ true) (is_code code) number place (λ e. e) (λ e. e)

-- The bytes behind the last whole trace of w bytes.
pub over_test_of : (size w : ℕ) → 3600 ≤ size
    → Tests (size ≤ 3600 + whole_in size w * w) 5 (3600 + whole_in size w * w) (refuse_if (ltb 0 (over_in size w)) 5 (size - over_in size w))
over_test_of size w l = go (ltb 0 (over_in size w)) refl
  where
    all : whole_in size w * w + over_in size w ≡ size - 3600
    all = div-add-mod' (size - 3600) w

    at : size - over_in size w ≡ 3600 + whole_in size w * w
    at = omega (arith, all, l)

    go : (b : Bool) → ltb 0 (over_in size w) ≡ b → Tests (size ≤ 3600 + whole_in size w * w) 5 (3600 + whole_in size w * w) (refuse_if b 5 (size - over_in size w))
    go true e =
        let h = ltb-true 0 (over_in size w) e in
        rw at (inr (too_short (3600 + whole_in size w * w) size (omega (arith, all, l, h)), refl))
    go false e = let h = ltb-false 0 (over_in size w) e in inl (omega (arith, all, l, h), refl)

module _ (s : List ℕ) where
  -- The tests of 1 to 6.
  pub long_test : Tests (3600 ≤ length s) 1 (length s) (refuse_if (ltb (length s) first_trace) 1 (length s))
  long_test = test_room (length s) 3600 1 (length s)

  code_test : Tests (is_code (code_of s) ≡ true) 2 3224 (refuse_if (not (is_code (code_of s))) 2 3224)
  code_test = test_code (code_of s) 2 3224

  pub samples_test : Tests (Between 1 32767 (samples_of s)) 3 3220 (refuse_if (not (within 1 most_samples (samples_of s))) 3 3220)
  samples_test = test_between 1 32767 (samples_of s) 3 3220

  pub interval_test : Tests (Between 1 32767 (interval_of s)) 4 3216 (refuse_if (not (within 1 most_interval (interval_of s))) 4 3216)
  interval_test = test_between 1 32767 (interval_of s) 4 3216

  -- The bytes behind the last whole trace.
  abbrev over : ℕ
  over = over_in (length s) (stride_of s)

  over_test : 3600 ≤ length s
      → Tests (length s ≤ trace_at s (traces_of s)) 5 (trace_at s (traces_of s)) (refuse_if (ltb 0 over) 5 (length s - over))
  over_test l = over_test_of (length s) (stride_of s) l

  few_test : Tests (traces_of s ≤ 100000) 6 (trace_at s 100000) (refuse_if (ltb most_traces (traces_of s)) 6 (first_trace + most_traces * stride_of s))
  few_test = test_room 100000 (traces_of s) 6 (trace_at s 100000)

  -- Where 1 to 4 don't apply, the answer is that of the rest.
  from_headed : Headed s → {x : Check} → behind_causes s (code_of s) (samples_of s) (interval_of s) (stride_of s) ≡ x → causes_of s ≡ x
  unfolding causes_by
  from_headed h e =
      fine_then long_test h.long
      (then_second (limit_causes (code_of s) (samples_of s) (interval_of s)) _
      (fine_then code_test h.code (fine_then samples_test h.samples (fine_then interval_test h.interval refl)))
      e)

  -- And where they find nothing, they don't apply.
  to_headed : 3600 ≤ length s → limit_causes (code_of s) (samples_of s) (interval_of s) ≡ Fine → Headed s
  to_headed l e =
      let a = holds_then code_test _ e in
      let b = holds_then samples_test _ a.1 in
      let c = holds_then interval_test _ b.1 in
      record { long = l; code = a.0; samples = b.0; interval = c.0 }

  -- 5 and 6 against the reel.
  abbrev sizes : Check
  sizes = size_causes (length s) (stride_of s) (traces_of s) over

  -- Where 1 to 6 find nothing, they don't apply.
  to_whole : Headed s → sizes ≡ Fine → Whole s
  to_whole h e =
      let a = holds_then (over_test h.long) _ e in
      let b = holds_then few_test _ a.1 in
      record { headed = h; whole = a.0; few = b.0 }

-- ## Traces

-- The first cause of 7, 8, 18, 9 and 19 of the trace at a place.
abbrev causes_at : List ℕ → ℕ → Check
causes_at s at = trace_causes s (code_of s) (samples_of s) (interval_of s) at

-- A word at a place has a value: it begins with 00 under code 4, and is finite under code 5.
record Valued (s : List ℕ) (code at : ℕ) : Type 0 where
  zero : code ≡ 4 → ZeroFirst s at
  finite : code ≡ 5 → FiniteAt s at

test_word : (s : List ℕ) (code at : ℕ) → Tests (Valued s code at) (bad_number code) at (word_cause s code at)
test_word s code at = go (is_bad code (word_number code (bytes_at s at word_length))) refl
  where
    four : (k : ℕ) → code ≡ k → sample_bytes k ≡ 4 → word_number code (bytes_at s at word_length) ≡ word_at s at
    four k e h = word_there s code at ∙ ap (λ (m : ℕ). number (bytes_at s at m)) (ap sample_bytes e ∙ h)

    -- under each code, what is bad
    gain_bad : code ≡ 4 → is_bad code (word_number code (bytes_at s at word_length)) ≡ not (ltb (word_at s at) (2 ^ 24))
    gain_bad e = ap (is_bad code) (four 4 e refl) ∙ rw e

    ieee_bad : code ≡ 5 → is_bad code (word_number code (bytes_at s at word_length)) ≡ not (is_finite 8 23 (word_at s at))
    ieee_bad e = ap (is_bad code) (four 5 e refl) ∙ rw e

    other_bad : (code ≡ 4 → ⊥) → (code ≡ 5 → ⊥) → is_bad code (word_number code (bytes_at s at word_length)) ≡ false
    other_bad p q = rw (ne_eqb code 4 p, ne_eqb code 5 q)

    go : (b : Bool) → is_bad code (word_number code (bytes_at s at word_length)) ≡ b → Tests (Valued s code at) (bad_number code) at (refuse_if b (bad_number code) at)
    go false h =
        inl (record { zero = λ e. ltb-true _ _ (not-false _ (sym (gain_bad e) ∙ h)); finite = λ e. not-false _ (sym (ieee_bad e) ∙ h) }, refl)
    go true h = inr (none (eqb code 4) (eqb code 5) refl refl, refl)
      where
        none : (a b : Bool) → eqb code 4 ≡ a → eqb code 5 ≡ b → ¬ (Valued s code at)
        none true b p q v = let e = eqb-true code 4 p in subst T (sym (lt-ltb _ _ (v.zero e)) ∙ not-true _ (sym (gain_bad e) ∙ h)) tt
        none false true p q v = let e = eqb-true code 5 q in subst T (sym (v.finite e) ∙ not-true _ (sym (ieee_bad e) ∙ h)) tt
        none false false p q v = subst T (sym h ∙ other_bad (eqb-false code 4 p) (eqb-false code 5 q)) tt

-- Where it has none, the code is 4 or 5.
bad_code_is : (s : List ℕ) (code at : ℕ) → ¬ (Valued s code at) → (code ≡ 4) ⊎ (code ≡ 5)
bad_code_is s code at h = go (eqb code 4) (eqb code 5) refl refl
  where
    go : (a b : Bool) → eqb code 4 ≡ a → eqb code 5 ≡ b → (code ≡ 4) ⊎ (code ≡ 5)
    go true b p q = inl (eqb-true code 4 p)
    go false true p q = inr (eqb-true code 5 q)
    go false false p q = absurd (h (record { zero = λ e. absurd (eqb-false code 4 p e); finite = λ e. absurd (eqb-false code 5 q e) }))

-- Under each of them, what it has not.
gain_valued : (s : List ℕ) (code at : ℕ) → code ≡ 4 → ZeroFirst s at → Valued s code at
gain_valued s code at e h = record { zero = λ c. h; finite = λ c. absurd (let z : ◌≡◌ {A = ℕ} 4 5 = sym e ∙ c in omega arith) }

ieee_valued : (s : List ℕ) (code at : ℕ) → code ≡ 5 → FiniteAt s at → Valued s code at
ieee_valued s code at e h = record { zero = λ c. absurd (let z : ◌≡◌ {A = ℕ} 5 4 = sym e ∙ c in omega arith); finite = λ c. h }

-- A gain word's first byte is 00 exactly where its number is below 2 ^ 24.
front : (f g h l : ℕ) → g < 256 → h < 256 → l < 256 → Iff (number (f ∷ g ∷ h ∷ l ∷ []) < 2 ^ 24) (f ≡ 0)
front f g h l a b c = (λ p. omega (arith, a, b, c, p), λ e. omega (arith, a, b, c, e))

-- THEOREM. "first byte of a gain word not 00" (document 01): of a slice's bytes, the number of the word at a place is below 2 ^ 24 exactly when
-- the first of its four bytes is 00.
pub zero_first : (s : List ℕ) (at : ℕ) → Bytes s → Iff (ZeroFirst s at) (get_or s at 0 ≡ 0)
zero_first s at b =
    let f = front (get_or s at 0) (get_or s (at + 1) 0) (get_or s (at + 2) 0) (get_or s (at + 3) 0) (byte_at_lem s b (at + 1)) (byte_at_lem s b (at + 2)) (byte_at_lem s b (at + 3)) in
    (λ p. f.0 (subst (λ (n : ℕ). n < 2 ^ 24) (ap number (four_bytes s at)) p), λ e. subst (λ (n : ℕ). n < 2 ^ 24) (sym (ap number (four_bytes s at))) (f.1 e))

-- The tests of 7, 8 and 18 of the trace at a place.
module _ (s : List ℕ) (at : ℕ) where
  pub count_test_at : Tests (ZeroOr (samples_of s) (number16 s (at + 114))) 7 (at + 114) (refuse_if (neither (number16 s (at + 114)) (samples_of s)) 7 (at + 114))
  count_test_at = test_either (samples_of s) (number16 s (at + 114)) 7 (at + 114)

  pub own_test_at : Tests (ZeroOr (interval_of s) (number16 s (at + 116))) 8 (at + 116) (refuse_if (neither (number16 s (at + 116)) (interval_of s)) 8 (at + 116))
  own_test_at = test_either (interval_of s) (number16 s (at + 116)) 8 (at + 116)

  pub scalar_test_at : (f : Field) → Tests (AllowedAt s at f) 18 (byte_place at f.begins) (scalar_cause s at f)
  scalar_test_at f =
      let n = nat_abs (field_number s at f) in
      let ms : List ℕ = 0 ∷ 1 ∷ 10 ∷ 100 ∷ 1000 ∷ 10000 ∷ [] in
      test_by (AllowedAt s at f) (is_allowed (field_number s at f)) 18 (byte_place at f.begins) (among_is n ms) (is_among_lem n ms)

module _ (s : List ℕ) (k : ℕ) where
  -- The same of trace k.
  count_test : Tests (ZeroOr (samples_of s) (number16 s (trace_at s k + 114))) 7 (trace_at s k + 114) (refuse_if (neither (number16 s (trace_at s k + 114)) (samples_of s)) 7 (trace_at s k + 114))
  count_test = count_test_at s (trace_at s k)

  own_test : Tests (ZeroOr (interval_of s) (number16 s (trace_at s k + 116))) 8 (trace_at s k + 116) (refuse_if (neither (number16 s (trace_at s k + 116)) (interval_of s)) 8 (trace_at s k + 116))
  own_test = own_test_at s (trace_at s k)

  scalar_test : (f : Field) → Tests (Allowed s k f) 18 (byte_place (trace_at s k) f.begins) (scalar_cause s (trace_at s k) f)
  scalar_test = scalar_test_at s (trace_at s k)

  -- Behind a trace header that is right, the answer is that of its words.
  behind_head : OwnNumbers s k → Allowed s k elevation_scalar → Allowed s k coordinate_scalar → {x : Check}
      → first_of (walk (word_cause s (code_of s)) (sample_bytes (code_of s)) (samples_of s) (trace_at s k + trace_header)) ≡ x → causes_at s (trace_at s k) ≡ x
  unfolding trace_causes
  behind_head o e c q = fine_then count_test o.count (fine_then own_test o.interval (fine_then (scalar_test elevation_scalar) e (fine_then (scalar_test coordinate_scalar) c q)))

  -- Each of its words.
  abbrev valued : ℕ → Type 0
  valued j = Valued s (code_of s) (sample_at s k j)

  word_tests : (j : ℕ) → j < samples_of s → Tests (valued j) (bad_number (code_of s)) (sample_at s k j) (word_cause s (code_of s) (sample_at s k j))
  word_tests j l = test_word s (code_of s) (sample_at s k j)

  -- Where none of them applies to a trace, it has no cause.
  from_passed : Passed s k → causes_at s (trace_at s k) ≡ Fine
  from_passed h =
      behind_head h.own h.elevations h.coordinates
      (walk_fine valued (bad_number (code_of s)) (word_cause s (code_of s)) (sample_bytes (code_of s)) (samples_of s) (trace_at s k + trace_header) (sample_at s k) word_tests (λ j l. let v = h.words j l in record { zero = v.zero; finite = v.finite }))

  -- And where it has no cause, none of them applies.
  to_passed : causes_at s (trace_at s k) ≡ Fine → Passed s k
  unfolding trace_causes
  to_passed e =
      let a = holds_then count_test _ e in
      let b = holds_then own_test _ a.1 in
      let c = holds_then (scalar_test elevation_scalar) _ b.1 in
      let d = holds_then (scalar_test coordinate_scalar) _ c.1 in
      record {
        own = record { count = a.0; interval = b.0 };
        elevations = c.0;
        coordinates = d.0;
        words = λ j l. let v = walk_holds valued (bad_number (code_of s)) (word_cause s (code_of s)) (sample_bytes (code_of s)) (samples_of s) (trace_at s k + trace_header) (sample_at s k) word_tests d.1 j l in record { zero = v.zero; finite = v.finite };
      }

-- ## From the rows to the causes

module _ (s : List ℕ) where
  -- What 5 or 6 refuses is refused.
  from_size : Headed s → {n p : ℕ} → sizes s ≡ Refused n (at_place p) → causes_of s ≡ Refused n (at_place p)
  unfolding behind_causes_by
  from_size h e = from_headed s h (then_first (sizes s) _ e)

  -- A trace's cause is that of the reel, where none applies before it.
  from_trace : (k : ℕ) → Until s k → {n p : ℕ} → causes_at s (trace_at s k) ≡ Refused n (at_place p) → causes_of s ≡ Refused n (at_place p)
  unfolding behind_causes_by
  from_trace k h {n} {p} e =
      let w = h.reel in
      from_headed s w.headed
      (then_second (sizes s) _
      (fine_then (over_test s w.headed.long) w.whole (fine_then (few_test s) w.few refl))
      (first_of_lem (causes_at s) (stride_of s) (traces_of s) first_trace n p (record { j = k; below = h.trace; before = λ i l. from_passed s i (h.before i l); here = e })))

  -- A word without a value is the cause of its trace, where the words before it have one.
  from_word : (k j : ℕ) → Until s k → OwnNumbers s k → Allowed s k elevation_scalar → Allowed s k coordinate_scalar → j < samples_of s → ((i : ℕ) → i < j → valued s k i) → ¬ (valued s k j)
      → causes_of s ≡ Refused (bad_number (code_of s)) (at_place (sample_at s k j))
  from_word k j u o e c l b h =
      from_trace k u
      (behind_head s k o e c
      (walk_refused (valued s k) (bad_number (code_of s)) (word_cause s (code_of s)) (sample_bytes (code_of s)) (samples_of s) (trace_at s k + trace_header) (sample_at s k) (word_tests s k) j l b h))

  -- Each row is the answer where it applies: all that comes before it finds nothing, and its own test refuses.
  from_row : {n p : ℕ} → ReelRow s n p → causes_of s ≡ Refused n (at_place p)
  unfolding causes_by trace_causes
  from_row (short_reel h) = refused_then (long_test s) _ (too_short (length s) 3600 h)
  from_row (bad_code l h) = fine_then (long_test s) l (then_first _ _ (refused_then (code_test s) _ h))
  from_row (bad_samples l c h) = fine_then (long_test s) l (then_first _ _ (fine_then (code_test s) c (refused_then (samples_test s) _ h)))
  from_row (bad_interval l c n h) =
      fine_then (long_test s) l (then_first _ _ (fine_then (code_test s) c (fine_then (samples_test s) n (refused_then (interval_test s) _ h))))
  from_row (left_over h o) = from_size h (refused_then (over_test s h.long) _ (too_short (trace_at s (traces_of s)) (length s) o))
  from_row (many h w o) = from_size h (fine_then (over_test s h.long) w (refused_then (few_test s) _ (too_short 100000 (traces_of s) o)))
  from_row (bad_115 k u h) = from_trace k u (refused_then (count_test s k) _ h)
  from_row (bad_117 k u c h) = from_trace k u (fine_then (count_test s k) c (refused_then (own_test s k) _ h))
  from_row (bad_69 k u o h) = from_trace k u (fine_then (count_test s k) o.count (fine_then (own_test s k) o.interval (refused_then (scalar_test s k elevation_scalar) _ h)))
  from_row (bad_71 k u o e h) =
      from_trace k u
      (fine_then (count_test s k) o.count
      (fine_then (own_test s k) o.interval
      (fine_then (scalar_test s k elevation_scalar) e (refused_then (scalar_test s k coordinate_scalar) _ h))))
  from_row (bad_gain k j u o e c g l b h) =
      subst (λ (x : ℕ). causes_of s ≡ Refused x (at_place (sample_at s k j))) (ap bad_number g)
      (from_word k j u o e c l (λ y m. gain_valued s (code_of s) (sample_at s k y) g (b y m)) (λ q. h (q.zero g)))
  from_row (not_finite k j u o e c g l b h) =
      subst (λ (x : ℕ). causes_of s ≡ Refused x (at_place (sample_at s k j))) (ap bad_number g)
      (from_word k j u o e c l (λ y m. ieee_valued s (code_of s) (sample_at s k y) g (b y m)) (λ q. h (q.finite g)))

-- ## From the causes to the rows

module _ (s : List ℕ) where
  -- A word without a value has its row, by the code.
  to_word : (k j : ℕ) → Until s k → OwnNumbers s k → Allowed s k elevation_scalar → Allowed s k coordinate_scalar → j < samples_of s → ((i : ℕ) → i < j → valued s k i) → ¬ (valued s k j)
      → (code_of s ≡ 4) ⊎ (code_of s ≡ 5) → ReelRow s (bad_number (code_of s)) (sample_at s k j)
  to_word k j u o e c l b h (inl g) =
      subst (λ (x : ℕ). ReelRow s x (sample_at s k j)) (sym (ap bad_number g))
      (bad_gain k j u o e c g l (λ i m. (b i m).zero g) (λ z. h (gain_valued s (code_of s) (sample_at s k j) g z)))
  to_word k j u o e c l b h (inr g) =
      subst (λ (x : ℕ). ReelRow s x (sample_at s k j)) (sym (ap bad_number g))
      (not_finite k j u o e c g l (λ i m. (b i m).finite g) (λ z. h (ieee_valued s (code_of s) (sample_at s k j) g z)))

module _ (s : List ℕ) {n p : ℕ} where
  -- What 2 to 4 refuse has its row.
  to_header : 3600 ≤ length s → limit_causes (code_of s) (samples_of s) (interval_of s) ≡ Refused n (at_place p) → ReelRow s n p
  to_header l =
      row_then (code_test s) (ReelRow s) (bad_code l)
      (λ c. row_then (samples_test s) (ReelRow s) (bad_samples l c) (λ m. row_then (interval_test s) (ReelRow s) (bad_interval l c m) (λ i. no_row (ReelRow s))))

  -- What 5 or 6 refuses has its row.
  to_size : Headed s → sizes s ≡ Refused n (at_place p) → ReelRow s n p
  to_size h =
      row_then (over_test s h.long) (ReelRow s) (λ m. left_over h (not_enough (trace_at s (traces_of s)) (length s) m))
      (λ w. row_then (few_test s) (ReelRow s) (λ m. many h w (not_enough 100000 (traces_of s) m)) (λ f. no_row (ReelRow s)))

  -- What is refused in trace k has its row, where nothing applies before it.
  to_trace : (k : ℕ) → Until s k → causes_at s (trace_at s k) ≡ Refused n (at_place p) → ReelRow s n p
  unfolding trace_causes
  to_trace k u =
      row_then (count_test s k) (ReelRow s) (bad_115 k u)
      (λ c. row_then (own_test s k) (ReelRow s) (bad_117 k u c)
      (λ q. row_then (scalar_test s k elevation_scalar) (ReelRow s) (bad_69 k u (record { count = c; interval = q }))
      (λ e. row_then (scalar_test s k coordinate_scalar) (ReelRow s) (bad_71 k u (record { count = c; interval = q }) e)
      (λ d. walk_row (valued s k) (bad_number (code_of s)) (word_cause s (code_of s)) (sample_bytes (code_of s)) (samples_of s) (trace_at s k + trace_header) (sample_at s k) (word_tests s k) (ReelRow s)
      (λ j l b h. to_word s k j u (record { count = c; interval = q }) e d l b h (bad_code_is s (code_of s) (sample_at s k j) h))))))

  -- What is refused has its row: the first that applies.
  to_row : causes_of s ≡ Refused n (at_place p) → ReelRow s n p
  unfolding causes_by behind_causes_by
  to_row =
      row_then (long_test s) (ReelRow s) (λ m. short_reel (not_enough (length s) 3600 m))
      (λ l. then_row (ReelRow s) (limit_causes (code_of s) (samples_of s) (interval_of s)) _ (to_header l)
      (λ q. let h = to_headed s l q in
      then_row (ReelRow s) (sizes s) _ (to_size h)
      (λ z y. let r = first_is (causes_at s) (stride_of s) (traces_of s) first_trace n p y in
      to_trace r.j (record { reel = to_whole s h z; trace = r.below; before = λ i m. to_passed s i (r.before i m) }) r.here)))

-- THEOREM. A reel has a cause of 1 to 9, 18 and 19, with what stands beside it, exactly when that row of the table applies.
pub exact_causes : (s : List ℕ) (number place : ℕ) → Iff (causes_of s ≡ Refused number (at_place place)) (ReelRow s number place)
exact_causes s number place = (to_row s, from_row s)

-- THEOREM. No cause of 1 to 9, 18 and 19 applies to a reel exactly when no row of the table does.
pub no_cause : (s : List ℕ) → Iff (causes_of s ≡ Fine) ((number place : ℕ) → ¬ (ReelRow s number place))
no_cause s = fine_none (ReelRow s) (causes_of s) (exact_causes s)
