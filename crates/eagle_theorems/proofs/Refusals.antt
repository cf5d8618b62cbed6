-- # Refusals of Eagle reels are exact
--
-- The table of the causes 1 to 8, 18 and 20 is `EagleTable`, in `specs/`. An Eagle reel is refused by a number with a place exactly when
-- that row of the table applies to it, and it has no cause exactly when no row does. Assumes nothing.
use mathlib.Core.Path.{◌≡◌, refl, sym, ap, ◌∙◌}
use mathlib.Core.List.{List}
use mathlib.Core.Bool.{not}
use Prim.Native.Nat.{ℕ, ◌+◌, ◌-◌, ◌*◌, ◌≤◌}
use native.Mathlib.Omega.{arith}
use lib.Dec.{ltb, eqb}
use lib.ListN.{length}
use Rattle.numbers.specs.Walk.{walk}
use Rattle.numbers.specs.Cause.{refuse_if, first_of}
use Rattle.numbers.specs.Cause.{Check}
use Rattle.numbers.specs.Cause.{Fine, Refused}
use Rattle.numbers.specs.Iff.{Iff}
use Rattle.numbers.specs.Terms.{at_place}
use Rattle.numbers.proofs.CauseLaws.{then_fine}
use Rattle.numbers.proofs.RowLaws.{Tests, then_row, then_first, then_second, fine_where, refused_where, holds_where, row_where, fine_then, refused_then, holds_then, row_then, no_row, test_same, test_room, not_enough, too_short, first_is, first_of_lem, fine_none}
use Rattle.formats.specs.Codes.{sample_bytes}
use Rattle.reel.specs.Layout.{elevation_scalar, coordinate_scalar, first_trace, number16, samples_of, interval_of, code_of, stride_in, stride_by, over_in}
use Rattle.reel.specs.Causes.{most_traces, limit_causes_by, size_causes, word_cause, trace_causes, trailer_cause, trace_causes_by, behind_causes_by, causes_by}
use Rattle.reel.specs.declared.Layout.TheVariants.{Eagle}
use Rattle.reel.proofs.CheckLaws.{none_bad}
use Rattle.reel_theorems.proofs.Refusals.{long_test, samples_test, interval_test, over_test_of, count_test_at, own_test_at, scalar_test_at}
use Rattle.eagle_theorems.specs.EagleTable.{eagle_length, eagle_at, eagle_count, trailer_end, Ends, EagleHeaded, EagleWhole, HeaderPassed, EaglePassed, EagleUntil, EagleRow, short_reel, bad_code, bad_samples, bad_interval, left_over, many, bad_115, bad_117, bad_69, bad_71, bad_trailer}

module _ (s : List ℕ) where
  abbrev n : ℕ
  n = samples_of s

  abbrev i : ℕ
  i = interval_of s

  -- ## Headers and size

  code_test : Tests (code_of s ≡ 1) 2 3224 (refuse_if (not (eqb (code_of s) 1)) 2 3224)
  code_test = test_same (code_of s) 1 2 3224

  over_test : 3600 ≤ length s
      → Tests (length s ≤ eagle_at s (eagle_count s)) 5 (eagle_at s (eagle_count s)) (refuse_if (ltb 0 (over_in (length s) (eagle_length s))) 5 (length s - over_in (length s) (eagle_length s)))
  over_test l = over_test_of (length s) (eagle_length s) l

  few_test : Tests (eagle_count s ≤ 100000) 6 (eagle_at s 100000) (refuse_if (ltb most_traces (eagle_count s)) 6 (first_trace + most_traces * eagle_length s))
  few_test = test_room 100000 (eagle_count s) 6 (eagle_at s 100000)

  -- 5 and 6, and what comes behind them, under code 1.
  abbrev sizes : Check
  sizes = size_causes (length s) (eagle_length s) (eagle_count s) (over_in (length s) (eagle_length s))

  abbrev behind : Check
  behind = behind_causes_by Eagle s 1 n i (eagle_length s)

  behind_is : code_of s ≡ 1 → behind_causes_by Eagle s (code_of s) n i (stride_by Eagle s) ≡ behind
  behind_is c = ap (λ (code : ℕ). behind_causes_by Eagle s code n i (stride_in Eagle n (sample_bytes code))) c

  -- Where 1 to 4 don't apply, the answer is that of the rest.
  from_headed : EagleHeaded s → {x : Check} → behind ≡ x → causes_by Eagle s ≡ x
  unfolding causes_by
  from_headed h e =
      fine_then (long_test s) h.long
      (then_second (limit_causes_by Eagle (code_of s) n i) _
      (fine_then code_test h.code (fine_then (samples_test s) h.samples (fine_then (interval_test s) h.interval refl)))
      (behind_is h.code ∙ e))

  -- And where they find nothing, they don't apply.
  to_headed : 3600 ≤ length s → limit_causes_by Eagle (code_of s) n i ≡ Fine → EagleHeaded s
  to_headed l e =
      let a = holds_then code_test _ e in
      let b = holds_then (samples_test s) _ a.1 in
      let c = holds_then (interval_test s) _ b.1 in
      record { long = l; code = a.0; samples = b.0; interval = c.0 }

  -- Where 1 to 6 find nothing, they don't apply.
  to_whole : EagleHeaded s → sizes ≡ Fine → EagleWhole s
  to_whole h e =
      let a = holds_then (over_test h.long) _ e in
      let b = holds_then few_test _ a.1 in
      record { headed = h; whole = a.0; few = b.0 }

  -- ## Traces

  -- The first cause of 7, 8, 18 and 20 of the trace at a place, and that of 7, 8 and 18.
  abbrev causes_at : ℕ → Check
  causes_at = trace_causes_by Eagle s 1 n i

  abbrev head_at : ℕ → Check
  head_at = trace_causes s 1 n i

  trailer_test : (k : ℕ) → Tests (Ends s k) 20 (trailer_end s k) (trailer_cause s (eagle_at s k + (240 + n * 4)))
  trailer_test k = test_same (number16 s (trailer_end s k)) 0xFFFF 20 (trailer_end s k)

  -- under code 1 no word is refused
  no_word : (at : ℕ) → first_of (walk (word_cause s 1) 4 n at) ≡ Fine
  no_word at = none_bad s 1 (λ q. omega (arith, q)) (λ q. omega (arith, q)) 4 n at

  -- Where none of them applies to a trace, it has no cause.
  from_header : (k : ℕ) → HeaderPassed s k → head_at (eagle_at s k) ≡ Fine
  unfolding trace_causes
  from_header k h =
      let at = eagle_at s k in
      fine_then (count_test_at s at) h.own.count
      (fine_then (own_test_at s at) h.own.interval
      (fine_then (scalar_test_at s at elevation_scalar) h.elevations
      (fine_then (scalar_test_at s at coordinate_scalar) h.coordinates (no_word (at + 240)))))

  from_passed : (k : ℕ) → EaglePassed s k → causes_at (eagle_at s k) ≡ Fine
  from_passed k h = then_second (head_at (eagle_at s k)) _ (from_header k h.header) (fine_where (trailer_test k) h.trailer)

  -- And where it has no cause, none of them applies.
  to_header_passed : (k : ℕ) → head_at (eagle_at s k) ≡ Fine → HeaderPassed s k
  unfolding trace_causes
  to_header_passed k e =
      let at = eagle_at s k in
      let a = holds_then (count_test_at s at) _ e in
      let b = holds_then (own_test_at s at) _ a.1 in
      let c = holds_then (scalar_test_at s at elevation_scalar) _ b.1 in
      let d = holds_then (scalar_test_at s at coordinate_scalar) _ c.1 in
      record { own = record { count = a.0; interval = b.0 }; elevations = c.0; coordinates = d.0 }

  to_passed : (k : ℕ) → causes_at (eagle_at s k) ≡ Fine → EaglePassed s k
  to_passed k e =
      let a = then_fine (head_at (eagle_at s k)) _ e in
      record { header = to_header_passed k a.0; trailer = holds_where (trailer_test k) a.1 }

  -- ## From the rows to the causes

  -- What 5 or 6 refuses is refused.
  from_size : EagleHeaded s → {m p : ℕ} → sizes ≡ Refused m (at_place p) → causes_by Eagle s ≡ Refused m (at_place p)
  unfolding behind_causes_by
  from_size h e = from_headed h (then_first sizes _ e)

  -- A trace's cause is that of the reel, where none applies before it.
  from_trace : (k : ℕ) → EagleUntil s k → {m p : ℕ} → causes_at (eagle_at s k) ≡ Refused m (at_place p) → causes_by Eagle s ≡ Refused m (at_place p)
  unfolding behind_causes_by
  from_trace k h {m} {p} e =
      let w = h.reel in
      from_headed w.headed
      (then_second sizes _
      (fine_then (over_test w.headed.long) w.whole (fine_then few_test w.few refl))
      (first_of_lem causes_at (eagle_length s) (eagle_count s) first_trace m p (record { j = k; below = h.trace; before = λ j l. from_passed j (h.before j l); here = e })))

  -- So is a cause of its header.
  from_head : (k : ℕ) → EagleUntil s k → {m p : ℕ} → head_at (eagle_at s k) ≡ Refused m (at_place p) → causes_by Eagle s ≡ Refused m (at_place p)
  from_head k h e = from_trace k h (then_first (head_at (eagle_at s k)) _ e)

  -- Each row is the answer where it applies: all that comes before it finds nothing, and its own test refuses.
  from_row : {m p : ℕ} → EagleRow s m p → causes_by Eagle s ≡ Refused m (at_place p)
  unfolding causes_by trace_causes
  from_row (short_reel h) = refused_then (long_test s) _ (too_short (length s) 3600 h)
  from_row (bad_code l h) = fine_then (long_test s) l (then_first _ _ (refused_then code_test _ h))
  from_row (bad_samples l c h) = fine_then (long_test s) l (then_first _ _ (fine_then code_test c (refused_then (samples_test s) _ h)))
  from_row (bad_interval l c m h) =
      fine_then (long_test s) l (then_first _ _ (fine_then code_test c (fine_then (samples_test s) m (refused_then (interval_test s) _ h))))
  from_row (left_over h o) = from_size h (refused_then (over_test h.long) _ (too_short (eagle_at s (eagle_count s)) (length s) o))
  from_row (many h w o) = from_size h (fine_then (over_test h.long) w (refused_then few_test _ (too_short 100000 (eagle_count s) o)))
  from_row (bad_115 k u h) = from_head k u (refused_then (count_test_at s (eagle_at s k)) _ h)
  from_row (bad_117 k u c h) = from_head k u (fine_then (count_test_at s (eagle_at s k)) c (refused_then (own_test_at s (eagle_at s k)) _ h))
  from_row (bad_69 k u o h) =
      from_head k u
      (fine_then (count_test_at s (eagle_at s k)) o.count
      (fine_then (own_test_at s (eagle_at s k)) o.interval (refused_then (scalar_test_at s (eagle_at s k) elevation_scalar) _ h)))
  from_row (bad_71 k u o e h) =
      from_head k u
      (fine_then (count_test_at s (eagle_at s k)) o.count
      (fine_then (own_test_at s (eagle_at s k)) o.interval
      (fine_then (scalar_test_at s (eagle_at s k) elevation_scalar) e (refused_then (scalar_test_at s (eagle_at s k) coordinate_scalar) _ h))))
  from_row (bad_trailer k u o h) = from_trace k u (then_second (head_at (eagle_at s k)) _ (from_header k o) (refused_where (trailer_test k) h))

  -- ## From the causes to the rows

  module _ {m p : ℕ} where
    -- What 2 to 4 refuse has its row.
    to_header : 3600 ≤ length s → limit_causes_by Eagle (code_of s) n i ≡ Refused m (at_place p) → EagleRow s m p
    to_header l =
        row_then code_test (EagleRow s) (bad_code l)
        (λ c. row_then (samples_test s) (EagleRow s) (bad_samples l c) (λ q. row_then (interval_test s) (EagleRow s) (bad_interval l c q) (λ r. no_row (EagleRow s))))

    -- What 5 or 6 refuses has its row.
    to_size : EagleHeaded s → sizes ≡ Refused m (at_place p) → EagleRow s m p
    to_size h =
        row_then (over_test h.long) (EagleRow s) (λ q. left_over h (not_enough (eagle_at s (eagle_count s)) (length s) q))
        (λ w. row_then few_test (EagleRow s) (λ q. many h w (not_enough 100000 (eagle_count s) q)) (λ f. no_row (EagleRow s)))

    -- What is refused in the header of trace k has its row, where nothing applies before it,
    to_head : (k : ℕ) → EagleUntil s k → head_at (eagle_at s k) ≡ Refused m (at_place p) → EagleRow s m p
    unfolding trace_causes
    to_head k u =
        let at = eagle_at s k in
        row_then (count_test_at s at) (EagleRow s) (bad_115 k u)
        (λ c. row_then (own_test_at s at) (EagleRow s) (bad_117 k u c)
        (λ q. row_then (scalar_test_at s at elevation_scalar) (EagleRow s) (bad_69 k u (record { count = c; interval = q }))
        (λ e. row_then (scalar_test_at s at coordinate_scalar) (EagleRow s) (bad_71 k u (record { count = c; interval = q }) e)
        (λ d r. no_row (EagleRow s) (sym (no_word (at + 240)) ∙ r)))))

    -- and so has what is refused in the trace.
    to_trace : (k : ℕ) → EagleUntil s k → causes_at (eagle_at s k) ≡ Refused m (at_place p) → EagleRow s m p
    to_trace k u =
        then_row (EagleRow s) (head_at (eagle_at s k)) _ (to_head k u)
        (λ e. row_where (trailer_test k) (EagleRow s) (bad_trailer k u (to_header_passed k e)))

    -- What is refused has its row: the first that applies.
    to_row : causes_by Eagle s ≡ Refused m (at_place p) → EagleRow s m p
    unfolding causes_by behind_causes_by
    to_row =
        row_then (long_test s) (EagleRow s) (λ q. short_reel (not_enough (length s) 3600 q))
        (λ l. then_row (EagleRow s) (limit_causes_by Eagle (code_of s) n i) _ (to_header l)
        (λ q y. let h = to_headed l q in
        then_row (EagleRow s) sizes _ (to_size h)
        (λ z x. let r = first_is causes_at (eagle_length s) (eagle_count s) first_trace m p x in
        to_trace r.j (record { reel = to_whole h z; trace = r.below; before = λ j o. to_passed j (r.before j o) }) r.here)
        (sym (behind_is h.code) ∙ y)))

-- THEOREM. An Eagle reel has a cause of 1 to 8, 18 and 20, with what stands beside it, exactly when that row of the table applies.
pub exact_eagle_causes : (s : List ℕ) (number place : ℕ) → Iff (causes_by Eagle s ≡ Refused number (at_place place)) (EagleRow s number place)
exact_eagle_causes s number place = (to_row s, from_row s)

-- THEOREM. No cause of 1 to 8, 18 and 20 applies to an Eagle reel exactly when no row of the table does.
pub no_eagle_cause : (s : List ℕ) → Iff (causes_by Eagle s ≡ Fine) ((number place : ℕ) → ¬ (EagleRow s number place))
no_eagle_cause s = fine_none (EagleRow s) (causes_by Eagle s) (exact_eagle_causes s)
