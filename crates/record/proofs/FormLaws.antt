-- What the checks of a record find, and what follows where they find nothing. Assumes nothing.
use mathlib.Core.Path.{◌≡◌, refl, sym, ap, ◌∙◌, subst}
use mathlib.Core.List.{List}
use mathlib.Core.Bool.{Bool, true, false, not, ◌&&◌}
use Prim.Native.Nat.{ℕ, zero, suc, ◌+◌, ◌-◌, ◌*◌, ◌≤◌, ◌<◌, min}
use native.Mathlib.Nat.{add-zero, zero-add, zero-mul, suc-mul}
use native.Mathlib.Numerals.{add-one}
use native.Mathlib.Omega.{arith}
use Rattle.std.proofs.Common.{Option, None, Some}
use borrow.Author.Tests.{leb-true, eqb-true, ltb-false, ltb-true, not-true, not-false, lt-ltb}
use lib.Dec.{T, leb, ltb, eqb}
use lib.ListN.{length, get_or, get_or-eq_default}
use Rattle.numbers.specs.Walk.{pick, walk, bytes_at}
use Rattle.numbers.specs.Places.{byte_place}
use Rattle.numbers.specs.BigEndian.{number}
use Rattle.numbers.specs.Cause.{refuse_if, then, first_of}
use Rattle.numbers.specs.declared.Place.{Place}
use Rattle.numbers.specs.Cause.{Check}
use Rattle.numbers.specs.Cause.{Fine, Refused}
use Rattle.numbers.proofs.CauseLaws.{then_assoc, passed, then_fine}
use Rattle.numbers.proofs.BoolLaws.{and_true}
use Rattle.cards.specs.Cards.{no_zero}
use Rattle.fields.specs.Fields.{each, run_from, fields_in, field_count, field_place, pair_place, fields_length, in_fields}
use Rattle.fields.proofs.FieldsLaws.{by_fields, length_none, length_more, fields_one, fields_more as needs-more, in_none, in_next, pairs_in_fields, rises}
use Rattle.fields.proofs.EachLaws.{each_is, flat_fine, run_most}
use Rattle.reel.specs.Layout.{number16}
use Rattle.reel.specs.Causes.{most_samples, most_traces, most_interval, within}
use Rattle.reel.proofs.CheckLaws.{both_true, in_limits}
use Rattle.headers.specs.Header.{smallest_causes}
use Rattle.record.specs.Kind.{Kind, tag04}
use Rattle.record.specs.Record.{field_samples, trace_length_in}
use Rattle.record.specs.Form.{is_field, field_cause, card_cause, cards_causes, held_samples, held_interval, binary_causes, traces_place, header_causes, end_causes, pair_cause_in, field_form_in, is_earlier_in, share_in, samples_causes_in, trace_form_in, held_stride_in, behind_trace_in, trace_place_in, is_trace_in, held_count_in, body_causes_in, held_count, form_causes_in, form_causes, record_found, numbers_in}
use Rattle.record.specs.Judged as judged
use Rattle.record.specs.Held.{earlier_count_in}
use Rattle.record.specs.Parts.{pairs_by, field_by, fields_by, trace_by, form_from}

-- ## Fields

-- a field that stands whole ends within the record
pub field_room : (s : List ℕ) (tag size at : ℕ) → field_cause s tag size at ≡ Fine → at + (3 + size) ≤ length s
field_room s tag size at e =
    leb-true (at + (3 + size)) (length s) (both_true (leb (at + (3 + size)) (length s)) (eqb (get_or s at 0) tag && eqb (number16 s (at + 1)) size) (passed (not (is_field s tag size at)) 12 at e)).0

-- past the end of a record two bytes are read as 0
pub nothing_there : (s : List ℕ) (p : ℕ) → length s ≤ p → number16 s p ≡ 0
unfolding bytes_at
nothing_there s p h = rw (get_or-eq_default s 0 {n = p} h, get_or-eq_default s 0 {n = p + 1} (omega arith))

-- ## Cards

-- where no byte is 00, none is refused
pub cards_fine : (s : List ℕ) (k at : ℕ) → no_zero (bytes_at s at k) ≡ true → first_of (walk (card_cause s) 1 k at) ≡ Fine
unfolding bytes_at
cards_fine s zero at e = refl
cards_fine s (suc k) at e =
    let b = and_true (not (eqb (get_or s at 0) 0)) (no_zero (walk (λ a. get_or s a 0) 1 k (at + 1))) e in
    rw (not-true (eqb (get_or s at 0) 0) b.0) (cards_fine s k (at + 1) b.1)

-- ## Samples

-- a field has some samples: the earlier form is that of more than 6,000
pub share_some : (k : Kind) (s : List ℕ) (n at : ℕ) → 0 < share_in k s n at
share_some k s n at = go (ltb field_samples n) refl (leb n k.earlier) (eqb (number16 s (at + 1)) (n * k.width))
  where
    go : (a : Bool) → ltb field_samples n ≡ a → (b c : Bool) → 0 < pick ((a && b) && c) n field_samples
    go true e true true = let l = ltb-true field_samples n e in omega arith
    go true e true false = omega arith
    go true e false c = omega arith
    go false e b c = omega arith

-- and at most 8,000
pub share_high : (s : List ℕ) (n at : ℕ) → share_in tag04 s n at ≤ 8000
share_high s n at = go (leb n 8000) refl (ltb field_samples n) (eqb (number16 s (at + 1)) (n * 6))
  where
    go : (b : Bool) → leb n 8000 ≡ b → (a c : Bool) → pick ((a && b) && c) n field_samples ≤ 8000
    go true e true true = leb-true n 8000 e
    go true e true false = omega arith
    go true e false c = omega arith
    go false e true c = omega arith
    go false e false c = omega arith

-- samples in which nothing is found end within the record
pub samples_room : (k : Kind) (s : List ℕ) (c : ℕ) → 0 < c → (n at : ℕ) → first_of (in_fields (field_form_in k s) k.width c n at) ≡ Fine → at ≤ length s
    → at + fields_length k.width c n ≤ length s
unfolding field_form_in
samples_room k s c some =
    by_fields c some (λ n. (at : ℕ) → first_of (in_fields (field_form_in k s) k.width c n at) ≡ Fine → at ≤ length s → at + fields_length k.width c n ≤ length s)
    (λ n h at e l. omega (arith, length_none c some k.width n h))
    (λ n h rest at e l.
    let next = at + (3 + min c n * k.width) in
    let t = then_fine (field_form_in k s (min c n) at) _ (sym (ap first_of (in_next c some k.width (field_form_in k s) n at h)) ∙ e) in
    let room = field_room s k.tag (min c n * k.width) at (then_fine (field_cause s k.tag (min c n * k.width) at) _ t.0).0 in
    let r = rest next t.1 room in
    omega (arith, length_more c some k.width n h))

-- each of their pairs is canonical
pub pairs_fine : (k : Kind) (s : List ℕ) (n at : ℕ) → samples_causes_in k s n at ≡ Fine → (j : ℕ) → j < n → pair_cause_in k s (pair_place k.width (share_in k s n at) at j) ≡ Fine
unfolding samples_causes_in in_fields field_form_in
pairs_fine k s n at e =
    let c = share_in k s n at in
    let one = each_is (λ f. field_form_in k s (field_count c n f) (field_place k.width c at f)) (fields_in c n) e in
    each_is (λ j. pair_cause_in k s (pair_place k.width c at j)) n
    (ap first_of (pairs_in_fields c (share_some k s n at) k.width (pair_cause_in k s) n at)
    ∙ flat_fine (λ f. walk (pair_cause_in k s) k.width (field_count c n f) (field_place k.width c at f + 3)) (fields_in c n)
    (λ f l. (then_fine (field_cause s k.tag (field_count c n f * k.width) (field_place k.width c at f)) _ (one f l)).1))

-- the samples of a trace, a field at a time, whatever the target
module _ (target : Option ℕ) (s : List ℕ) where
  pub fields_none : (c : ℕ) → 0 < c → (n at : ℕ) → n ≤ 0 → fields_by target s c n at ≡ Fine
  unfolding fields_by
  fields_none c some n at h = ap first_of (in_none c some 6 (field_by target s) n at h)

  pub fields_more : (c : ℕ) → 0 < c → (n at : ℕ) → 0 < n
      → fields_by target s c n at ≡ then (field_by target s (min c n) at) (fields_by target s c (n - c) (at + (3 + min c n * 6)))
  unfolding fields_by
  fields_more c some n at h = ap first_of (in_next c some 6 (field_by target s) n at h)

  -- a field in which nothing is found ends within the record
  pub one_room : (count at : ℕ) → field_by target s count at ≡ Fine → at + (3 + count * 6) ≤ length s
  unfolding field_by
  one_room count at e = field_room s 4 (count * 6) at (then_fine (field_cause s 4 (count * 6) at) _ e).0

-- ## A trace

-- without a target, its causes are 12 and 13 of its header and of its samples
pub trace_form : (s : List ℕ) (n i at : ℕ) → trace_by None s n i at ≡ trace_form_in tag04 s n i at
unfolding trace_by fields_by field_by pairs_by trace_form_in samples_causes_in field_form_in
trace_form s n i at = refl

-- a header's causes one after the other, before any other check
header_then : (s : List ℕ) (n i at : ℕ) (d : Check)
    → then (header_causes s n i at) d
    ≡ then (field_cause s 3 180 at)
    (then (smallest_causes s (at + 3))
    (then (refuse_if (not (eqb (number16 s (byte_place (at + 3) 115)) n)) 13 (byte_place (at + 3) 115))
    (then (refuse_if (not (eqb (number16 s (byte_place (at + 3) 117)) i)) 13 (byte_place (at + 3) 117)) d)))
unfolding header_causes
header_then s n i at d =
    let a = field_cause s 3 180 at in
    let z = smallest_causes s (at + 3) in
    let b = refuse_if (not (eqb (number16 s (byte_place (at + 3) 115)) n)) 13 (byte_place (at + 3) 115) in
    let c = refuse_if (not (eqb (number16 s (byte_place (at + 3) 117)) i)) 13 (byte_place (at + 3) 117) in
    then_assoc a (then z (then b c)) d ∙ ap (then a) (then_assoc z (then b c) d ∙ ap (then z) (then_assoc b c d))

-- so a trace's causes,
pub trace_parts : (k : Kind) (s : List ℕ) (n i at : ℕ)
    → trace_form_in k s n i at
    ≡ then (field_cause s 3 180 at)
    (then (smallest_causes s (at + 3))
    (then (refuse_if (not (eqb (number16 s (byte_place (at + 3) 115)) n)) 13 (byte_place (at + 3) 115))
    (then (refuse_if (not (eqb (number16 s (byte_place (at + 3) 117)) i)) 13 (byte_place (at + 3) 117)) (samples_causes_in k s n (at + 183)))))
unfolding trace_form_in
trace_parts k s n i at = header_then s n i at (samples_causes_in k s n (at + 183))

-- where it has none, its scalars are those of the smallest powers
pub scalars_fine : (k : Kind) (s : List ℕ) (n i at : ℕ) → trace_form_in k s n i at ≡ Fine → smallest_causes s (at + 3) ≡ Fine
scalars_fine k s n i at e =
    let a = then_fine (field_cause s 3 180 at) _ (sym (trace_parts k s n i at) ∙ e) in
    (then_fine (smallest_causes s (at + 3)) _ a.1).0

-- and a header's alone
pub header_parts : (s : List ℕ) (n i at : ℕ)
    → header_causes s n i at
    ≡ then (field_cause s 3 180 at)
    (then (smallest_causes s (at + 3))
    (then (refuse_if (not (eqb (number16 s (byte_place (at + 3) 115)) n)) 13 (byte_place (at + 3) 115))
    (refuse_if (not (eqb (number16 s (byte_place (at + 3) 117)) i)) 13 (byte_place (at + 3) 117))))
unfolding header_causes
header_parts s n i at = refl

-- a header in which nothing is found ends within the record
pub header_room : (s : List ℕ) (n i at : ℕ) → header_causes s n i at ≡ Fine → at + 183 ≤ length s
unfolding header_causes
header_room s n i at e = field_room s 3 180 at (then_fine (field_cause s 3 180 at) _ e).0

-- so does a trace
pub form_room : (k : Kind) (s : List ℕ) (n i at : ℕ) → trace_form_in k s n i at ≡ Fine → behind_trace_in k s n at ≤ length s
unfolding trace_form_in samples_causes_in behind_trace_in
form_room k s n i at e =
    let t = then_fine (header_causes s n i at) _ e in
    let c = share_in k s n (at + 183) in
    let r = samples_room k s c (share_some k s n (at + 183)) n (at + 183) t.1 (header_room s n i at t.0) in
    omega (arith, r)

-- ## Traces, one after the other

-- a trace is to be looked for behind t traces
abbrev pub is_more : List ℕ → ℕ → ℕ → Bool
is_more s t at = ltb t most_traces && eqb (get_or s at 0) 3

pub more_few : (s : List ℕ) (t at : ℕ) → is_more s t at ≡ true → t < most_traces
more_few s t at e = go (ltb t most_traces) refl e
  where
    go : (b : Bool) → ltb t most_traces ≡ b → (b && eqb (get_or s at 0) 3) ≡ true → t < most_traces
    go true q e = ltb-true t most_traces q
    go false q e = absurd (subst T (sym e) tt)

-- the place of a trace is behind the one before it
pub place_next : (k : Kind) (s : List ℕ) (n t : ℕ) → trace_place_in k s n (t + 1) ≡ behind_trace_in k s n (trace_place_in k s n t)
unfolding trace_place_in
place_next k s n t = ap (trace_place_in k s n) (add-one t)

-- so places rise
pub place_rises : (k : Kind) (s : List ℕ) (n t j : ℕ) → trace_place_in k s n t ≤ trace_place_in k s n (t + j)
unfolding behind_trace_in
place_rises k s n t j = rises (trace_place_in k s n) (λ t. held_stride_in k s n (trace_place_in k s n t)) step t j
  where
    step : (t : ℕ) → trace_place_in k s n (t + 1) ≡ trace_place_in k s n t + held_stride_in k s n (trace_place_in k s n t)
    step t = place_next k s n t

-- behind the first two fields
pub place_front : (k : Kind) (s : List ℕ) (n t : ℕ) → traces_place ≤ trace_place_in k s n t
unfolding trace_place_in behind_trace_in
place_front k s n zero = omega arith
place_front k s n (suc t) = omega (arith, place_front k s n t)

-- t traces have room for as many bytes as they have samples
pub place_holds : (s : List ℕ) (n t : ℕ) → t * n ≤ trace_place_in tag04 s n t
unfolding trace_place_in behind_trace_in
place_holds s n zero = omega (arith, zero-mul n)
place_holds s n (suc t) = omega (arith, suc-mul t n, place_holds s n t)

-- a trace in the earlier form has three bytes less than one in fields of 6,000: one tag and length in place of two
stride_earlier : (s : List ℕ) (n at : ℕ) → held_stride_in tag04 s n at + 3 * pick (is_earlier_in tag04 s n (at + 183)) 1 0 ≡ trace_length_in tag04 n
stride_earlier s n at = go (ltb 6000 n) refl (leb n 8000) refl (eqb (number16 s (at + 183 + 1)) (n * 6))
  where
    two : 6000 < n → n ≤ 8000 → fields_in 6000 n ≡ 2
    two l m = needs-more 6000 (omega arith) n (omega arith) ∙ ap suc (fields_one 6000 (omega arith) (n - 6000) (omega arith) (omega arith))

    go : (a : Bool) → ltb 6000 n ≡ a → (b : Bool) → leb n 8000 ≡ b → (c : Bool) → 183 + fields_length 6 (pick ((a && b) && c) n 6000) n + 3 * pick ((a && b) && c) 1 0 ≡ 183 + fields_length 6 6000 n
    go true p true q true =
        let l = ltb-true 6000 n p in
        omega (arith, fields_one n (omega arith) n (omega arith) (omega arith), two l (leb-true n 8000 q))
    go true p true q false = omega arith
    go true p false q c = omega arith
    go false p b q c = omega arith

-- so t traces have three bytes less for each of them
pub place_earlier : (s : List ℕ) (n t : ℕ) → trace_place_in tag04 s n t + 3 * earlier_count_in tag04 s n t ≡ traces_place + t * trace_length_in tag04 n
unfolding trace_place_in behind_trace_in earlier_count_in
place_earlier s n zero = omega (arith, zero-mul (trace_length_in tag04 n))
place_earlier s n (suc t) =
    omega (arith, suc-mul t (trace_length_in tag04 n), place_earlier s n t, stride_earlier s n (trace_place_in tag04 s n t))

-- no more traces are counted than may be
pub count_most : (k : Kind) (s : List ℕ) (n : ℕ) → held_count_in k s n ≤ most_traces
count_most k s n = run_most (is_trace_in k s n) most_traces 0

-- each of the traces of a valid record is of the right form
pub traces_fine : (k : Kind) (s : List ℕ) → form_causes_in k s ≡ Fine → let n = held_samples s in (j : ℕ) → j < held_count_in k s n → trace_form_in k s n (held_interval s) (trace_place_in k s n j) ≡ Fine
unfolding form_causes_in body_causes_in
traces_fine k s e =
    let n = held_samples s in
    let a = then_fine (cards_causes s) _ e in
    let b = then_fine (binary_causes s) _ a.1 in
    each_is (λ j. trace_form_in k s n (held_interval s) (trace_place_in k s n j)) (held_count_in k s n) (then_fine (first_of (each (λ j. trace_form_in k s n (held_interval s) (trace_place_in k s n j)) (held_count_in k s n))) _ b.1).0

-- a tag 03 stands behind t traces
pub more_tag : (s : List ℕ) (t at : ℕ) → is_more s t at ≡ true → eqb (get_or s at 0) 3 ≡ true
more_tag s t at e = rw (lt-ltb t most_traces (more_few s t at e)) at e

module _ (s : List ℕ) (n : ℕ) where
  module _ (i : ℕ) where
    -- the form of what follows, a trace at a time
    pub form_more : (t at : ℕ) → is_more s t at ≡ true
        → form_from s n i (most_traces - t) t at ≡ then (trace_form_in tag04 s n i at) (form_from s n i (most_traces - (t + 1)) (t + 1) (behind_trace_in tag04 s n at))
    unfolding form_from
    form_more t at e =
        let few = more_few s t at e in
        let one : most_traces - t ≡ suc (most_traces - (t + 1)) = omega arith in
        ap (λ (k : ℕ). form_from s n i k t at) one ∙ rw (more_tag s t at e)

    pub form_end : (t at : ℕ) → is_more s t at ≡ false → form_from s n i (most_traces - t) t at ≡ end_causes s t at
    unfolding form_from
    form_end t at e = go (ltb t most_traces) refl e
      where
        none : (k : ℕ) → eqb (get_or s at 0) 3 ≡ false → form_from s n i k t at ≡ end_causes s t at
        none zero q = refl
        none (suc k) q = rw q

        go : (b : Bool) → ltb t most_traces ≡ b → (b && eqb (get_or s at 0) 3) ≡ false → form_from s n i (most_traces - t) t at ≡ end_causes s t at
        go true q e = none (most_traces - t) e
        go false q e =
            let l = ltb-false t most_traces q in
            let z : most_traces - t ≡ 0 = omega arith in
            ap (λ (k : ℕ). form_from s n i k t at) z

    -- it is the form of the traces that are counted, and of the end behind them
    abbrev form_at : ℕ → Check
    form_at j = trace_form_in tag04 s n i (trace_place_in tag04 s n j)

    abbrev form_of : ℕ → ℕ → Check
    form_of k t = then (first_of (walk form_at 1 k t)) (end_causes s (t + k) (trace_place_in tag04 s n (t + k)))

    form_next : (k t : ℕ) → form_of (suc k) t ≡ then (form_at t) (form_of k (t + 1))
    form_next k t =
        let a : t + suc k ≡ t + 1 + k = omega arith in
        then_assoc (form_at t) (first_of (walk form_at 1 k (t + 1))) (end_causes s (t + suc k) (trace_place_in tag04 s n (t + suc k)))
        ∙ ap (λ (x : ℕ). then (form_at t) (then (first_of (walk form_at 1 k (t + 1))) (end_causes s x (trace_place_in tag04 s n x)))) a

    form_from_lem : (left t : ℕ) → form_from s n i left t (trace_place_in tag04 s n t) ≡ form_of (run_from (is_trace_in tag04 s n) left t) t
    unfolding form_from run_from
    form_from_lem zero t = ap (λ (x : ℕ). end_causes s x (trace_place_in tag04 s n x)) (sym (add-zero t))
    form_from_lem (suc left) t = go (is_trace_in tag04 s n t) (form_from_lem left (t + 1))
      where
        go : (b : Bool) → form_from s n i left (t + 1) (trace_place_in tag04 s n (t + 1)) ≡ form_of (run_from (is_trace_in tag04 s n) left (t + 1)) (t + 1)
            → pick b (then (form_at t) (form_from s n i left (t + 1) (behind_trace_in tag04 s n (trace_place_in tag04 s n t)))) (end_causes s t (trace_place_in tag04 s n t))
            ≡ form_of (pick b (suc (run_from (is_trace_in tag04 s n) left (t + 1))) 0) t
        go true e =
            ap (λ (x : ℕ). then (form_at t) (form_from s n i left (t + 1) x)) (sym (place_next tag04 s n t))
            ∙ ap (then (form_at t)) e ∙ sym (form_next (run_from (is_trace_in tag04 s n) left (t + 1)) t)
        go false e = ap (λ (x : ℕ). end_causes s x (trace_place_in tag04 s n x)) (sym (add-zero t))

    -- from the first trace on, it is that of the record's traces and its end
    pub body_is : body_causes_in tag04 s n i (held_count s n) ≡ form_from s n i most_traces 0 traces_place
    unfolding body_causes_in trace_place_in
    body_is =
        let k = held_count s n in
        ap (λ (x : ℕ). then (first_of (each form_at k)) (end_causes s x (trace_place_in tag04 s n x))) (sym (zero-add k)) ∙ sym (form_from_lem most_traces 0)

-- ## The whole record

-- behind the traces of a valid record stands its end
pub end_fine : (k : Kind) (s : List ℕ) → form_causes_in k s ≡ Fine
    → let t = held_count_in k s (held_samples s) in end_causes s t (trace_place_in k s (held_samples s) t) ≡ Fine
unfolding form_causes_in body_causes_in
end_fine k s e =
    let n = held_samples s in
    let a = then_fine (cards_causes s) _ e in
    let b = then_fine (binary_causes s) _ a.1 in
    (then_fine (first_of (each (λ j. trace_form_in k s n (held_interval s) (trace_place_in k s n j)) (held_count_in k s n))) _ b.1).1

-- it ends there
pub held_length : (k : Kind) (s : List ℕ) → form_causes_in k s ≡ Fine → length s ≡ trace_place_in k s (held_samples s) (held_count_in k s (held_samples s)) + 7
held_length k s e =
    let t = held_count_in k s (held_samples s) in
    let at = trace_place_in k s (held_samples s) t in
    let d = then_fine (field_cause s 5 4 at) _ (end_fine k s e) in
    let f = then_fine (refuse_if (not (eqb (number (bytes_at s (at + 3) 4)) t)) 12 at) _ d.1 in
    let g = then_fine (refuse_if (ltb (at + 7) (length s)) 12 (at + 7)) _ f.1 in
    omega (arith, field_room s 5 4 at d.0, ltb-false (at + 7) (length s) (passed _ _ _ g.0))

-- so its last four bytes say how many traces it has
pub held_count_lem : (k : Kind) (s : List ℕ) → form_causes_in k s ≡ Fine → number (bytes_at s (length s - 4) 4) ≡ held_count_in k s (held_samples s)
held_count_lem k s e =
    let t = held_count_in k s (held_samples s) in
    let at = trace_place_in k s (held_samples s) t in
    let d = then_fine (field_cause s 5 4 at) _ (end_fine k s e) in
    let f = then_fine (refuse_if (not (eqb (number (bytes_at s (at + 3) 4)) t)) 12 at) _ d.1 in
    let p : length s - 4 ≡ at + 3 = omega (arith, held_length k s e) in
    ap (λ (x : ℕ). number (bytes_at s x 4)) p ∙ eqb-true (number (bytes_at s (at + 3) 4)) t (not-false _ (passed _ 12 at f.0))

-- its first two fields stand whole, and its numbers are within their limits
pub record Headed (s : List ℕ) : Type 0 where
  pub room : traces_place ≤ length s
  pub n_low : 1 ≤ held_samples s
  pub n_high : held_samples s ≤ most_samples

pub headed : (s : List ℕ) → then (cards_causes s) (binary_causes s) ≡ Fine → Headed s
unfolding binary_causes
headed s e =
    let a = then_fine (cards_causes s) _ e in
    let b = then_fine (field_cause s 2 60 3203) _ a.1 in
    let c = then_fine (refuse_if (not (within 1 most_interval (held_interval s))) 13 3222) _ b.1 in
    let d = then_fine (refuse_if (not (within 1 most_samples (held_samples s))) 13 3226) _ c.1 in
    let l = in_limits 1 most_samples (held_samples s) 13 3226 d.0 in
    record { room = field_room s 2 60 3203 b.0; n_low = l.0; n_high = l.1 }

-- the causes 12 and 13, where the first two fields are right
pub form_is : (s : List ℕ) → then (cards_causes s) (binary_causes s) ≡ Fine
    → form_causes s ≡ form_from s (held_samples s) (held_interval s) most_traces 0 traces_place
unfolding form_causes_in
form_is s e =
    let n = held_samples s in
    let a = then_fine (cards_causes s) _ e in
    ap (λ x. then x (then (binary_causes s) (body_causes_in tag04 s n (held_interval s) (held_count s n)))) a.0
    ∙ ap (λ x. then x (body_causes_in tag04 s n (held_interval s) (held_count s n))) a.1
    ∙ body_is s n (held_interval s)

-- and where they are not
pub form_stop : (s : List ℕ) {number : ℕ} {place : Place} → then (cards_causes s) (binary_causes s) ≡ Refused number place
    → form_causes s ≡ Refused number place
unfolding form_causes_in
form_stop s e =
    let body = body_causes_in tag04 s (held_samples s) (held_interval s) (held_count s (held_samples s)) in
    sym (then_assoc (cards_causes s) (binary_causes s) body) ∙ ap (λ x. then x body) e

-- N and T of a valid record
pub numbers_held : (s : List ℕ) → form_causes s ≡ Fine → judged.Fine (numbers_in s).samples (numbers_in s).traces ≡ record_found s Fine
numbers_held s e = ap (judged.Fine (held_samples s)) (held_count_lem tag04 s e)
