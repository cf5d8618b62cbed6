-- The ways in which writing a record ends, exactly and to the nearest. Assumes nothing.
use mathlib.Core.Path.{◌≡◌, refl, sym, ap, ap₂, ◌∙◌, subst}
use mathlib.Core.List.{List, [], ◌∷◌, ◌++◌}
use mathlib.Core.Bool.{Bool, true, false, not}
use Prim.Native.Nat.{ℕ, ◌+◌, ◌*◌, ◌≤◌, ◌<◌}
use native.Mathlib.Nat.{mul-le-mul}
use native.Mathlib.Omega.{arith}
use borrow.Author.Tests.{lt-ltb, le-ltb, not-false}
use lib.Dec.{ltb}
use lib.ListN.{length, take, drop}
use Rattle.numbers.specs.Terms.{Bytes}
use Rattle.numbers.specs.Walk.{pick}
use Rattle.numbers.specs.Cause.{refuse_if, then}
use Rattle.numbers.specs.Outcome.{Said, taken, refused, Outcome}
use Rattle.numbers.specs.Places.{place_no}
use Rattle.numbers.specs.declared.Place.{Place}
use Rattle.std.proofs.Common.{Result, Ok, Err}
use Rattle.numbers.specs.declared.Cause.TheVariants as cause
use Rattle.numbers.specs.Cause.{Check}
use Rattle.numbers.specs.Cause as check
use Rattle.numbers.proofs.CauseLaws.{passed, then_assoc, then_fine}
use Rattle.formats.specs.Codes.{is_code, sample_bytes}
use Rattle.reel.specs.Layout.{stride}
use Rattle.reel.specs.Causes.{most_samples, most_traces}
use Rattle.reel.proofs.CheckLaws.{stride_high}
use Rattle.record.specs.Kind.{tag04}
use Rattle.record.specs.Form.{held_samples, held_interval, held_count, traces_place, trace_place, cards_causes, binary_causes, body_causes_in, form_causes_in, form_causes, record_found, record_judged}
use Rattle.record.specs.Held.{held_by}
use Rattle.fit.specs.Target.{target_causes}
use Rattle.record.specs.Answer.{outcome, counted_outcome}
use Rattle.record.specs.Judged as judged
use Rattle.numbers.specs.declared.Refusal.{Refusal}
use Rattle.numbers.specs.Cause.{cause_no}
use Rattle.record.proofs.FormLaws.{count_most, headed, held_length}
use Rattle.record.proofs.JudgedLaws.{Own, refused_is}
use Rattle.fit.proofs.FitLaws.{target_form}
use Rattle.write_reel.specs.Reel.{reel_of, reel_length}
use Rattle.write_reel.specs.Writing.{reel_length_of, write_causes, write_end, write_outcome}
use Rattle.write_reel.specs.Nearest.{nearest_meaning, meaning_changes, nearest_causes, nearest_end, nearest_outcome}
use Rattle.write_reel.specs.Copied.{traces_changed_at, reel_copied, copied_outcome}
use Rattle.write_reel.proofs.ReelLaws.{reel_is, nearest_reel_is, count_is}

-- what the code asks of its numbers
pub record Fit (s : List ℕ) (code n t : ℕ) : Type 0 where
  pub a_code : is_code code ≡ true
  pub n_high : n ≤ most_samples
  pub few : t ≤ most_traces
  pub front : traces_place ≤ length s
  pub room : trace_place s n t ≤ length s
  pub wide : stride n (sample_bytes code) ≤ 131308
  pub size : t * stride n (sample_bytes code) ≤ 100000 * 131308

pub fit : (s : List ℕ) (code n t : ℕ) → is_code code ≡ true → Own s (form_causes s) n t → Fit s code n t
unfolding form_causes_in
fit s code n t i o =
    let h = headed s (then_fine (then (cards_causes s) (binary_causes s)) (body_causes_in tag04 s (held_samples s) (held_interval s) (held_count s (held_samples s))) (then_assoc (cards_causes s) (binary_causes s) _ ∙ o.fine)).0 in
    let high : n ≤ most_samples = subst (λ (x : ℕ). x ≤ most_samples) o.n_is h.n_high in
    let few : t ≤ most_traces = subst (λ (x : ℕ). x ≤ most_traces) o.t_is (count_most tag04 s (held_samples s)) in
    let l : length s ≡ trace_place s n t + 7 = held_length tag04 s o.fine ∙ ap₂ (λ (x y : ℕ). trace_place s x y + 7) o.n_is o.t_is in
    let wide = stride_high code n high in
    record {
      a_code = i;
      n_high = high;
      few = few;
      front = h.room;
      room = omega arith;
      wide = wide;
      size = mul-le-mul few wide;
    }

-- a valid record is judged so
pub own_judged : (s : List ℕ) (n t : ℕ) → Own s (form_causes s) n t → record_judged s ≡ judged.Fine n t
own_judged s n t o = ap (record_found s) o.fine ∙ ap₂ (λ (x y : ℕ). judged.Fine x y) o.n_is o.t_is

-- ## Writing the reel

module _ (near : Bool) (s : List ℕ) (code n t : ℕ) (out : List ℕ) (k : ℕ) (q : k ≡ reel_length code t n) where
  -- the output is too short,
  pub short_end : length out < k → counted_outcome (Err (record { cause = cause.ShortOutput; place = record { 0 = k } })) out ≡ copied_outcome near s code n t out
  short_end l = rw (q, lt-ltb (length out) (reel_length code t n) (subst (λ (x : ℕ). length out < x) q l))

  -- or holds it
  pub taken_end : (c : ℕ) (ys : List ℕ) → c ≡ traces_changed_at near s code n t 0 → ys ≡ reel_copied near s code n t → k ≤ length out
      → counted_outcome (Ok (record { traces = t; samples = n; length = k; count = c })) (ys ++ drop k out) ≡ copied_outcome near s code n t out
  taken_end c ys d e l = rw (q, d, e, le-ltb (length out) (reel_length code t n) (subst (λ (x : ℕ). x ≤ length out) q l))

-- ## Exactly

-- an outcome without its count
abbrev pub without_count : Outcome → Outcome
without_count o = record { said = drop_count o.said; bytes = o.bytes }
  where
    drop_count : Said → Said
    drop_count (taken l) = taken (take 3 l)
    drop_count (refused number place) = refused number place

module _ (s : List ℕ) (code : ℕ) (out : List ℕ) where
  -- a record that is refused, by whatever number: the number and the place, and what was lent as it was
  pub refused_by_number : (number : ℕ) (place : Place) → target_causes s code ≡ check.Refused number place
      → ◌≡◌ {A = Outcome} (record { said = refused number (place_no place); bytes = out }) (write_outcome s code out)
  refused_by_number number place e = rw e

  -- the same of a refusal, by its cause
  pub refused_end : (r : Refusal) → target_causes s code ≡ check.Refused (cause_no r.cause) r.place → outcome (Err r) out ≡ write_outcome s code out
  refused_end r e = refused_by_number (cause_no r.cause) r.place e

  -- the same of a record that was judged
  pub write_refused : (r : Refusal) → judged.judged (Err r) ≡ record_found s (target_causes s code) → outcome (Err r) out ≡ write_outcome s code out
  write_refused r e = refused_end r (refused_is s (target_causes s code) (sym e))

  -- a record that can be written under the code is valid
  pub own_form : (n t : ℕ) → Own s (target_causes s code) n t → (is_code code ≡ true) × Own s (form_causes s) n t
  unfolding target_causes
  own_form n t o =
      let a = then_fine (refuse_if (not (is_code code)) 11 0) _ o.fine in
      (not-false (is_code code) (passed (not (is_code code)) 11 0 a.0), record { fine = target_form s code o.fine; n_is = o.n_is; t_is = o.t_is })

  module _ (n t : ℕ) (b : Bytes s) (o : Own s (target_causes s code) n t) where
    abbrev size : ℕ
    size = reel_length code t n

    size_is : reel_length_of s code ≡ size
    size_is = ap₂ (reel_length code) o.t_is o.n_is

    pub exact_end : without_count (copied_outcome false s code n t out) ≡ write_outcome s code out
    exact_end = go (ltb (length out) size) refl
      where
        made : ℕ → ℕ → ℕ → List ℕ → Outcome
        made x y k r = record { said = taken (x ∷ y ∷ k ∷ []); bytes = r ++ drop k out }

        reel : reel_of code (held_by s) ≡ reel_copied false s code n t
        reel = let f = own_form n t o in reel_is s b code f.0 f.1.fine ∙ ap₂ (λ (x y : ℕ). reel_copied false s code x y) o.n_is o.t_is

        go : (x : Bool) → ltb (length out) size ≡ x
            → without_count (pick x (record { said = refused 10 size; bytes = out }) (record { said = taken (t ∷ n ∷ size ∷ traces_changed_at false s code n t 0 ∷ []); bytes = reel_copied false s code n t ++ drop size out })) ≡ write_outcome s code out
        go true e = rw (o.fine, size_is, e)
        go false e =
            let fine : write_causes s code (length out) ≡ check.Fine = rw (o.fine, size_is, e) in
            sym (ap (write_end s code out) fine ∙ ap₂ (λ (x y : ℕ). made x y (reel_length_of s code) (reel_of code (held_by s))) o.t_is o.n_is ∙ ap₂ (λ (x : ℕ) (y : List ℕ). made t n x y) size_is reel)

-- ## To the nearest

module _ (s : List ℕ) (code : ℕ) (out : List ℕ) where
  -- 11, 12 and 13
  abbrev before : Check
  before = then (refuse_if (not (is_code code)) 11 0) (form_causes s)

  -- then 10
  causes : (c : Check) → then (refuse_if (not (is_code code)) 11 0) (then (form_causes s) c) ≡ then before c
  causes c = sym (then_assoc (refuse_if (not (is_code code)) 11 0) (form_causes s) c)

  -- the output's length
  abbrev too_short : Check
  too_short = refuse_if (ltb (length out) (reel_length_of s code)) 10 (reel_length_of s code)

  pub nearest_refused_by_number : (number : ℕ) (place : Place) → before ≡ check.Refused number place
      → ◌≡◌ {A = Outcome} (record { said = refused number (place_no place); bytes = out }) (nearest_outcome s code out)
  nearest_refused_by_number number place e = sym (ap (nearest_end s code out) (causes too_short ∙ ap (λ (c : Check). then c too_short) e))

  pub nearest_call_refused : (r : Refusal) → before ≡ check.Refused (cause_no r.cause) r.place → counted_outcome (Err r) out ≡ nearest_outcome s code out
  nearest_call_refused r e = nearest_refused_by_number (cause_no r.cause) r.place e

  -- behind a code that was found to be one, what the record's own judging finds
  pub behind_code : (r : Refusal) → ◌≡◌ {A = Result (Unit {0}) Refusal} (Ok tt) (pick (is_code code) (Ok tt) (Err r)) → record_found s before ≡ record_judged s
  behind_code r e = ap (λ (b : Bool). record_found s (then (refuse_if (not b) 11 0) (form_causes s))) (is_one (is_code code) e)
    where
      is_one : (b : Bool) → ◌≡◌ {A = Result (Unit {0}) Refusal} (Ok tt) (pick b (Ok tt) (Err r)) → b ≡ true
      is_one true p = refl
      is_one false p = cc

  pub own_valid : (n t : ℕ) → Own s before n t → (is_code code ≡ true) × Own s (form_causes s) n t
  own_valid n t o =
      let a = then_fine (refuse_if (not (is_code code)) 11 0) (form_causes s) o.fine in
      (not-false (is_code code) (passed (not (is_code code)) 11 0 a.0), record { fine = a.1; n_is = o.n_is; t_is = o.t_is })

  module _ (n t : ℕ) (b : Bytes s) (o : Own s before n t) where
    abbrev near_size : ℕ
    near_size = reel_length code t n

    near_size_is : reel_length_of s code ≡ near_size
    near_size_is = ap₂ (reel_length code) o.t_is o.n_is

    pub nearest_call_end : copied_outcome true s code n t out ≡ nearest_outcome s code out
    nearest_call_end = go (ltb (length out) near_size) refl
      where
        made : ℕ → ℕ → ℕ → ℕ → List ℕ → Outcome
        made x y k c r = record { said = taken (x ∷ y ∷ k ∷ c ∷ []); bytes = r ++ drop k out }

        valid : (is_code code ≡ true) × Own s (form_causes s) n t
        valid = own_valid n t o

        reel : reel_of code (nearest_meaning code (held_by s)) ≡ reel_copied true s code n t
        reel = nearest_reel_is s b code valid.0 valid.1.fine ∙ ap₂ (λ (x y : ℕ). reel_copied true s code x y) o.n_is o.t_is

        count : meaning_changes code (held_by s) ≡ traces_changed_at true s code n t 0
        count = count_is s b code valid.0 valid.1.fine ∙ ap₂ (λ (x y : ℕ). traces_changed_at true s code x y 0) o.n_is o.t_is

        told : (x : Bool) → ltb (length out) near_size ≡ x → nearest_causes s code (length out) ≡ refuse_if x 10 near_size
        told x e =
            causes too_short ∙ ap (λ (c : Check). then c too_short) o.fine
            ∙ ap (λ (k : ℕ). refuse_if (ltb (length out) k) 10 k) near_size_is ∙ ap (λ (y : Bool). refuse_if y 10 near_size) e

        go : (x : Bool) → ltb (length out) near_size ≡ x
            → pick x (record { said = refused 10 near_size; bytes = out }) (made t n near_size (traces_changed_at true s code n t 0) (reel_copied true s code n t)) ≡ nearest_outcome s code out
        go true e = sym (ap (nearest_end s code out) (told true e))
        go false e =
            sym (ap (nearest_end s code out) (told false e)
            ∙ ap₂ (λ (x y : ℕ). made x y (reel_length_of s code) (meaning_changes code (held_by s)) (reel_of code (nearest_meaning code (held_by s)))) o.t_is o.n_is
            ∙ ap₂ (λ (x y : ℕ). made t n x y (reel_of code (nearest_meaning code (held_by s)))) near_size_is count
            ∙ ap (made t n near_size (traces_changed_at true s code n t 0)) reel)
