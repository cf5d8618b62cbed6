-- # A valid record in the newest form is the record of what it holds
--
-- Each byte of the record is below 256, neither 12 nor 13 applies to it, and no trace of it has the earlier single field; nothing else is
-- assumed.
use mathlib.Core.Path.{◌≡◌, refl, sym, ap, ◌∙◌, subst}
use mathlib.Core.Bool.{false}
use mathlib.Core.List.{List, map}
use Prim.Native.Nat.{ℕ, zero, suc, ◌+◌, ◌-◌, ◌≤◌, ◌<◌}
use native.Mathlib.Nat.{add-zero}
use native.Mathlib.Omega.{arith}
use lib.ListN.{length}
use Rattle.numbers.specs.Walk.{walk, flat, bytes_at}
use Rattle.numbers.specs.BigEndian.{bytes_of}
use Rattle.numbers.specs.Terms.{Bytes}
use Rattle.numbers.specs.Cause.{Fine}
use Rattle.numbers.proofs.WalkLaws.{size_walk}
use Rattle.numbers.proofs.ByteLaws.{bytes_again}
use Rattle.numbers.proofs.CauseLaws.{then_fine}
use Rattle.reel.specs.Layout.{card_bytes}
use Rattle.headers.proofs.HeaderBytes.{bytes_again as header_bytes_lem}
use Rattle.fields.specs.Fields.{each}
use Rattle.fields.proofs.FieldsLaws.{rises}
use Rattle.record.specs.Kind.{tag04}
use Rattle.record.specs.Record.{trace_bytes_in, trace_bytes, record_of_in, record_of}
use Rattle.record.specs.Form.{held_samples, held_interval, traces_place, header_causes, is_earlier_in, samples_causes_in, trace_form_in, held_stride_in, behind_trace_in, trace_place_in, form_causes}
use Rattle.record.specs.Held.{held_trace_in, held_by_in, held_by, IsNewest}
use Rattle.record.proofs.FormLaws.{place_next}
use Rattle.reel_theorems.proofs.KindLaws.{tag04_writes}
use Rattle.demands.specs.ValidRecord.{trace_place, TraceRight, RecordRight}
use Rattle.demands.proofs.Valid.{count_in, scalars_fine, trace_fine, record_right}
use Rattle.demands.proofs.Pieces.{join, bytes_join, field_again, binary_again, all_bytes}
use Rattle.demands.proofs.SamplesAgain.{samples_same}

-- ## Places that rise

module _ (place wide : ℕ → ℕ) (next : (j : ℕ) → place (j + 1) ≡ place j + wide j) where
  -- Where what stands at each place is encoded in the bytes up to the next, the encodings joined are all those bytes.
  pub places_again : {A : Type 0} (g : A → List ℕ) (f : ℕ → A) (s : List ℕ) (k t d : ℕ) → place t + d ≡ place (t + k)
      → ((j : ℕ) → j < k → g (f (t + j)) ≡ bytes_at s (place (t + j)) (wide (t + j))) → flat (map g (walk f 1 k t)) ≡ bytes_at s (place t) d
  unfolding bytes_at
  places_again g f s zero t d e h =
      let z : d ≡ 0 = omega (arith, ap place (add-zero t)) in
      rw z
  places_again g f s (suc k) t d e h =
      let u : t + suc k ≡ t + 1 + k = omega arith in
      let up = rises place wide next (t + 1) k in
      let here : g (f t) ≡ bytes_at s (place t) (wide t) = subst (λ (x : ℕ). g (f x) ≡ bytes_at s (place x) (wide x)) (add-zero t) (h 0 (omega arith)) in
      let far : place (t + 1) + (d - wide t) ≡ place (t + 1 + k) = omega (arith, next t, e, ap place u) in
      let rest = places_again g f s k (t + 1) (d - wide t) far
      (λ j l. let a : t + suc j ≡ t + 1 + j = omega arith in subst (λ (x : ℕ). g (f x) ≡ bytes_at s (place x) (wide x)) a (h (suc j) (omega arith))) in
      join here rest ∙ bytes_join s (place t) (wide t) (d - wide t) (place (t + 1)) d (sym (next t)) (omega (arith, next t, e, ap place u))

module _ (s : List ℕ) (b : Bytes s) where
  -- The bytes of trace t.
  abbrev stride_of : ℕ → ℕ
  stride_of t = held_stride_in tag04 s (held_samples s) (trace_place s t)

  -- Trace t, by what it holds and written again.
  trace_same : (t : ℕ) → TraceRight s t → is_earlier_in tag04 s (held_samples s) (trace_place s t + 183) ≡ false
      → trace_bytes (held_trace_in tag04 s (held_samples s) (trace_place s t)) ≡ bytes_at s (trace_place s t) (stride_of t)
  unfolding trace_bytes_in held_trace_in trace_form_in
  trace_same t h new =
      let at = trace_place s t in
      let samples = (then_fine (header_causes s (held_samples s) (held_interval s) at) (samples_causes_in tag04 s (held_samples s) (at + 183)) (trace_fine s t h)).1 in
      join (field_again s b 3 180 at _ h.front.front.header (header_bytes_lem s b (at + 3) (scalars_fine s t h.front.front)))
      (samples_same tag04 tag04_writes s b (held_samples s) (at + 183) new samples)
      ∙ bytes_join s at 183 _ (at + 183) (stride_of t) refl refl

  stride_next : (t : ℕ) → trace_place s (t + 1) ≡ trace_place s t + stride_of t
  unfolding behind_trace_in
  stride_next t = place_next tag04 s (held_samples s) t

  pieces : RecordRight s (count_in s) → IsNewest s → record_of (held_by s) ≡ s
  unfolding record_of_in held_by_in trace_place_in
  pieces v new =
      let t = count_in s in
      let last = trace_place s t in
      let head = v.end.until.head in
      let up : traces_place ≤ trace_place s (0 + t) = rises (trace_place s) stride_of stride_next 0 t in
      let zero-t : 0 + t ≡ t = omega arith in
      let far : traces_place + (last - traces_place) ≡ trace_place s (0 + t) = omega (arith, ap (trace_place s) zero-t, up) in
      let cards = field_again s b 1 card_bytes 0 (bytes_at s 3 card_bytes) head.front.cards refl in
      let binary = field_again s b 2 60 3203 _ head.binary (binary_again s b head.code) in
      let traces = places_again (trace_place s) stride_of stride_next (trace_bytes_in tag04) (λ j. held_trace_in tag04 s (held_samples s) (trace_place s j)) s t 0 (last - traces_place) far
      (λ j l. let a : 0 + j ≡ j = omega arith in
      subst (λ (x : ℕ). trace_bytes (held_trace_in tag04 s (held_samples s) (trace_place s x)) ≡ bytes_at s (trace_place s x) (stride_of x)) (sym a) (trace_same j (v.end.until.before j l) (new j l))) in
      let count : bytes_of 4 (length (each (λ j. held_trace_in tag04 s (held_samples s) (trace_place s j)) t)) ≡ bytes_at s (last + 3) 4 =
      ap (bytes_of 4) (size_walk (λ j. held_trace_in tag04 s (held_samples s) (trace_place s j)) 1 t 0 ∙ sym v.count) ∙ bytes_again s b (last + 3) 4 in
      let end = field_again s b 5 4 last _ v.field count in
      let d = last - traces_place in
      let behind = join traces end ∙ bytes_join s traces_place d 7 last (d + 7) (omega (arith, far, ap (trace_place s) zero-t)) refl in
      join cards (join binary behind ∙ bytes_join s 3203 63 (d + 7) traces_place (63 + (d + 7)) refl refl)
      ∙ bytes_join s 0 3203 (63 + (d + 7)) 3203 (length s) refl (omega (arith, v.field.whole, v.last, far, ap (trace_place s) zero-t))
      ∙ all_bytes s

  -- LAW. A valid record in the newest form is the record of what it holds.
  pub held_again : form_causes s ≡ Fine → IsNewest s → record_of (held_by s) ≡ s
  held_again e new = pieces (record_right s e) new
