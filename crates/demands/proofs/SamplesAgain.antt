-- Samples that stand in fields, by what is held there and written again: they are the bytes that stand there. Each byte is below 256, and
-- neither 12 nor 13 applies to them; nothing else is assumed.
use mathlib.Core.Path.{◌≡◌, refl, sym, ap, ◌∙◌}
use mathlib.Core.Bool.{Bool, true, false}
use mathlib.Core.List.{List, [], ◌++◌, map}
use Prim.Native.Nat.{ℕ, ◌+◌, ◌-◌, ◌*◌, ◌≤◌, ◌<◌, min}
use native.Mathlib.Omega.{arith}
use borrow.Author.Tests.{not-false}
use lib.ListN.{length, length-append}
use lib.IntN.{ℤ}
use Rattle.numbers.specs.Walk.{pick, walk, flat, bytes_at}
use Rattle.numbers.specs.Cause.{first_of}
use Rattle.numbers.specs.Cause.{Fine}
use Rattle.numbers.proofs.WalkLaws.{size_walk, size_bytes}
use Rattle.numbers.specs.Terms.{Bytes}
use Rattle.numbers.proofs.ByteLaws.{bytes_at_lem}
use Rattle.numbers.proofs.CauseLaws.{passed, then_fine}
use Rattle.record.specs.Form.{field_cause, pair_cause_in, field_form_in, is_earlier_in, share_in, samples_causes_in}
use Rattle.numbers.proofs.RowLaws.{holds_where, none_is}
use Rattle.demands.proofs.Valid.{test_field}
use Rattle.demands.proofs.Pieces.{join, bytes_join, walk_again, field_again}
use Rattle.fields.specs.Fields.{each, pair_place, fields_length, in_fields}
use Rattle.record.specs.Kind.{Kind}
use Rattle.record.specs.Record.{field_samples, samples_field_in, samples_fields_in}
use Rattle.record.specs.Held.{held_value_in, held_values_in}
use Rattle.fields.proofs.FieldsLaws.{take_parts, by_fields, length_none, length_more, in_none, in_next, pairs_in_fields, shares_none, shares_more}
use Rattle.reel_theorems.proofs.KindLaws.{Writes}
use Rattle.reel_theorems.proofs.SampleFields.{in_shares}

module _ (k : Kind) (w : Writes k) (s : List ℕ) (b : Bytes s) where
  -- The values of m samples whose field stands at the place p.
  abbrev held : ℕ → ℕ → List ℤ
  held m p = walk (held_value_in k s) k.width m (p + 3)

  -- One field.
  one_again : (m at : ℕ) → field_form_in k s m at ≡ Fine → samples_field_in k (held m at) ≡ bytes_at s at (3 + m * k.width)
  unfolding field_form_in samples_field_in
  one_again m at e =
      let t = then_fine (field_cause s k.tag (m * k.width) at) _ e in
      let canonical : (j : ℕ) → j < m → k.canonical (bytes_at s (at + 3 + j * k.width) k.width) ≡ true =
      λ j l. not-false _ (passed _ 13 (at + 3 + j * k.width) (none_is (pair_cause_in k s) k.width m (at + 3) t.1 j l)) in
      field_again s b k.tag (m * k.width) at (flat (map k.bytes (held m at))) (holds_where (test_field s k.tag (m * k.width) at) t.0)
      (walk_again k.bytes (held_value_in k s) s k.width m (at + 3)
      (λ j l. w.back (bytes_at s (at + 3 + j * k.width) k.width) (size_bytes s (at + 3 + j * k.width) k.width) (bytes_at_lem s b (at + 3 + j * k.width) k.width) (canonical j l)))

  module _ (c : ℕ) (some : 0 < c) where
    abbrev Again : ℕ → Type 0
    Again n = (at : ℕ) → first_of (in_fields (field_form_in k s) k.width c n at) ≡ Fine → in_shares k c (flat (in_fields held k.width c n at)) ≡ bytes_at s at (fields_length k.width c n)

    none : (n : ℕ) → n ≤ 0 → Again n
    unfolding bytes_at
    none n h at e =
        ap (λ (l : List (List ℤ)). in_shares k c (flat l)) (in_none c some k.width held n at h)
        ∙ ap (λ (l : List (List ℤ)). flat (map (samples_field_in k) l)) (shares_none c some [] (omega arith))
        ∙ sym (ap (bytes_at s at) (length_none c some k.width n h))

    more : (n : ℕ) → 0 < n → Again (n - c) → Again n
    more n h rest at e =
        let next = at + (3 + min c n * k.width) in
        let x = held (min c n) at in
        let y = flat (in_fields held k.width c (n - c) next) in
        let t = then_fine (field_form_in k s (min c n) at) _ (sym (ap first_of (in_next c some k.width (field_form_in k s) n at h)) ∙ e) in
        let long : length x ≡ min c n = size_walk (held_value_in k s) k.width (min c n) (at + 3) in
        let p = take_parts c n x y long (λ l. ap flat (in_none c some k.width held (n - c) next (omega arith))) in
        let some-length : 0 < length (x ++ y) = omega (arith, length-append x y, long) in
        ap (λ (l : List (List ℤ)). in_shares k c (flat l)) (in_next c some k.width held n at h)
        ∙ ap (λ (l : List (List ℤ)). flat (map (samples_field_in k) l)) (shares_more c some (x ++ y) some-length)
        ∙ join (ap (samples_field_in k) p.0 ∙ one_again (min c n) at t.0) (ap (in_shares k c) p.1 ∙ rest next t.1)
        ∙ bytes_join s at (3 + min c n * k.width) (fields_length k.width c (n - c)) next (fields_length k.width c n) refl (sym (length_more c some k.width n h))

    pub shares_again : (n at : ℕ) → first_of (in_fields (field_form_in k s) k.width c n at) ≡ Fine
        → in_shares k c (flat (in_fields held k.width c n at)) ≡ bytes_at s at (fields_length k.width c n)
    shares_again = by_fields c some Again none more

  -- LAW. Samples in the newest form, by what is held and written again.
  pub samples_same : (n at : ℕ) → is_earlier_in k s n at ≡ false → samples_causes_in k s n at ≡ Fine
      → samples_fields_in k (held_values_in k s n at) ≡ bytes_at s at (fields_length k.width (share_in k s n at) n)
  unfolding samples_fields_in held_values_in samples_causes_in
  samples_same n at new e =
      let c : share_in k s n at ≡ field_samples = ap (λ (x : Bool). pick x n field_samples) new in
      ap (λ (x : ℕ). in_shares k field_samples (each (λ j. held_value_in k s (pair_place k.width x at j)) n)) c
      ∙ ap (in_shares k field_samples) (pairs_in_fields field_samples (omega arith) k.width (held_value_in k s) n at)
      ∙ shares_again field_samples (omega arith) n at (sym (ap (λ (x : ℕ). first_of (in_fields (field_form_in k s) k.width x n at)) c) ∙ e)
      ∙ ap (λ (x : ℕ). bytes_at s at (fields_length k.width x n)) (sym c)
