-- Refusals of nearest writing are exact: the causes looked for are the rows of `specs/NearestTable`. Assumes nothing.
use mathlib.Core.Path.{◌≡◌, refl, ap, ◌∙◌}
use mathlib.Core.List.{List, [], ◌∷◌}
use mathlib.Core.Logic.{inl, inr}
use Prim.Native.Nat.{ℕ}
use lib.Dec.{ltb}
use Rattle.numbers.specs.Cause.{refuse_if}
use Rattle.numbers.specs.Iff.{Iff}
use Rattle.numbers.specs.Terms.{Among, at_place}
use Rattle.numbers.specs.Cause.{Refused}
use Rattle.numbers.proofs.RowLaws.{refused_where, row_where, then_row, then_first, then_second, fine_then, refused_then, row_then, test_room, not_enough, too_short}
use Rattle.record.specs.Form.{held_samples, form_causes}
use Rattle.write_reel.specs.Reel.{reel_length}
use Rattle.write_reel.specs.Nearest.{nearest_causes}
use Rattle.reel_theorems.proofs.Refusals.{test_code}
use Rattle.demands.specs.Tables.{FormRow}
use Rattle.demands.proofs.Valid.{count_in, end_counted, record_fine, record_right}
use Rattle.demands.proofs.FormRefusals.{exact_form}
use Rattle.nearest_theorems.specs.NearestTable.{NearestRow}

-- LAW. The causes of nearest writing are these rows.
pub exact_nearest : (s : List ℕ) (code room number place : ℕ) → Iff (nearest_causes s code room ≡ Refused number (at_place place)) (NearestRow s code room number place)
exact_nearest s code room number place = (there, back)
  where
    there : nearest_causes s code room ≡ Refused number (at_place place) → NearestRow s code room number place
    there =
        let row = NearestRow s code room in
        let size = reel_length code (count_in s) (held_samples s) in
        row_then (test_code code 11 0) row NearestRow.bad_target
        (λ g. then_row row (form_causes s) _ (λ e. NearestRow.by_form g ((exact_form s number place).0 e))
        (λ q. row_where (test_room room size 10 size) row (λ m. NearestRow.short_output (count_in s) g (record_right s q) (not_enough room size m))))

    back : {number place : ℕ} → NearestRow s code room number place → nearest_causes s code room ≡ Refused number (at_place place)
    back (NearestRow.bad_target h) = refused_then (test_code code 11 0) _ h
    back {number} {place} (NearestRow.by_form g r) = fine_then (test_code code 11 0) g (then_first (form_causes s) _ ((exact_form s number place).1 r))
    back (NearestRow.short_output t g h l) =
        let size = reel_length code t (held_samples s) in
        fine_then (test_code code 11 0) g
        (then_second _ _ (record_fine s t h)
        (ap (λ (x : ℕ). refuse_if (ltb room (reel_length code x (held_samples s))) 10 (reel_length code x (held_samples s))) (end_counted s t h.end)
        ∙ refused_where (test_room room size 10 size) (too_short room size l)))

-- ## The numbers

-- A row of a record's form has the number 12 or 13,
form_number : {s : List ℕ} {number place : ℕ} → FormRow s number place → Among number (12 ∷ 13 ∷ [])
form_number (FormRow.no_cards h) = inl refl
form_number (FormRow.bad_card j c l b z) = inr (inl refl)
form_number (FormRow.no_binary c h) = inl refl
form_number (FormRow.bad_held_interval c f h) = inr (inl refl)
form_number (FormRow.bad_held_samples c f i h) = inr (inl refl)
form_number (FormRow.bad_held_code c f i m h) = inr (inl refl)
form_number (FormRow.no_header k t h) = inl refl
form_number (FormRow.bad_held_69 k t f h) = inr (inl refl)
form_number (FormRow.bad_held_71 k t f e h) = inr (inl refl)
form_number (FormRow.bad_held_115 k t f h) = inr (inl refl)
form_number (FormRow.bad_held_117 k t f c h) = inr (inl refl)
form_number (FormRow.no_sample_field k f t h l fs ps nf) = inl refl
form_number (FormRow.bad_pair k j t f g l b h) = inr (inl refl)
form_number (FormRow.no_end t e h) = inl refl
form_number (FormRow.bad_count t e f h) = inl refl
form_number (FormRow.after t e f c l) = inl refl

-- and a row of nearest writing one from 10 to 13.
pub row_number : {s : List ℕ} {code room number place : ℕ} → NearestRow s code room number place → Among number (10 ∷ 11 ∷ 12 ∷ 13 ∷ [])
row_number (NearestRow.bad_target h) = inr (inl refl)
row_number (NearestRow.by_form g r) = inr (inr (form_number r))
row_number (NearestRow.short_output t g h l) = inl refl
