-- The table of causes for nearest writing (document 02, CR 5), by document 01's numbers, in the order in which they are looked for: that of
-- exact writing without 14. A row says in which case it applies, its number, and what stands beside it; as the order sets, it applies only
-- where no row before it does.
use Rattle.std.specs.Prelude.{◌≡◌, List, true, ℕ, ◌<◌}
use Rattle.formats.specs.Codes.{is_code}
use Rattle.record.specs.Form.{held_samples}
use Rattle.write_reel.specs.Reel.{reel_length}
use Rattle.demands.specs.ValidRecord.{RecordRight}
use Rattle.demands.specs.Tables.{FormRow}

-- "Writing: 11; then the record front to back, each field first by 12, then by 13"; then 10. "number 14 doesn't occur in this call"
-- (document 02, CR 5). The output has `room` bytes.
pub data NearestRow (s : List ℕ) (code room : ℕ) : ℕ → ℕ → Type 0 where
  -- 11: the target code is none of 1, 2, 3, 4, 5, 8
  bad_target : ¬ (is_code code ≡ true) → NearestRow s code room 11 0
  -- 12 and 13: a row of their table applies to the record
  by_form : {number place : ℕ} → is_code code ≡ true → FormRow s number place → NearestRow s code room number place
  -- 10: the output is too short for the reel, with the reel's length
  short_output : (t : ℕ) → is_code code ≡ true → RecordRight s t → room < reel_length code t (held_samples s)
      → NearestRow s code room 10 (reel_length code t (held_samples s))
