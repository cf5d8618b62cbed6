-- The causes of reading an Eagle reel, as a table: 1 to 6 in that order; then trace by trace 7, 8, 18 for field 69, 18 for field 71, and 20,
-- "in each trace after its samples"; then 10. "numbers 5 and 6 count it as part of the trace", the trailer, and "Format code 1 is the only one
-- allowed" (document 02, CR 7). Each row says in which case it applies, and what stands beside it: as the order sets, it applies only where
-- no row before it does.
use Rattle.std.specs.Prelude.{◌≡◌, List, ℕ, ◌+◌, ◌-◌, ◌*◌, ◌/◌, ◌≤◌, ◌<◌, length}
use Rattle.numbers.specs.Places.{byte_place}
use Rattle.numbers.specs.Terms.{Between, ZeroOr}
use Rattle.reel.specs.Layout.{elevation_scalar, coordinate_scalar, number16, samples_of, interval_of, code_of}
use Rattle.reel_theorems.specs.ReelTable.{OwnNumbersAt, AllowedAt}

-- ## The terms of the table

-- The bytes of a trace but for its trailer, 240 of its header and N words; and with the 960 of its trailer.
abbrev pub bare_trace : List ℕ → ℕ
bare_trace s = 240 + samples_of s * 4

abbrev pub eagle_length : List ℕ → ℕ
eagle_length s = bare_trace s + 960

-- The place of trace k, counted from 0; behind the last trace it is the place of the first byte left over.
abbrev pub eagle_at : List ℕ → ℕ → ℕ
eagle_at s k = 3600 + k * eagle_length s

-- T, the whole traces behind the headers.
abbrev pub eagle_count : List ℕ → ℕ
eagle_count s = (length s - 3600) / eagle_length s

-- The place of the last two bytes of trace k's trailer, and that they are FFFF.
abbrev pub trailer_end : List ℕ → ℕ → ℕ
trailer_end s k = eagle_at s k + bare_trace s + 958

abbrev pub Ends : List ℕ → ℕ → Type 0
Ends s k = number16 s (trailer_end s k) ≡ 0xFFFF

-- 1 to 4 don't apply: both headers stand whole, the code is 1, and the reel's own numbers are within their limits.
pub record EagleHeaded (s : List ℕ) : Type 0 where
  pub long : 3600 ≤ length s
  pub code : code_of s ≡ 1
  pub samples : Between 1 32767 (samples_of s)
  pub interval : Between 1 32767 (interval_of s)

-- Nor do 5 and 6: no byte comes after the last whole trace, and there are at most 100,000.
pub record EagleWhole (s : List ℕ) : Type 0 where
  pub headed : EagleHeaded s
  pub whole : length s ≤ eagle_at s (eagle_count s)
  pub few : eagle_count s ≤ 100000

-- Neither 7, 8 nor 18 applies to the header of trace k,
pub record HeaderPassed (s : List ℕ) (k : ℕ) : Type 0 where
  pub own : OwnNumbersAt s (eagle_at s k)
  pub elevations : AllowedAt s (eagle_at s k) elevation_scalar
  pub coordinates : AllowedAt s (eagle_at s k) coordinate_scalar

-- nor 20 to its trailer.
pub record EaglePassed (s : List ℕ) (k : ℕ) : Type 0 where
  pub header : HeaderPassed s k
  pub trailer : Ends s k

-- Nothing applies before trace k: not 1 to 6, nor 7, 8, 18 and 20 to the traces before it.
pub record EagleUntil (s : List ℕ) (k : ℕ) : Type 0 where
  pub reel : EagleWhole s
  pub trace : k < eagle_count s
  pub before : (i : ℕ) → i < k → EaglePassed s i

-- ## The table

-- The rows against the reel: in which case each applies, its number, and what stands beside it. Traces k are counted from 0.
pub data EagleRow (s : List ℕ) : ℕ → ℕ → Type 0 where
  -- 1: the reel is under 3,600 bytes, with its length
  short_reel : length s < 3600 → EagleRow s 1 (length s)
  -- 2: the format code is not 1
  bad_code : 3600 ≤ length s → ¬ (code_of s ≡ 1) → EagleRow s 2 3224
  -- 3: N is not 1 to 32,767
  bad_samples : 3600 ≤ length s → code_of s ≡ 1 → ¬ (Between 1 32767 (samples_of s)) → EagleRow s 3 3220
  -- 4: the interval is not 1 to 32,767
  bad_interval : 3600 ≤ length s → code_of s ≡ 1 → Between 1 32767 (samples_of s) → ¬ (Between 1 32767 (interval_of s)) → EagleRow s 4 3216
  -- 5: bytes come after the last whole trace, at the first of them
  left_over : EagleHeaded s → eagle_at s (eagle_count s) < length s → EagleRow s 5 (eagle_at s (eagle_count s))
  -- 6: there are more than 100,000 traces, at trace 100,001
  many : EagleHeaded s → length s ≤ eagle_at s (eagle_count s) → 100000 < eagle_count s → EagleRow s 6 (eagle_at s 100000)
  -- 7: field 115 of trace k is neither 0 nor N
  bad_115 : (k : ℕ) → EagleUntil s k → ¬ (ZeroOr (samples_of s) (number16 s (byte_place (eagle_at s k) 115))) → EagleRow s 7 (byte_place (eagle_at s k) 115)
  -- 8: its field 117 is neither 0 nor the reel's interval
  bad_117 : (k : ℕ) → EagleUntil s k → ZeroOr (samples_of s) (number16 s (byte_place (eagle_at s k) 115)) → ¬ (ZeroOr (interval_of s) (number16 s (byte_place (eagle_at s k) 117)))
      → EagleRow s 8 (byte_place (eagle_at s k) 117)
  -- 18: its field 69 is no scalar that is allowed
  bad_69 : (k : ℕ) → EagleUntil s k → OwnNumbersAt s (eagle_at s k) → ¬ (AllowedAt s (eagle_at s k) elevation_scalar) → EagleRow s 18 (byte_place (eagle_at s k) 69)
  -- 18: its field 71 is no scalar that is allowed
  bad_71 : (k : ℕ) → EagleUntil s k → OwnNumbersAt s (eagle_at s k) → AllowedAt s (eagle_at s k) elevation_scalar → ¬ (AllowedAt s (eagle_at s k) coordinate_scalar)
      → EagleRow s 18 (byte_place (eagle_at s k) 71)
  -- 20: the last two bytes of its trailer are not FFFF, at the first of the two
  bad_trailer : (k : ℕ) → EagleUntil s k → HeaderPassed s k → ¬ (Ends s k) → EagleRow s 20 (trailer_end s k)

-- The rows of reading an Eagle reel into an output of `room` bytes.
pub data EagleReadRow (s : List ℕ) (room : ℕ) : ℕ → ℕ → Type 0 where
  -- 1 to 8, 18 and 20: a row of their table applies to the reel
  by_reel : {number place : ℕ} → EagleRow s number place → EagleReadRow s room number place
  -- 10: none of them applies, and the output is too short for the record, with the record's length, 3273 + T × (183 + 3F + 6N), F fields a trace
  short_output : ((number place : ℕ) → ¬ (EagleRow s number place)) → room < 3273 + eagle_count s * (183 + (3 * ((samples_of s + 5999) / 6000) + samples_of s * 6))
      → EagleReadRow s room 10 (3273 + eagle_count s * (183 + (3 * ((samples_of s + 5999) / 6000) + samples_of s * 6)))
