-- The causes 1 to 9, 18 and 19 against a reel, as a table in the order of document 01 and, for 18 and 19, of document 02 (CR 2, CR 4): 1 to 6;
-- then trace by trace 7, 8, 18 for field 69, 18 for field 71, then 9 or 19 (first such word). Each row says in which case it applies, and what stands beside it: as
-- the order sets, it applies only where no row before it does.
use Rattle.std.specs.Prelude.{◌≡◌, List, [], ◌∷◌, ℕ, ◌+◌, ◌*◌, ◌^◌, ◌≤◌, ◌<◌, length, nat_abs, true}
use Rattle.numbers.specs.Places.{byte_place}
use Rattle.numbers.specs.Terms.{Among, Between, ZeroOr}
use Rattle.reel.specs.Layout.{Field, elevation_scalar, coordinate_scalar, field_number, number16, samples_of, interval_of, code_of, stride_of, traces_of}
use Rattle.formats.specs.Codes.{is_code, sample_bytes}
use Rattle.formats.specs.Value.{is_finite}
use Rattle.numbers.specs.Walk.{bytes_at}
use Rattle.numbers.specs.BigEndian.{number}

-- ## The terms of the table

-- The place of trace k, counted from 0; behind the last trace it is the place of the first byte left over.
abbrev pub trace_at : List ℕ → ℕ → ℕ
trace_at s k = 3600 + k * stride_of s

-- The place of sample j of trace k, behind the 240 bytes of the trace's header.
abbrev pub sample_at : List ℕ → ℕ → ℕ → ℕ
sample_at s k j = trace_at s k + 240 + j * sample_bytes (code_of s)

-- The number of the word of four bytes at a place,
abbrev pub word_at : List ℕ → ℕ → ℕ
word_at s at = number (bytes_at s at 4)

-- whose first byte is 00, as a gain word's must be: then it is below 2 ^ 24;
abbrev pub ZeroFirst : List ℕ → ℕ → Type 0
ZeroFirst s at = word_at s at < 2 ^ 24

-- which is finite, as an IEEE word must be: neither an infinity nor a not-a-number.
abbrev pub FiniteAt : List ℕ → ℕ → Type 0
FiniteAt s at = is_finite 8 23 (word_at s at) ≡ true

-- 1 to 4 don't apply: both headers stand whole, and the reel's own numbers are within their limits.
pub record Headed (s : List ℕ) : Type 0 where
  pub long : 3600 ≤ length s
  pub code : is_code (code_of s) ≡ true
  pub samples : Between 1 32767 (samples_of s)
  pub interval : Between 1 32767 (interval_of s)

-- Nor do 5 and 6: no byte comes after the last whole trace, and there are at most 100,000.
pub record Whole (s : List ℕ) : Type 0 where
  pub headed : Headed s
  pub whole : length s ≤ trace_at s (traces_of s)
  pub few : traces_of s ≤ 100000

-- 7 and 8 don't apply to the trace at a place, or to trace k: fields 115 and 117 are 0 or the reel's own.
pub record OwnNumbersAt (s : List ℕ) (at : ℕ) : Type 0 where
  pub count : ZeroOr (samples_of s) (number16 s (byte_place at 115))
  pub interval : ZeroOr (interval_of s) (number16 s (byte_place at 117))

abbrev pub OwnNumbers : List ℕ → ℕ → Type 0
OwnNumbers s k = OwnNumbersAt s (trace_at s k)

-- The scalar in a field of the trace at a place, or of trace k, 69 or 71, is allowed: 0, 1, -1, or plus or minus 10, 100, 1,000 or 10,000.
abbrev pub AllowedAt : List ℕ → ℕ → Field → Type 0
AllowedAt s at f = Among (nat_abs (field_number s at f)) (0 ∷ 1 ∷ 10 ∷ 100 ∷ 1000 ∷ 10000 ∷ [])

abbrev pub Allowed : List ℕ → ℕ → Field → Type 0
Allowed s k f = AllowedAt s (trace_at s k) f

-- Neither 9 nor 19 applies to sample j of trace k: under code 4 it begins with 00, and under code 5 it is finite.
pub record HasValue (s : List ℕ) (k j : ℕ) : Type 0 where
  pub zero : code_of s ≡ 4 → ZeroFirst s (sample_at s k j)
  pub finite : code_of s ≡ 5 → FiniteAt s (sample_at s k j)

-- None of 7, 8, 18, 9 and 19 applies to trace k: its own numbers and its scalars are right, and each sample has a value.
pub record Passed (s : List ℕ) (k : ℕ) : Type 0 where
  pub own : OwnNumbers s k
  pub elevations : Allowed s k elevation_scalar
  pub coordinates : Allowed s k coordinate_scalar
  pub words : (j : ℕ) → j < samples_of s → HasValue s k j

-- Nothing applies before trace k: not 1 to 6, nor 7, 8, 18, 9 and 19 to the traces before it.
pub record Until (s : List ℕ) (k : ℕ) : Type 0 where
  pub reel : Whole s
  pub trace : k < traces_of s
  pub before : (i : ℕ) → i < k → Passed s i

-- ## The table

-- The rows: in which case each applies, its number, and what stands beside it. Traces k and samples j are counted from 0.
pub data ReelRow (s : List ℕ) : ℕ → ℕ → Type 0 where
  -- 1: the reel is under 3,600 bytes, with its length
  short_reel : length s < 3600 → ReelRow s 1 (length s)
  -- 2: the format code is none of 1, 2, 3, 4, 5, 8
  bad_code : 3600 ≤ length s → ¬ (is_code (code_of s) ≡ true) → ReelRow s 2 3224
  -- 3: N is not 1 to 32,767
  bad_samples : 3600 ≤ length s → is_code (code_of s) ≡ true → ¬ (Between 1 32767 (samples_of s)) → ReelRow s 3 3220
  -- 4: the interval is not 1 to 32,767
  bad_interval : 3600 ≤ length s → is_code (code_of s) ≡ true → Between 1 32767 (samples_of s) → ¬ (Between 1 32767 (interval_of s)) → ReelRow s 4 3216
  -- 5: bytes come after the last whole trace, at the first of them
  left_over : Headed s → trace_at s (traces_of s) < length s → ReelRow s 5 (trace_at s (traces_of s))
  -- 6: there are more than 100,000 traces, at trace 100,001
  many : Headed s → length s ≤ trace_at s (traces_of s) → 100000 < traces_of s → ReelRow s 6 (trace_at s 100000)
  -- 7: field 115 of trace k is neither 0 nor N
  bad_115 : (k : ℕ) → Until s k → ¬ (ZeroOr (samples_of s) (number16 s (byte_place (trace_at s k) 115))) → ReelRow s 7 (byte_place (trace_at s k) 115)
  -- 8: its field 117 is neither 0 nor the reel's interval
  bad_117 : (k : ℕ) → Until s k → ZeroOr (samples_of s) (number16 s (byte_place (trace_at s k) 115)) → ¬ (ZeroOr (interval_of s) (number16 s (byte_place (trace_at s k) 117)))
      → ReelRow s 8 (byte_place (trace_at s k) 117)
  -- 18: its field 69 is no scalar that is allowed
  bad_69 : (k : ℕ) → Until s k → OwnNumbers s k → ¬ (Allowed s k elevation_scalar) → ReelRow s 18 (byte_place (trace_at s k) 69)
  -- 18: its field 71 is no scalar that is allowed
  bad_71 : (k : ℕ) → Until s k → OwnNumbers s k → Allowed s k elevation_scalar → ¬ (Allowed s k coordinate_scalar) → ReelRow s 18 (byte_place (trace_at s k) 71)
  -- 9: the first byte of one of its gain words is not 00, the first such word
  bad_gain : (k j : ℕ) → Until s k → OwnNumbers s k → Allowed s k elevation_scalar → Allowed s k coordinate_scalar
      → code_of s ≡ 4 → j < samples_of s → ((i : ℕ) → i < j → ZeroFirst s (sample_at s k i)) → ¬ (ZeroFirst s (sample_at s k j))
      → ReelRow s 9 (sample_at s k j)
  -- 19: one of its IEEE words is an infinity or a not-a-number, the first such word
  not_finite : (k j : ℕ) → Until s k → OwnNumbers s k → Allowed s k elevation_scalar → Allowed s k coordinate_scalar
      → code_of s ≡ 5 → j < samples_of s → ((i : ℕ) → i < j → FiniteAt s (sample_at s k i)) → ¬ (FiniteAt s (sample_at s k j))
      → ReelRow s 19 (sample_at s k j)
