-- What a valid record is, tag by tag and front to back. Document 01: "A record is valid when neither 12 nor 13 applies to it." `valid_is`,
-- in `proofs/Determined`, shows that this is the same.
use Rattle.std.specs.Prelude.{◌≡◌, List, map, ◌⊎◌, true, ◌&&◌, ℕ, ◌+◌, ◌*◌, ◌≤◌, ◌<◌, length, get_or, ltb, leb, eqb}
use Rattle.numbers.specs.Walk.{pick, bytes_at}
use Rattle.numbers.specs.Places.{byte_place}
use Rattle.numbers.specs.BigEndian.{number}
use Rattle.numbers.specs.Terms.{Between}
use Rattle.value.specs.Pair.{is_canonical, pair_length, pair_in}
use Rattle.scalars.specs.Scalar.{is_smallest}
use Rattle.reel.specs.Layout.{Field, elevation_scalar, coordinate_scalar, field_number, number16}
use Rattle.reel.specs.Meaning.{elevation_fields, coordinate_fields}
use Rattle.fields.specs.Fields as fields
use Rattle.fields.specs.Fields.{fields_in, field_count}
use Rattle.record.specs.Form as form
use Rattle.record.specs.Form.{held_interval, held_samples, held_code}

-- ## Places

-- A field of this tag and length stands whole at the place `at`.
pub record Stands (s : List ℕ) (tag size at : ℕ) : Type 0 where
  pub whole : at + (3 + size) ≤ length s
  pub tag_is : get_or s at 0 ≡ tag
  pub size_is : number16 s (at + 1) ≡ size

-- The pair at a place is canonical.
abbrev pub CanonicalAt : List ℕ → ℕ → Type 0
CanonicalAt s at = is_canonical (pair_in (bytes_at s at pair_length)) ≡ true

-- The place of trace k in a record, counted from 0: behind the trace before it, whatever form that has; behind the last trace it is the
-- place of tag 05.
abbrev pub trace_place : List ℕ → ℕ → ℕ
trace_place s k = form.trace_place s (held_samples s) k

-- The place where trace k's header begins, behind tag 03 and its length: byte number 1 stands there.
abbrev pub header_start : List ℕ → ℕ → ℕ
header_start s k = trace_place s k + 3

-- The place of byte number b of trace k's header.
abbrev pub header_place : List ℕ → ℕ → ℕ → ℕ
header_place s k b = byte_place (header_start s k) b

-- The samples of each sample field of trace k but the last: all N where it has the earlier single field of 6,001 to 8,000 samples, which the
-- length behind its first tag 04 says, else 6,000. That tag stands 183 bytes on, behind the 3 + 180 bytes of tag 03.
abbrev pub share_of : List ℕ → ℕ → ℕ
share_of s k =
    let n = held_samples s in
    pick ((ltb 6000 n && leb n 8000) && eqb (number16 s (trace_place s k + 183 + 1)) (n * 6)) n 6000

-- The place of its sample field f, and of its pair j, both counted from 0.
abbrev pub field_place : List ℕ → ℕ → ℕ → ℕ
field_place s k f = fields.field_place 6 (share_of s k) (trace_place s k + 183) f

abbrev pub pair_place : List ℕ → ℕ → ℕ → ℕ
pair_place s k j = fields.pair_place 6 (share_of s k) (trace_place s k + 183) j

-- ## Tag by tag

-- Tag 01 stands at the front with its 3,200 card bytes, none of them 00.
pub record CardsRight (s : List ℕ) : Type 0 where
  pub cards : Stands s 1 3200 0
  pub card_bytes : (j : ℕ) → j < 3200 → ¬ (get_or s (3 + j) 0 ≡ 0)

-- Then tag 02 stands with its 60 bytes: interval and N are within their limits, and the format code is 0. Its place is 3203, behind the
-- 3 + 3200 bytes of tag 01.
pub record HeadRight (s : List ℕ) : Type 0 where
  pub front : CardsRight s
  pub binary : Stands s 2 60 3203
  pub interval : Between 1 32767 (held_interval s)
  pub samples : Between 1 32767 (held_samples s)
  pub code : held_code s ≡ 0

-- The scalar in a field of trace k's header is that of the smallest power of the group of fields that it acts on; `scalar_means`, in
-- `proofs/Scalars`, spells that out.
abbrev pub SmallestAt : List ℕ → ℕ → List Field → Field → Type 0
SmallestAt s k fields scalar = is_smallest (map (field_number s (header_start s k)) fields) (field_number s (header_start s k) scalar) ≡ true

-- Tag 03 of trace k stands with its 180 bytes, and its fields 69 and 71 are the scalars of the smallest powers.
pub record ScalarsRight (s : List ℕ) (k : ℕ) : Type 0 where
  pub header : Stands s 3 180 (trace_place s k)
  pub elevations : SmallestAt s k elevation_fields elevation_scalar
  pub coordinates : SmallestAt s k coordinate_fields coordinate_scalar

-- And its field 115 is N and field 117 the interval.
pub record HeaderRight (s : List ℕ) (k : ℕ) : Type 0 where
  pub front : ScalarsRight s k
  pub count : number16 s (header_place s k 115) ≡ held_samples s
  pub interval : number16 s (header_place s k 117) ≡ held_interval s

-- Its sample field f stands: tag 04 with as many pairs as belong there.
abbrev pub FieldRight : List ℕ → ℕ → ℕ → Type 0
FieldRight s k f = Stands s 4 (field_count (share_of s k) (held_samples s) f * 6) (field_place s k f)

-- Trace k stands: tag 03 is right, then each of its sample fields stands, and its N pairs are canonical.
pub record TraceRight (s : List ℕ) (k : ℕ) : Type 0 where
  pub front : HeaderRight s k
  pub fields : (f : ℕ) → f < fields_in (share_of s k) (held_samples s) → FieldRight s k f
  pub pairs : (j : ℕ) → j < held_samples s → CanonicalAt s (pair_place s k j)

-- All is right up to trace k: tags 01 and 02, and the k traces before it.
pub record RightUntil (s : List ℕ) (k : ℕ) : Type 0 where
  pub head : HeadRight s
  pub before : (i : ℕ) → i < k → TraceRight s i

-- All is right up to trace k, and another trace begins there: its tag is 03, and it is none beyond the 100,000th.
pub record TraceNext (s : List ℕ) (k : ℕ) : Type 0 where
  pub until : RightUntil s k
  pub few : k < 100000
  pub tag : get_or s (trace_place s k) 0 ≡ 3

-- All is right up to the end of t traces, and tag 05 should follow: no tag 03 does, or it would be that of trace 100,001.
pub record EndNext (s : List ℕ) (t : ℕ) : Type 0 where
  pub until : RightUntil s t
  pub few : t ≤ 100000
  pub end : (t ≡ 100000) ⊎ (¬ (get_or s (trace_place s t) 0 ≡ 3))

-- A valid record of t traces, to which neither 12 nor 13 applies: behind its traces tag 05 holds their count, and no byte comes after it.
-- Tag 05 is 7 bytes, 3 + 4.
pub record RecordRight (s : List ℕ) (t : ℕ) : Type 0 where
  pub end : EndNext s t
  pub field : Stands s 5 4 (trace_place s t)
  pub count : number (bytes_at s (trace_place s t + 3) 4) ≡ t
  pub last : length s ≤ trace_place s t + 7

-- ## Records as they were before CR 8

-- The place of trace k, counted from 0, where each trace before it has the single field: tag 03 is 183 bytes, tag 04 is 3 + 6N.
abbrev pub earlier_place : List ℕ → ℕ → ℕ
earlier_place s k = 3266 + k * (186 + held_samples s * 6)

-- A record of t traces as it was before CR 8: N is at most 8,000, and all N samples of a trace stand in one field. (The headers are said by the
-- number of their trace; `earlier_places`, in `proofs/Earlier`, says that trace k stands at this place.)
pub record EarlierRecord (s : List ℕ) (t : ℕ) : Type 0 where
  pub head : HeadRight s
  pub few_samples : held_samples s ≤ 8000
  pub few : t ≤ 100000
  pub headers : (k : ℕ) → k < t → HeaderRight s k
  pub fields : (k : ℕ) → k < t → Stands s 4 (held_samples s * 6) (earlier_place s k + 183)
  pub pairs : (k j : ℕ) → k < t → j < held_samples s → CanonicalAt s (earlier_place s k + 186 + j * 6)
  pub field : Stands s 5 4 (earlier_place s t)
  pub count : number (bytes_at s (earlier_place s t + 3) 4) ≡ t
  pub last : length s ≤ earlier_place s t + 7
