-- Document 01's table, "When a call declines", for each call: the rows against it, in the order in which they are looked for. A row says in
-- which case it applies, its number, and what stands beside it; as the order sets, it applies only where no row before it does.
use Rattle.std.specs.Prelude.{◌≡◌, List, true, ℕ, ◌+◌, ◌*◌, ◌≤◌, ◌<◌, length, get_or}
use Rattle.numbers.specs.Walk.{bytes_at}
use Rattle.numbers.specs.Places.{byte_no}
use Rattle.numbers.specs.BigEndian.{number}
use Rattle.numbers.specs.Terms.{All, Between}
use Rattle.numbers.specs.declared.ByteNo.{ByteNo}
use Rattle.formats.specs.Codes.{is_code}
use Rattle.value.specs.Pair.{value_of, is_canonical, pair_in}
use Rattle.reel.specs.Layout.{elevation_scalar, coordinate_scalar, number16, traces_of}
use Rattle.reel.specs.Meaning.{elevation_fields, coordinate_fields}
use Rattle.record.specs.Form.{held_interval, held_samples, held_code}
use Rattle.record.specs.Held.{held_value}
use Rattle.read_reel.specs.Reading.{record_length_of}
use Rattle.write_reel.specs.Reel.{reel_length}
use Rattle.look_up.specs.LookUp.{header_fields}
use Rattle.reel_theorems.specs.ReelTable.{ZeroFirst, FiniteAt, ReelRow}
use Rattle.demands.specs.ValidRecord.{Stands, CanonicalAt, trace_place, header_place, share_of, field_place, pair_place, CardsRight, SmallestAt, ScalarsRight, HeaderRight, FieldRight, TraceNext, EndNext, RecordRight}
use Rattle.fields.specs.Fields.{fields_in}
use Rattle.demands.specs.Words.{HasWord}

-- ## Reading

-- "Reading: 1 to 6 in that order; then trace by trace 7, 8, 9 (first such word); then 10." And 18 "in each trace after 8, field 69 first"
-- (document 02, CR 2), and 19 "where 9 stands" (CR 4). The rows of 1 to 9, 18 and 19 are `ReelRow`, in `ReelTable` of `reel_theorems`; the output has `room` bytes.
pub data ReadRow (s : List ℕ) (room : ℕ) : ℕ → ℕ → Type 0 where
  -- 1 to 9, 18 and 19: a row of their table applies to the reel
  by_reel : {number place : ℕ} → ReelRow s number place → ReadRow s room number place
  -- 10: none of them applies, and the output is too short for the record, with the record's length, 3273 + T × (183 + 3F + 6N), F fields a trace
  short_output : ((number place : ℕ) → ¬ (ReelRow s number place)) → room < record_length_of s → ReadRow s room 10 (record_length_of s)

-- ## The form of a record

-- The rows of 12 and 13: "the record front to back, each field first by 12, then by 13". "Number 12: a wrong tag, a wrong length, a field
-- cut short or missing, trace 100,001 (place where that field's tag stands or should stand); a wrong count in tag 05 (place of its tag);
-- bytes after it (place of the first). Number 13: a card byte 00, a format code other than 0, N or an interval outside its limits, trace
-- fields 115 or 117 unlike the reel's, a pair that isn't canonical; the place is its first byte, and in tag 02 the order is interval, N,
-- code." And document 02 (CR 2): "A record with any scalar but that of this smallest power, an earlier record too, is refused by 13 at that
-- scalar; in tag 03 the order is 69, 71, 115, 117." Traces k, sample fields f and pairs j are counted from 0.
pub data FormRow (s : List ℕ) : ℕ → ℕ → Type 0 where
  -- 12: tag 01 doesn't stand at the front, whole and with its 3,200 bytes
  no_cards : ¬ (Stands s 1 3200 0) → FormRow s 12 0
  -- 13: a card byte is 00, the first such
  bad_card : (j : ℕ) → Stands s 1 3200 0 → j < 3200 → ((i : ℕ) → i < j → ¬ (get_or s (3 + i) 0 ≡ 0)) → get_or s (3 + j) 0 ≡ 0 → FormRow s 13 (3 + j)
  -- 12: tag 02 doesn't stand behind it, whole and with its 60 bytes; 3203 is behind the 3 + 3200 bytes of tag 01
  no_binary : CardsRight s → ¬ (Stands s 2 60 3203) → FormRow s 12 3203
  -- 13: in tag 02, first an interval that is not 1 to 32,767; the content of tag 02, byte numbers 3201 to 3260, begins at 3206, so byte
  -- number 3217 stands at 3222
  bad_held_interval : CardsRight s → Stands s 2 60 3203 → ¬ (Between 1 32767 (held_interval s)) → FormRow s 13 3222
  -- 13: then N that is not 1 to 32,767; byte number 3221 stands at 3226
  bad_held_samples : CardsRight s → Stands s 2 60 3203 → Between 1 32767 (held_interval s) → ¬ (Between 1 32767 (held_samples s)) → FormRow s 13 3226
  -- 13: then a format code other than 0; byte number 3225 stands at 3230
  bad_held_code : CardsRight s → Stands s 2 60 3203 → Between 1 32767 (held_interval s) → Between 1 32767 (held_samples s) → ¬ (held_code s ≡ 0)
      → FormRow s 13 3230
  -- 12: tag 03 of trace k is cut short or has a wrong length
  no_header : (k : ℕ) → TraceNext s k → ¬ (Stands s 3 180 (trace_place s k)) → FormRow s 12 (trace_place s k)
  -- 13: its field 69 is not the scalar of the smallest power of its elevations
  bad_held_69 : (k : ℕ) → TraceNext s k → Stands s 3 180 (trace_place s k) → ¬ (SmallestAt s k elevation_fields elevation_scalar)
      → FormRow s 13 (header_place s k 69)
  -- 13: its field 71 is not the scalar of the smallest power of its coordinates
  bad_held_71 : (k : ℕ) → TraceNext s k → Stands s 3 180 (trace_place s k) → SmallestAt s k elevation_fields elevation_scalar
      → ¬ (SmallestAt s k coordinate_fields coordinate_scalar)
      → FormRow s 13 (header_place s k 71)
  -- 13: its field 115 is not N
  bad_held_115 : (k : ℕ) → TraceNext s k → ScalarsRight s k → ¬ (number16 s (header_place s k 115) ≡ held_samples s)
      → FormRow s 13 (header_place s k 115)
  -- 13: its field 117 is not the interval
  bad_held_117 : (k : ℕ) → TraceNext s k → ScalarsRight s k → number16 s (header_place s k 115) ≡ held_samples s
      → ¬ (number16 s (header_place s k 117) ≡ held_interval s)
      → FormRow s 13 (header_place s k 117)
  -- 12: sample field f of trace k doesn't stand, whole and with its pairs; those before it do, and their pairs are canonical
  no_sample_field : (k f : ℕ) → TraceNext s k → HeaderRight s k → f < fields_in (share_of s k) (held_samples s) → ((g : ℕ) → g < f → FieldRight s k g)
      → ((j : ℕ) → j < f * share_of s k → CanonicalAt s (pair_place s k j)) → ¬ (FieldRight s k f)
      → FormRow s 12 (field_place s k f)
  -- 13: pair j of it isn't canonical, the first such; its field and those before it stand
  bad_pair : (k j : ℕ) → TraceNext s k → HeaderRight s k → j < held_samples s → ((g : ℕ) → g * share_of s k ≤ j → FieldRight s k g)
      → ((i : ℕ) → i < j → CanonicalAt s (pair_place s k i)) → ¬ (CanonicalAt s (pair_place s k j))
      → FormRow s 13 (pair_place s k j)
  -- 12: tag 05 does not stand behind t traces, whole and with its 4 bytes; another tag, so also that of trace 100,001, may stand there
  no_end : (t : ℕ) → EndNext s t → ¬ (Stands s 5 4 (trace_place s t)) → FormRow s 12 (trace_place s t)
  -- 12: the count in tag 05 is not t, at its tag
  bad_count : (t : ℕ) → EndNext s t → Stands s 5 4 (trace_place s t) → ¬ (number (bytes_at s (trace_place s t + 3) 4) ≡ t) → FormRow s 12 (trace_place s t)
  -- 12: bytes come after tag 05, at the first of them; 7 is the 3 + 4 bytes of tag 05
  after : (t : ℕ) → EndNext s t → Stands s 5 4 (trace_place s t) → number (bytes_at s (trace_place s t + 3) 4) ≡ t → trace_place s t + 7 < length s
      → FormRow s 12 (trace_place s t + 7)

-- ## Writing

-- Sample j of trace k fits the target: some word of the code has the value of its pair.
abbrev pub Fits : List ℕ → ℕ → ℕ → ℕ → Type 0
Fits s code k j = HasWord code (held_value s (pair_place s k j))

-- "Writing: 11; then the record front to back, each field first by 12, then by 13; then 14, first sample first; then 10." The output has
-- `room` bytes.
pub data WriteRow (s : List ℕ) (code room : ℕ) : ℕ → ℕ → Type 0 where
  -- 11: the target code is none of 1, 2, 3, 4, 5, 8
  bad_target : ¬ (is_code code ≡ true) → WriteRow s code room 11 0
  -- 12 and 13: a row of their table applies to the record
  by_form : {number place : ℕ} → is_code code ≡ true → FormRow s number place → WriteRow s code room number place
  -- 14: a sample doesn't fit the target, the first such, at its pair
  unfit : (t k j : ℕ) → is_code code ≡ true → RecordRight s t → k < t → j < held_samples s → ((h i : ℕ) → h < k → i < held_samples s → Fits s code h i)
      → ((i : ℕ) → i < j → Fits s code k i) → ¬ (Fits s code k j)
      → WriteRow s code room 14 (pair_place s k j)
  -- 10: the output is too short for the reel, with the reel's length
  short_output : (t : ℕ) → is_code code ≡ true → RecordRight s t → ((k j : ℕ) → k < t → j < held_samples s → Fits s code k j)
      → room < reel_length code t (held_samples s)
      → WriteRow s code room 10 (reel_length code t (held_samples s))

-- ## Single samples

-- "A single word is refused by 2, then 9; a single pair by 11, 13, 14; the place is 0", and by 19 "where 9 stands" (document 02, CR 4): the
-- rows of a single word w, four bytes.
pub data WordRow (code : ℕ) (w : List ℕ) : ℕ → ℕ → Type 0 where
  -- 2: the format code is none of 1, 2, 3, 4, 5, 8
  bad_code : ¬ (is_code code ≡ true) → WordRow code w 2 0
  -- 9: the first byte of a gain word is not 00
  bad_gain : code ≡ 4 → ¬ (ZeroFirst w 0) → WordRow code w 9 0
  -- 19: an IEEE word is an infinity or a not-a-number
  not_finite : code ≡ 5 → ¬ (FiniteAt w 0) → WordRow code w 19 0

-- The rows of a single pair b, six bytes.
pub data PairRow (code : ℕ) (b : List ℕ) : ℕ → ℕ → Type 0 where
  -- 11: the target code is none of 1, 2, 3, 4, 5, 8
  bad_target : ¬ (is_code code ≡ true) → PairRow code b 11 0
  -- 13: the pair isn't canonical
  bad_pair : is_code code ≡ true → ¬ (is_canonical (pair_in b) ≡ true) → PairRow code b 13 0
  -- 14: it doesn't fit: no word of the code has its value
  unfit : is_code code ≡ true → is_canonical (pair_in b) ≡ true → ¬ (HasWord code (value_of (pair_in b))) → PairRow code b 14 0

-- ## Looking up a field

-- No assigned field of header k begins at byte number b.
abbrev pub NoField : ℕ → ByteNo → Type 0
NoField k b = All (λ f. ¬ (f.begins ≡ byte_no b)) (header_fields k)

-- "Look-up takes a reel, a trace number (0 means the binary header, 1 the first trace) and a byte number. It refuses by 1 to 9, then 15,
-- then 16." And by 18, where reading does: "look-up included" (document 02, CR 2), and by 19, "where 9 stands" (CR 4). The trace number is k, the byte number b.
pub data LookUpRow (s : List ℕ) (k : ℕ) (b : ByteNo) : ℕ → ℕ → Type 0 where
  -- 1 to 9, 18 and 19: a row of their table applies to the reel
  by_reel : {number place : ℕ} → ReelRow s number place → LookUpRow s k b number place
  -- 15: the reel has no trace k
  no_trace : ((number place : ℕ) → ¬ (ReelRow s number place)) → traces_of s < k → LookUpRow s k b 15 0
  -- 16: no assigned field of that header begins at b
  no_field : ((number place : ℕ) → ¬ (ReelRow s number place)) → k ≤ traces_of s → NoField k b → LookUpRow s k b 16 0
