-- What the calls give where they are taken: the numbers that they return, and what stands in their outputs.
use Rattle.std.specs.Prelude.{◌≡◌, List, [], ◌∷◌, ◌++◌, true, ℕ, suc, ◌+◌, ◌*◌, ◌/◌, ◌^◌, ◌≤◌, ◌<◌, length, get_or, take, drop, replicate, ℤ, pos, ◌*ℤ◌}
use Rattle.numbers.specs.Walk.{bytes_at}
use Rattle.numbers.specs.Places.{byte_no}
use Rattle.numbers.specs.Outcome.{taken}
use Rattle.numbers.specs.Terms.{All, Bytes}
use Rattle.numbers.specs.declared.ByteNo.{ByteNo}
use Rattle.numbers.specs.Cause.{Fine}
use Rattle.formats.specs.Codes.{is_code, sample_bytes, word_length}
use Rattle.formats.specs.Value.{exact_value}
use Rattle.scalars.specs.Scalar.{power_of}
use Rattle.reel.specs.Layout.{Field, card_bytes, binary_fields, elevation_scalar, coordinate_scalar, field_number, samples_of, code_of, traces_of}
use Rattle.reel.specs.Causes.{causes_of}
use Rattle.reel.specs.Meaning.{blank, other_than, elevation_fields, coordinate_fields, unscaled_fields, meaning_of, MeanTheSame}
use Rattle.reel.specs.NotNormal.{not_normal_of}
use Rattle.record.specs.Record.{record_of, reel_record}
use Rattle.record.specs.Form.{held_samples, held_count, form_causes}
use Rattle.record.specs.Held.{held_by, IsNewest}
use Rattle.read_reel.specs.Reading.{read_outcome}
use Rattle.write_reel.specs.Reel.{reel_of}
use Rattle.write_reel.specs.Writing.{write_outcome}
use Rattle.look_up.specs.LookUp.{found, field_at, header_number}
use Rattle.reel_theorems.specs.ReelTable.{sample_at}
use Rattle.demands.specs.Words.{Worded}

-- ## Reading a reel

-- What reading a reel gives, where it returns t, n, the length l and the count c.
pub record RecordRead (s out : List ℕ) (t n l c : ℕ) : Type 0 where
  -- T and N are those of the reel, and the length is that of a record of T traces of N samples.
  pub traces : t ≡ traces_of s
  pub samples : n ≡ samples_of s
  pub size : l ≡ 3273 + t * (183 + (3 * ((n + 5999) / 6000) + n * 6))
  -- The count is that of the reel's words that are not normal.
  pub count : c ≡ not_normal_of s
  -- The output's first bytes are the record of what the reel means, and they are all of it.
  pub content : take l (read_outcome s out).bytes ≡ record_of (meaning_of s)
  pub whole : length (record_of (meaning_of s)) ≡ l
  -- The rest of the output keeps its content.
  pub rest : drop l (read_outcome s out).bytes ≡ drop l out

-- r is a valid record, with the T and N of t and n, that holds what the reel s means.
pub record RecordHolds (s : List ℕ) (t n : ℕ) (r : List ℕ) : Type 0 where
  -- It is a list of bytes, and it is valid: neither 12 nor 13 applies to it, which `valid_is` spells out.
  pub bytes : Bytes r
  pub valid : form_causes r ≡ Fine
  -- It is in the newest form, no trace of it in the earlier single field: "Reading always gives the new form" (document 02, CR 8).
  pub newest : IsNewest r
  -- It holds what the reel means.
  pub holds : held_by r ≡ meaning_of s
  -- Its T and N are t and n.
  pub traces : held_count r (held_samples r) ≡ t
  pub samples : held_samples r ≡ n

-- The exact value V, over 16^70, of sample j of trace k, both counted from 0, by the bytes from its place on.
abbrev pub sample_value : List ℕ → ℕ → ℕ → ℤ
sample_value s k j = exact_value (code_of s) (bytes_at s (sample_at s k j) word_length)

-- The scaled value, over 10,000, of a field of trace k, counted from 0, under the scalar in another field: by the bare numbers that looking
-- up gives (header k + 1 is that of trace k).
abbrev pub scaled_value : List ℕ → ℕ → Field → Field → ℤ
scaled_value s k scalar f = header_number s (suc k) f *ℤ pos (10 ^ power_of (header_number s (suc k) scalar))

-- Two reels agree number by number: each card byte, with 40 for a 00; each binary field but the format code; T; of each trace header the 58
-- unscaled fields, with 115 and 117 filled in, the scaled value of each elevation and of each coordinate; and each sample's exact value. N is
-- one of the binary fields, so the traces of both have as many samples.
pub record Agree (s₁ s₂ : List ℕ) : Type 0 where
  pub cards : (j : ℕ) → j < card_bytes → blank (get_or s₁ j 0) ≡ blank (get_or s₂ j 0)
  pub binary : All (λ f. field_number s₁ 0 f ≡ field_number s₂ 0 f) (other_than 3225 binary_fields)
  pub count : traces_of s₁ ≡ traces_of s₂
  pub numbers : (k : ℕ) → k < traces_of s₁ → All (λ f. header_number s₁ (suc k) f ≡ header_number s₂ (suc k) f) unscaled_fields
  pub elevations : (k : ℕ) → k < traces_of s₁ → All (λ f. scaled_value s₁ k elevation_scalar f ≡ scaled_value s₂ k elevation_scalar f) elevation_fields
  pub coordinates : (k : ℕ) → k < traces_of s₁ → All (λ f. scaled_value s₁ k coordinate_scalar f ≡ scaled_value s₂ k coordinate_scalar f) coordinate_fields
  pub values : (k j : ℕ) → k < traces_of s₁ → j < samples_of s₁ → sample_value s₁ k j ≡ sample_value s₂ k j

-- A reel of 3,200 bytes 40, a binary header all 0 but interval 2000, N 2, code 1, and one trace with a zero header and the eight bytes of two
-- words.
abbrev pub example_with : List ℕ → List ℕ
example_with words =
    replicate 3200 0x40
    ++ (replicate 16 0
    ++ (0x07 ∷ 0xD0 ∷ 0 ∷ 0 ∷ 0 ∷ 2 ∷ 0 ∷ 0 ∷ 0 ∷ 1
    ∷ (replicate 374 0
    ++ (replicate 240 0 ++ words))))

-- Document 01's example, whose words are 41100000 C276A000.
abbrev pub example : List ℕ
example = example_with (0x41 ∷ 0x10 ∷ 0 ∷ 0 ∷ 0xC2 ∷ 0x76 ∷ 0xA0 ∷ 0 ∷ [])

-- ## Writing a record

-- What it takes to write a record: the code is one of the codes, it holds every sample exactly, and the output is long enough.
pub record CanBeWritten (r : List ℕ) (code : ℕ) (out : List ℕ) : Type 0 where
  pub code_is : is_code code ≡ true
  pub held : Worded code (held_by r).traces
  pub room : 3600 + held_count r (held_samples r) * (240 + held_samples r * sample_bytes code) ≤ length out

-- What writing a record gives, where it returns t, n and the length l.
pub record ReelWritten (r : List ℕ) (code : ℕ) (out : List ℕ) (t n l : ℕ) : Type 0 where
  -- The record is valid.
  pub valid : form_causes r ≡ Fine
  -- T and N are those of the record, and the length is that of a reel of T traces of N samples.
  pub traces : t ≡ held_count r (held_samples r)
  pub samples : n ≡ held_samples r
  pub size : l ≡ 3600 + t * (240 + n * sample_bytes code)
  -- The output's first bytes are the reel of what the record holds, and they are all of it.
  pub content : take l (write_outcome r code out).bytes ≡ reel_of code (held_by r)
  pub whole : length (reel_of code (held_by r)) ≡ l
  -- The rest of the output keeps its content.
  pub rest : drop l (write_outcome r code out).bytes ≡ drop l out

-- ## Writing the record of a reel

-- What a reel is that was written, under a code, from the record r of the reel s, where the reading returned t, n, l and a count and the writing
-- returned t₂, n₂ and l₂.
pub record ReelAgain (s : List ℕ) (t n l : ℕ) (r : List ℕ) (code t₂ n₂ l₂ : ℕ) (reel : List ℕ) : Type 0 where
  -- The writing returned the same T and N, and the length of a reel of T traces of N samples under the code.
  pub traces : t₂ ≡ t
  pub samples : n₂ ≡ n
  pub size : l₂ ≡ 3600 + t * (240 + n * sample_bytes code)
  -- No cause of 1 to 9, 18 and 19 applies to the reel that was written, and its format code is the one asked for.
  pub no_cause : causes_of reel ≡ Fine
  pub code_is : code_of reel ≡ code
  -- It means the same as the reel s.
  pub means : MeanTheSame s reel
  -- Its record is r,
  pub has : reel_record reel ≡ r
  -- and reading it into any output that is long enough returns t, n, l and the count 0 and gives r.
  pub read : (out : List ℕ) → l ≤ length out → read_outcome reel out ≡ record { said = taken (t ∷ n ∷ l ∷ 0 ∷ []); bytes = r ++ drop l out }

-- What the reel s, whose reading returned t, n, l and a count and gave the record r, has under its own code.
pub record OwnCode (s : List ℕ) (t n : ℕ) (r : List ℕ) : Type 0 where
  -- The code is one of the codes, and each sample value has a word under it.
  pub code_is : is_code (code_of s) ≡ true
  pub words : Worded (code_of s) (meaning_of s).traces
  -- The record is written under it into any output with room for the reel, as a reel of the same length.
  pub writes : (out : List ℕ) → length s ≤ length out → (write_outcome r (code_of s) out).said ≡ taken (t ∷ n ∷ length s ∷ [])

-- ## Looking up a field

-- z is the number of an assigned field of header k that begins at byte number b.
pub record AssignedNumber (s : List ℕ) (k : ℕ) (b : ByteNo) (z : ℤ) : Type 0 where
  pub field : Field
  pub assigned : field_at k b ≡ found field
  pub begins : field.begins ≡ byte_no b
  pub number : z ≡ header_number s k field
