-- What reading an Eagle reel gives, what is written from its record, when two Eagle reels differ in nothing that carries meaning, and bytes
-- that both calls take.
use Rattle.std.specs.Prelude.{◌≡◌, List, [], ◌∷◌, ◌++◌, ℕ, ◌+◌, ◌*◌, ◌≤◌, ◌<◌, ◌/◌, length, get_or, take, drop, replicate}
use Rattle.numbers.specs.Walk.{walk, flat, bytes_at}
use Rattle.numbers.specs.BigEndian.{number}
use Rattle.numbers.specs.Outcome.{taken}
use Rattle.numbers.specs.Cause.{Fine}
use Rattle.formats.specs.Codes.{sample_bytes}
use Rattle.reel.specs.Layout.{samples_of, code_of}
use Rattle.reel.specs.Causes.{causes_of}
use Rattle.reel.specs.Meaning.{meaning_by, meaning_of, SameMeaning}
use Rattle.reel.specs.NotNormal.{not_normal_by}
use Rattle.reel.specs.declared.Layout.TheVariants.{Eagle}
use Rattle.record.specs.Record.{record_of, reel_record}
use Rattle.read_reel.specs.Reading.{read_outcome_by, read_outcome}
use Rattle.eagle_theorems.specs.EagleTable.{eagle_length, eagle_at, eagle_count}

-- What reading an Eagle reel gives, where it returns t, n, the length l and the count c.
pub record EagleRead (s out : List ℕ) (t n l c : ℕ) : Type 0 where
  -- T is the count of whole traces, each with its trailer; N is the reel's; and the length is that of a record of T traces of N samples.
  pub traces : t ≡ eagle_count s
  pub samples : n ≡ samples_of s
  pub size : l ≡ 3273 + t * (183 + (3 * ((n + 5999) / 6000) + n * 6))
  -- The count is that of the reel's words that are not normal; what stands in a trailer is no word.
  pub count : c ≡ not_normal_by Eagle s
  -- The output's first bytes are the record of what the reel means by the Eagle layout, and they are all of it.
  pub content : take l (read_outcome_by Eagle s out).bytes ≡ record_of (meaning_by Eagle s)
  pub whole : length (record_of (meaning_by Eagle s)) ≡ l
  -- The rest of the output keeps its content.
  pub rest : drop l (read_outcome_by Eagle s out).bytes ≡ drop l out

-- What a plain reel is that was written, under a code, from the record r of the Eagle reel s, where the reading returned t, n, l and a count
-- and the writing returned t₂, n₂ and l₂.
pub record PlainAgain (s : List ℕ) (t n l : ℕ) (r : List ℕ) (code t₂ n₂ l₂ : ℕ) (reel : List ℕ) : Type 0 where
  -- The writing returned the same T and N, and the length of a plain reel of T traces of N samples under the code.
  pub traces : t₂ ≡ t
  pub samples : n₂ ≡ n
  pub size : l₂ ≡ 3600 + t * (240 + n * sample_bytes code)
  -- No cause of 1 to 9, 18 and 19 applies to it, and its format code is the one asked for.
  pub no_cause : causes_of reel ≡ Fine
  pub code_is : code_of reel ≡ code
  -- As a plain reel it means what s means as an Eagle reel.
  pub means : SameMeaning (meaning_by Eagle s) (meaning_of reel)
  -- Its record is r,
  pub has : reel_record reel ≡ r
  -- and reading it as a plain reel into any output that is long enough returns t, n, l and the count 0 and gives r.
  pub read : (out : List ℕ) → l ≤ length out → read_outcome reel out ≡ record { said = taken (t ∷ n ∷ l ∷ 0 ∷ []); bytes = r ++ drop l out }

-- The words of an Eagle reel, each as a number of 32 bits, trace by trace: N of them, 240 bytes behind the beginning of each trace.
unfoldable pub eagle_words : List ℕ → List ℕ
eagle_words s = flat (walk (λ at. walk (λ p. number (bytes_at s p 4)) 4 (samples_of s) (at + 240)) (eagle_length s) (eagle_count s) 3600)

-- Two Eagle reels differ in nothing that carries meaning: they are of the same length, with the same card bytes before columns 79 and 80 of
-- card 40, the same 60 bytes of the assigned binary fields, and in each trace the same 180 bytes of the assigned fields and the same words.
-- So they differ in trailers, in the check on card 40 and in unassigned bytes at most, where document 004 has its checks of headers. T and
-- N are those of the first.
pub record Alike (s₁ s₂ : List ℕ) : Type 0 where
  pub size : length s₁ ≡ length s₂
  pub cards : (p : ℕ) → p < 3198 → get_or s₁ p 0 ≡ get_or s₂ p 0
  pub binary : (p : ℕ) → p < 60 → get_or s₁ (3200 + p) 0 ≡ get_or s₂ (3200 + p) 0
  pub headers : (k p : ℕ) → k < eagle_count s₁ → p < 180 → get_or s₁ (eagle_at s₁ k + p) 0 ≡ get_or s₂ (eagle_at s₁ k + p) 0
  pub words : (k p : ℕ) → k < eagle_count s₁ → p < samples_of s₁ * 4 → get_or s₁ (eagle_at s₁ k + 240 + p) 0 ≡ get_or s₂ (eagle_at s₁ k + 240 + p) 0

-- Bytes that are a plain reel of four traces and an Eagle reel of one: 3,200 bytes 40, a binary header all 0 but interval 2000, N 20, code 1,
-- 320 bytes 00 of a header and 20 words, and 960 bytes that are a trailer, or three traces more: all 00 but a word 42010000, the first
-- sample of the second plain trace, and FFFF at the end, in the last sample of the fourth.
abbrev pub both_layouts : List ℕ
both_layouts =
    replicate 3200 0x40
    ++ (replicate 16 0
    ++ (0x07 ∷ 0xD0 ∷ 0 ∷ 0 ∷ 0 ∷ 20 ∷ 0 ∷ 0 ∷ 0 ∷ 1
    ∷ (replicate 374 0
    ++ (replicate 320 0
    ++ (replicate 240 0
    ++ (0x42 ∷ 0x01 ∷ 0 ∷ 0
    ∷ (replicate 714 0
    ++ (0xFF ∷ 0xFF ∷ []))))))))
