-- What nearest writing gives where it is taken: the numbers that it returns, what stands in its output, sample by sample, and what reading
-- that gives.
use Rattle.std.specs.Prelude.{◌≡◌, List, [], ◌∷◌, ◌++◌, ℕ, ◌+◌, ◌*◌, ◌<◌, length, take, drop, ℤ}
use Rattle.numbers.specs.Walk.{walk, sum, bytes_at}
use Rattle.numbers.specs.Outcome.{taken}
use Rattle.numbers.specs.Terms.{Bytes}
use Rattle.numbers.specs.Cause.{Fine}
use Rattle.formats.specs.Codes.{sample_bytes, word_length}
use Rattle.formats.specs.Value.{word_number}
use Rattle.formats.specs.Words.{word_of}
use Rattle.formats.specs.Nearest.{nearest_value, differs}
use Rattle.formats.specs.Written.{Word}
use Rattle.format_theorems.specs.Nearness.{NearestOf}
use Rattle.reel.specs.Layout.{code_of, samples_of, traces_of}
use Rattle.reel.specs.Causes.{causes_of}
use Rattle.reel.specs.Meaning.{meaning_of}
use Rattle.record.specs.Record.{record_of}
use Rattle.record.specs.Form.{held_samples, held_count, form_causes}
use Rattle.record.specs.Held.{held_value, held_by, renewed}
use Rattle.read_reel.specs.Reading.{read_outcome}
use Rattle.write_reel.specs.Reel.{reel_of}
use Rattle.write_reel.specs.Nearest.{nearest_meaning, meaning_changes, nearest_outcome}
use Rattle.reel_theorems.specs.ReelTable.{sample_at}
use Rattle.demands.specs.ValidRecord.{pair_place}
use Rattle.demands.specs.Results.{sample_value, RecordHolds}

-- ## Samples

-- The exact value V, over 16^70, of sample j of trace k of a record, both counted from 0: that of the pair at its place.
abbrev pub held_sample : List ℕ → ℕ → ℕ → ℤ
held_sample r k j = held_value r (pair_place r k j)

-- How many samples of a record and of a reel, of t traces of n samples each, have other values in the reel than in the record.
abbrev pub samples_changed : List ℕ → List ℕ → ℕ → ℕ → ℕ
samples_changed r reel t n = sum (walk (λ k. sum (walk (λ j. differs (held_sample r k j) (sample_value reel k j)) 1 n 0)) 1 t 0)

-- ## Writing

-- What nearest writing gives, where it returns t, n, the length l and the count c.
pub record NearestWritten (r : List ℕ) (code : ℕ) (out : List ℕ) (t n l c : ℕ) : Type 0 where
  -- The record is valid.
  pub valid : form_causes r ≡ Fine
  -- T and N are those of the record, and the length is that of a reel of T traces of N samples.
  pub traces : t ≡ held_count r (held_samples r)
  pub samples : n ≡ held_samples r
  pub size : l ≡ 3600 + t * (240 + n * sample_bytes code)
  -- The count is that of the samples that the record holds whose nearest value is another.
  pub count : c ≡ meaning_changes code (held_by r)
  -- The output's first bytes are the reel of what the record holds, each sample the nearest value of the code, and they are all of it.
  pub content : take l (nearest_outcome r code out).bytes ≡ reel_of code (nearest_meaning code (held_by r))
  pub whole : length (reel_of code (nearest_meaning code (held_by r))) ≡ l
  -- The rest of the output keeps its content.
  pub rest : drop l (nearest_outcome r code out).bytes ≡ drop l out

-- A reel written to the nearest under a code from a record r of t traces of n samples, with the count c, sample by sample.
pub record SamplesNearest (r : List ℕ) (code t n c : ℕ) (reel : List ℕ) : Type 0 where
  -- The reel has that code, and T and N of the record.
  pub code_is : code_of reel ≡ code
  pub traces : traces_of reel ≡ t
  pub samples : samples_of reel ≡ n
  -- Sample j of trace k, by the bytes of its word, has the nearest value of the code to that of the record's sample j of trace k.
  pub value : (k j : ℕ) → k < t → j < n → sample_value reel k j ≡ nearest_value code (held_sample r k j)
  -- CR 5's own sentences hold of it: no word of the code that has a value is nearer, and of two equally near it is the one nearer zero.
  pub near : (k j : ℕ) → k < t → j < n → NearestOf code (held_sample r k j) (sample_value reel k j)
  -- Its word is the one that exact writing gives for that value: under code 1 the normal one, under code 4 that of the smallest gain, under
  -- code 5 +0 for zero. It is the number of the bytes at its place.
  pub word : (k j : ℕ) → k < t → j < n → word_of code (nearest_value code (held_sample r k j)) ≡ Word (word_number code (bytes_at reel (sample_at reel k j) word_length))
  -- The count is that of the samples whose value in the reel is another than in the record.
  pub count : c ≡ samples_changed r reel t n

-- ## Reading what was written

-- What reading a reel gives that was written to the nearest under a code from a record r of t traces of n samples, into an output.
pub record NearestRead (r : List ℕ) (code t n : ℕ) (reel out : List ℕ) : Type 0 where
  -- The reel is a list of bytes, and no cause of 1 to 9, 18 and 19 applies to it.
  pub bytes : Bytes reel
  pub no_cause : causes_of reel ≡ Fine
  -- It means what the record holds, each sample the nearest value of the code: its cards, header numbers and T are the record's.
  pub means : meaning_of reel ≡ nearest_meaning code (held_by r)
  -- Reading it is taken with T, N, the length of the record r, renewed, and the count 0, and gives the record of that meaning.
  pub read : read_outcome reel out
      ≡ record { said = taken (t ∷ n ∷ length (renewed r) ∷ 0 ∷ []); bytes = record_of (nearest_meaning code (held_by r)) ++ drop (length (renewed r)) out }
  -- The output's first bytes are a valid record of T traces of N samples that holds what the reel means.
  pub holds : RecordHolds reel t n (take (length (renewed r)) (read_outcome reel out).bytes)
