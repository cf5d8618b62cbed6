-- The single-sample calls: the complete outcome of each.
use Rattle.std.specs.Prelude.{ℕ, ◌-◌, List, [], ◌∷◌, ◌++◌, replicate, Bool, Result, Ok, Err}
use Rattle.numbers.specs.BigEndian.{bytes_of}
use Rattle.numbers.specs.Places.{place_no}
use Rattle.numbers.specs.Outcome.{Said, taken, refused, Outcome}
use Rattle.formats.specs.Codes.{sample_bytes, word_length}
use Rattle.value.specs.Pair.{pair_length, pair_bytes, pair_in}
use Rattle.value.specs.Writing.{write_pair}
use Rattle.numbers.specs.Walk.{pick}
use Rattle.numbers.specs.Cause.{cause_no}
use Rattle.numbers.specs.declared.Cause.{Cause}
use Rattle.numbers.specs.declared.Refusal.{Refusal}
use Rattle.formats.specs.Written.{Written}
use Rattle.formats.specs.Written as written
use Rattle.sample.specs.Reading.{Sample, not_normal, read_word}
use Rattle.sample.specs.Reading as sample
use Rattle.sample.specs.declared.WordRead.{WordRead}
use Rattle.sample.specs.declared.PairWritten.{PairWritten}

-- Document 01's number and place for each case of the answer of writing a pair.
abbrev pub said_by : Result (Unit {0}) Refusal → Said
said_by (Ok v) = taken []
said_by (Err r) = refused (cause_no r.cause) (place_no r.place)

-- The same of reading a word, which is taken with one value, document 02's 1 or 0.
abbrev pub word_said : Result Bool Refusal → Said
word_said (Ok c) = taken (pick c 1 0 ∷ [])
word_said (Err r) = refused (cause_no r.cause) (place_no r.place)

-- What reading a word hands out, in document 01's terms; and what writing a pair does.
abbrev pub word_read : WordRead → Outcome
word_read r = record { said = word_said r.answer; bytes = r.pair }

abbrev pub pair_written : PairWritten → Outcome
pair_written r = record { said = said_by r.answer; bytes = r.word }

-- The outcome of reading a word, by what was found, and by its count where it is taken: beside a refusal the place is 0 and the bytes handed
-- out are all 00.
abbrev pub read_said : ℕ → Sample → Outcome
read_said count (sample.Taken e m) = record { said = taken (count ∷ []); bytes = pair_bytes e m }
read_said count (sample.Refused number) = record { said = refused number 0; bytes = replicate pair_length 0 }

-- The outcome of reading a single word under a code.
abbrev pub word_outcome : ℕ → List ℕ → Outcome
word_outcome code w = read_said (not_normal code w) (read_word code w)

-- A word in the four bytes of a single word: as many as a sample of the code has, then 00.
abbrev pub single_word : ℕ → ℕ → List ℕ
single_word code n = bytes_of (sample_bytes code) n ++ replicate (word_length - sample_bytes code) 0

-- The outcome of writing a pair under a code, by what was found.
abbrev pub write_said : ℕ → Written → Outcome
write_said code (written.Word n) = record { said = taken []; bytes = single_word code n }
write_said code (written.Refused number) = record { said = refused number 0; bytes = replicate word_length 0 }

-- The outcome of writing a single pair under a code.
abbrev pub pair_outcome : ℕ → List ℕ → Outcome
pair_outcome code b = write_said code (write_pair code (pair_in b))

-- The same by what a function found: the bytes of the word, or the cause against the pair.
abbrev pub word_found : Result (List ℕ) Cause → Outcome
word_found (Ok w) = record { said = taken []; bytes = w }
word_found (Err cause) = record { said = refused (cause_no cause) 0; bytes = replicate word_length 0 }
