-- The reel of a meaning under a code.
use Rattle.std.specs.Prelude.{ℕ, ◌+◌, ◌-◌, ◌*◌, List, ◌++◌, map, replicate, ℤ}
use Rattle.numbers.specs.Walk.{flat}
use Rattle.formats.specs.Words.{word_of}
use Rattle.reel.specs.Layout.{card_bytes, first_trace, trace_header, stride}
use Rattle.formats.specs.Codes.{sample_bytes}
use Rattle.reel.specs.Meaning.{Trace, Meaning}
use Rattle.write_samples.specs.Samples.{word_bytes}
use Rattle.headers.specs.Header.{header_bytes, header_size}
use Rattle.record.specs.Record.{binary_bytes}
use Rattle.record.specs.Form.{binary_size}

-- A sample under a code: the bytes of its value's word.
abbrev pub sample_written : ℕ → ℤ → List ℕ
sample_written code v = word_bytes code (word_of code v)

-- The bytes of the binary header, 400.
abbrev pub binary_header : ℕ
binary_header = first_trace - card_bytes

-- A trace: the bytes of its 71 fields as a record holds them, the 60 unassigned bytes of its header, which are 0, and its samples.
unfoldable pub trace_written : ℕ → Trace → List ℕ
trace_written code t =
    header_bytes t.header ++ (replicate (trace_header - header_size) 0 ++ flat (map (sample_written code) t.values))

-- The reel of a meaning: the card bytes, the binary fields with the target's format code, the 340 unassigned bytes of that header,
-- which are 0, and the traces.
unfoldable pub reel_of : ℕ → Meaning → List ℕ
reel_of code m =
    m.cards
    ++ (binary_bytes code m.binary ++ (replicate (binary_header - binary_size) 0 ++ flat (map (trace_written code) m.traces)))

-- A reel of t traces of n samples, in bytes.
abbrev pub reel_length : ℕ → ℕ → ℕ → ℕ
reel_length code t n = first_trace + t * stride n (sample_bytes code)
