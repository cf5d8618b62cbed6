-- How many words of a reel are not normal (document 02, CR 3), over the reel's own bytes.
use Rattle.std.specs.Prelude.{ℕ, ◌+◌, List}
use Rattle.numbers.specs.Walk.{walk, sum, bytes_at}
use Rattle.sample.specs.Reading.{not_normal}
use Rattle.reel.specs.Layout.{first_trace, trace_header, samples_of, code_of, stride_by, traces_by}
use Rattle.formats.specs.Codes.{word_length, sample_bytes}
use Rattle.reel.specs.declared.Layout.{Layout}
use Rattle.reel.specs.declared.Layout.TheVariants.{Plain}

-- How many of n words from a place on are not normal.
unfoldable pub not_normal_in : List ℕ → ℕ → ℕ → ℕ → ℕ
not_normal_in s code n at = sum (walk (λ p. not_normal code (bytes_at s p word_length)) (sample_bytes code) n at)

-- How many words of t traces of w bytes, n words each, from a place on, are not normal.
unfoldable pub not_normal_among : List ℕ → ℕ → ℕ → ℕ → ℕ → ℕ → ℕ
not_normal_among s code n w t at = sum (walk (λ p. not_normal_in s code n (p + trace_header)) w t at)

-- How many words of a reel, by its own numbers, are not normal; and of a plain reel.
abbrev pub not_normal_by : Layout → List ℕ → ℕ
not_normal_by k s = not_normal_among s (code_of s) (samples_of s) (stride_by k s) (traces_by k s) first_trace

abbrev pub not_normal_of : List ℕ → ℕ
not_normal_of s = not_normal_by Plain s
