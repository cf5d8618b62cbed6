-- What writing a pair gives, exactly and to the nearest.
use Rattle.std.specs.Prelude.{ℕ, ◌&&◌, ℤ}
use Rattle.numbers.specs.Walk.{pick}
use Rattle.formats.specs.Codes.{is_code, format_of}
use Rattle.formats.specs.Words.{word_of, word_bits}
use Rattle.formats.specs.Nearest.{nearest_in, changes_in}
use Rattle.formats.specs.declared.Format.{Format}
use Rattle.formats.specs.Written.{Written, Refused}
use Rattle.value.specs.Pair.{value_of, is_canonical}
use Rattle.value.specs.declared.Pair.{Pair}
use Rattle.value.specs.declared.Rounded as found

-- A single pair is refused by 11, 13, 14; otherwise it gives the word of its value.
abbrev pub write_pair : ℕ → Pair → Written
write_pair code p = pick (is_code code) (pick (is_canonical p) (word_of code (value_of p)) (Refused 13)) (Refused 11)

-- The bits of a word, and 1 where its value is another one.
pub record Rounded : Type 0 where
  pub bits : ℕ
  pub changed : ℕ

-- What nearest writing found, with that number.
abbrev pub rounded : found.Rounded → Rounded
rounded r = record { bits = r.bits; changed = pick r.changed 1 0 }

-- The word of the nearest value of a format, as bits, and 1 where that is another value; `word` gives the word of a value.
abbrev pub rounded_by : (ℤ → Written) → Format → ℤ → Rounded
rounded_by word x v = record { bits = word_bits (word (nearest_in x v)); changed = changes_in x v }

-- What nearest writing makes of a pair: the word that exact writing gives for the nearest value of the code. Where the code is none or the
-- pair isn't canonical, which 11 and 13 refuse, the bits are 0 and nothing counts as changed.
abbrev pub nearest_pair : ℕ → Pair → Rounded
nearest_pair code p =
    pick (is_code code && is_canonical p) (rounded_by (word_of code) (format_of code) (value_of p)) (record { bits = 0; changed = 0 })
