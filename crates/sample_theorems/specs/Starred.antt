-- The lines of document 01's "Samples at the edges", and such lines for the codes of document 02.
use Rattle.std.specs.Prelude.{ℕ, ◌^◌, ◌≤◌, ◌<◌, ◌≡◌, [], ◌∷◌, ℤ, pos, negsuc, neg_ℤ}
use Rattle.numbers.specs.Outcome.{taken}
use Rattle.formats.specs.Value.{whole_value}
use Rattle.value.specs.Pair.{pair_of}
use Rattle.value.specs.Writing.{write_pair}
use Rattle.value.specs.declared.Pair.{Pair}
use Rattle.formats.specs.Written.{Written, Word, Refused}
use Rattle.sample.specs.Reading.{read_word}
use Rattle.sample.specs.Calls.{word_outcome, pair_outcome}
use Rattle.sample.specs.Reading.{Sample, Taken}
use Rattle.sample.specs.Reading as sample

-- A word of code 1, and one of code 4, by its four bytes, as it is read.
abbrev pub ibm : ℕ → ℕ → ℕ → ℕ → Sample
ibm a b c d = read_word 1 (a ∷ b ∷ c ∷ d ∷ [])

abbrev pub gain : ℕ → ℕ → ℕ → ℕ → Sample
gain a b c d = read_word 4 (a ∷ b ∷ c ∷ d ∷ [])

-- A whole number, as it is written under a code.
abbrev pub whole_to : ℕ → ℤ → Written
whole_to code n = write_pair code (pair_of (whole_value n))

-- The starred lines, in document 01's order: "Starred lines form the set that is shown of the rules themselves, as a group."
pub record Starred : Type 0 where
  -- 41100000 and 42010000: e 0, m 1
  pub one : (ibm 0x41 0x10 0 0 ≡ Taken (pos 0) (pos 1)) × (ibm 0x42 0x01 0 0 ≡ Taken (pos 0) (pos 1))
  -- C276A000: e -3, m -949; bytes FF FD FF FF FC 4B
  pub minus : (ibm 0xC2 0x76 0xA0 0 ≡ Taken (negsuc 2) (negsuc 948))
      × (word_outcome 1 (0xC2 ∷ 0x76 ∷ 0xA0 ∷ 0 ∷ []) ≡ record { said = taken (0 ∷ []); bytes = 0xFF ∷ 0xFD ∷ 0xFF ∷ 0xFF ∷ 0xFC ∷ 0x4B ∷ [] })
  -- 80000000 and 7F000000: zero
  pub nothing : (ibm 0x80 0 0 0 ≡ Taken (pos 0) (pos 0)) × (ibm 0x7F 0 0 0 ≡ Taken (pos 0) (pos 0))
  -- 00000001: e -280, m 1; 7F800000: e 251, m 1
  pub ends : (ibm 0 0 0 1 ≡ Taken (negsuc 279) (pos 1)) × (ibm 0x7F 0x80 0 0 ≡ Taken (pos 251) (pos 1))
  -- 7FFFFFFF: e 228, m 16,777,215
  pub largest : ibm 0x7F 0xFF 0xFF 0xFF ≡ Taken (pos 228) (pos 16_777_215)
  -- gain 00010002: e 0, m 1; written 00000001
  pub halved : (gain 0 1 0 2 ≡ Taken (pos 0) (pos 1))
      × (pair_outcome 4 (0 ∷ 0 ∷ 0 ∷ 0 ∷ 0 ∷ 1 ∷ []) ≡ record { said = taken []; bytes = 0 ∷ 0 ∷ 0 ∷ 1 ∷ [] })
  -- 16,777,215 to code 1: 46FFFFFF; 16,777,217: number 14
  pub bits_24 : (whole_to 1 (pos 16_777_215) ≡ Word 0x46FF_FFFF) × (whole_to 1 (pos 16_777_217) ≡ Refused 14)
  -- 33,554,416 to code 1: 471FFFFF; 33,554,430: number 14, though its m has 24 bits
  pub digits_6 : (whole_to 1 (pos 33_554_416) ≡ Word 0x471F_FFFF) × (whole_to 1 (pos 33_554_430) ≡ Refused 14)
      × ((pair_of (whole_value (pos 33_554_430))).m ≡ pos 16_777_215) × (2 ^ 23 ≤ 16_777_215) × (16_777_215 < 2 ^ 24)
  -- -32,768 to code 4: 00008000; 32,768: number 14
  pub bits_16 : (whole_to 4 (neg_ℤ (pos 32_768)) ≡ Word 0x0000_8000) × (whole_to 4 (pos 32_768) ≡ Refused 14)

-- The pair e 251, m 3, each number within its limits.
abbrev pub beyond : Pair
beyond = record { e = pos 251; m = pos 3 }

-- ## Codes 5 and 8 (document 02, CR 4)

-- A word of code 5 by its four bytes, and one of code 8 by its first, as it is read.
abbrev pub ieee : ℕ → ℕ → ℕ → ℕ → Sample
ieee a b c d = read_word 5 (a ∷ b ∷ c ∷ d ∷ [])

abbrev pub byte : ℕ → Sample
byte a = read_word 8 (a ∷ 0 ∷ 0 ∷ 0 ∷ [])

-- The ends of both formats, and what has no value.
pub record IeeeAndByte : Type 0 where
  -- 00000001, the least subnormal number: e -149, m 1, and written again
  pub least : (ieee 0 0 0 1 ≡ Taken (negsuc 148) (pos 1)) × (write_pair 5 (record { e = negsuc 148; m = pos 1 }) ≡ Word 0x0000_0001)
  -- 807FFFFF, the largest subnormal number, negated: e -149, m -8,388,607, and written again
  pub subnormal : (ieee 0x80 0x7F 0xFF 0xFF ≡ Taken (negsuc 148) (negsuc 8_388_606)) × (write_pair 5 (record { e = negsuc 148; m = negsuc 8_388_606 }) ≡ Word 0x807F_FFFF)
  -- 7F7FFFFF, the largest number: e 104, m 16,777,215, and written again
  pub largest : (ieee 0x7F 0x7F 0xFF 0xFF ≡ Taken (pos 104) (pos 16_777_215)) × (write_pair 5 (record { e = pos 104; m = pos 16_777_215 }) ≡ Word 0x7F7F_FFFF)
  -- 7F800000, an infinity, and 7FC00000, a not-a-number: number 19
  pub others : (ieee 0x7F 0x80 0 0 ≡ sample.Refused 19) × (ieee 0x7F 0xC0 0 0 ≡ sample.Refused 19)
  -- 80000000: zero, which is written as 00000000
  pub zeros : (ieee 0x80 0 0 0 ≡ Taken (pos 0) (pos 0)) × (write_pair 5 (record { e = pos 0; m = pos 0 }) ≡ Word 0)
  -- below the least subnormal number and above the largest number there is none: number 14
  pub beyond_ends : (write_pair 5 (record { e = negsuc 149; m = pos 1 }) ≡ Refused 14) × (write_pair 5 (record { e = pos 128; m = pos 1 }) ≡ Refused 14)
  -- FF under code 8: e 0, m -1; 80: e 7, m -1; -1 to code 8: FF, 00, 00, 00
  pub bytes : (byte 0xFF ≡ Taken (pos 0) (negsuc 0)) × (byte 0x80 ≡ Taken (pos 7) (negsuc 0))
      × (pair_outcome 8 (0 ∷ 0 ∷ 0xFF ∷ 0xFF ∷ 0xFF ∷ 0xFF ∷ []) ≡ record { said = taken []; bytes = 0xFF ∷ 0 ∷ 0 ∷ 0 ∷ [] })
  -- its other bytes are ignored; 128 to code 8: number 14, -128: 80
  pub first_byte : (read_word 8 (0x7F ∷ 1 ∷ 2 ∷ 3 ∷ []) ≡ Taken (pos 0) (pos 127)) × (whole_to 8 (pos 128) ≡ Refused 14) × (whole_to 8 (neg_ℤ (pos 128)) ≡ Word 0x80)
  -- codes 6 and 7, which are none: number 2, and 11
  pub no_codes : (read_word 6 (0 ∷ 0 ∷ 0 ∷ 0 ∷ []) ≡ sample.Refused 2) × (read_word 7 (0 ∷ 0 ∷ 0 ∷ 0 ∷ []) ≡ sample.Refused 2) × (write_pair 6 (record { e = pos 0; m = pos 0 }) ≡ Refused 11)
