-- What a word of eight card bytes becomes, said by its bytes. Assumes nothing.
use Prim.Native.Nat.{ℕ, zero, suc, ◌/◌, ◌%◌, ◌^◌, ◌<◌}
use mathlib.Core.Path.{◌≡◌, refl, sym, ap, ◌∙◌}
use mathlib.Core.List.{List, map, reverse}
use native.Mathlib.Nat.{div-one, pow-suc, mul_comm, div-div-eq-div-mul, mod-eq_of_lt, mul-add-mod_self_right}
use native.Mathlib.Omega.{arith}
use lib.Arith.{digits_div}
use lib.ListN.{length, length-map}
use Rattle.numbers.specs.BigEndian.{number, bytes_of}
use Rattle.numbers.specs.Terms.{Bytes}
use Rattle.numbers.proofs.ByteLaws.{bytes_of_lem, length_bytes}
use Rattle.cards.specs.Cards.{blank}
use Rattle.cards.proofs.EachLaws.{each, each_more}
use Rattle.cards.proofs.EightLaws.{blank_some, blank_bytes, word_bytes, low_blanked}

-- The eight bytes of the number, the first highest, are the blanks of the eight card bytes.
pub eight_blanked : (x : ℕ) → bytes_of 8 (number (map blank (bytes_of 8 x))) ≡ map blank (bytes_of 8 x)
eight_blanked x = word_bytes (map blank (bytes_of 8 x)) (length-map (bytes_of 8 x) blank ∙ length_bytes 8 x) (blank_bytes (bytes_of 8 x) (bytes_of_lem 8 x))

-- Each byte of it is that of the same place: byte i, counted from the lowest.
each_byte : (k i x : ℕ) → i < k → each blank k x / 256 ^ i % 256 ≡ blank (x / 256 ^ i % 256)
each_byte zero i x h = absurd (omega arith)
each_byte (suc k) zero x h =
    let b : blank (x % 256) < 256 = (blank_some (x % 256) (omega arith)).1 in
    rw (div-one, div-one, each_more blank k x) (mul-add-mod_self_right (each blank k (x / 256)) 256 (blank (x % 256)) ∙ mod-eq_of_lt b)
each_byte (suc k) (suc i) x h =
    let b : blank (x % 256) < 256 = (blank_some (x % 256) (omega arith)).1 in
    let down : (n : ℕ) → n / 256 ^ suc i ≡ n / 256 / 256 ^ i =
    λ n. ap (λ (p : ℕ). n / p) (pow-suc 256 i ∙ mul_comm (256 ^ i) 256) ∙ sym (div-div-eq-div-mul n 256 (256 ^ i)) in
    rw (down (each blank (suc k) x), down x, each_more blank k x, digits_div (each blank k (x / 256)) b) (each_byte k i (x / 256) (omega arith))

pub byte_blanked : (x i : ℕ) → i < 8 → number (map blank (bytes_of 8 x)) / 256 ^ i % 256 ≡ blank (x / 256 ^ i % 256)
byte_blanked x i h = each_byte 8 i x h

-- Card bytes taken into the number with the first lowest, and out of it so, come out as with the first highest.
pub either_order : (l : List ℕ) → length l ≡ 8 → Bytes l → reverse (bytes_of 8 (number (map blank (bytes_of 8 (number (reverse l)))))) ≡ map blank l
either_order = low_blanked

-- ## Worked examples: 00 beside 00, 01, 80 and FF, and the bytes that a borrow would change

pub example_zeros : number (map blank (bytes_of 8 0)) ≡ 0x4040_4040_4040_4040
example_zeros = refl

pub example_none : number (map blank (bytes_of 8 0x0102_7f80_81fe_ff40)) ≡ 0x0102_7f80_81fe_ff40
example_none = refl

pub example_borrow : number (map blank (bytes_of 8 0x0100_0100_8000_ff00)) ≡ 0x0140_0140_8040_ff40
example_borrow = refl

pub example_first : number (map blank (bytes_of 8 0x00c1_c2c3_c4c5_c6c7)) ≡ 0x40c1_c2c3_c4c5_c6c7
example_first = refl
