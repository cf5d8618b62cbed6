-- The headers of a proper meaning, wherever their bytes stand in a list: their lengths, and the numbers that are found there again.
-- Assumes nothing.
use mathlib.Core.Path.{◌≡◌, refl, sym, ap, ap₂, ◌∙◌, subst}
use mathlib.Core.List.{List, [], ◌∷◌, ◌++◌, map, append_assoc}
use Prim.Native.Nat.{ℕ, ◌+◌, ◌*◌, ◌^◌, ◌<◌}
use native.Mathlib.Omega.{arith}
use lib.ListN.{length, get_or, take, drop, replicate, length-append, length-replicate, take-append-drop}
use lib.IntN.{ℤ, pos}
use Rattle.numbers.specs.BigEndian.{bytes_of}
use Rattle.numbers.specs.TwosComplement.{signed_of, bits_of}
use Rattle.numbers.specs.Terms.{All, Bytes}
use Rattle.numbers.proofs.AllLaws.{all_append}
use Rattle.numbers.proofs.ByteLaws.{bytes_of_lem, length_bytes, number_at_lem}
use Rattle.numbers.proofs.SignLaws.{bits_signed}
use Rattle.reel.specs.Layout.{fields_from, binary_widths, binary_fields, trace_widths, trace_fields, field_number, number16}
use Rattle.reel.specs.Meaning.{other_than, Header, Trace, Meaning}
use Rattle.headers.specs.Header.{number_bytes, record_numbers, header_bytes}
use Rattle.headers.proofs.NumberLaws.{numbers_append}
use Rattle.headers.proofs.Ranges.{fit_length, size_numbers}
use Rattle.headers.proofs.TraceLaws.{trace_front, trace_back, count_field, interval_field}
use Rattle.headers.proofs.Listed.{behind_at}
use Rattle.headers.proofs.HeaderBytes.{header_size_lem, numbers_fit}
use Rattle.record.specs.Record.{binary_bytes}
use Rattle.record.proofs.HeaderLaws.{binary_front, binary_back, binary_widths_lem, parts}
use Rattle.demands.proofs.Proper.{ProperTrace, Proper}
use Rattle.demands.proofs.From.{From, from_at, from_next, from_number, from_header, from_numbers}

-- ## Lists of bytes

-- The bytes of header numbers are bytes.
pub bytes_numbers : (ws : List ℕ) (zs : List ℤ) → Bytes (number_bytes ws zs)
bytes_numbers [] zs = tt
bytes_numbers (w ∷ ws) [] = tt
bytes_numbers (w ∷ ws) (z ∷ zs) =
    all_append (λ b. b < 256) (bytes_of w (bits_of (8 * w) z)) (number_bytes ws zs) (bytes_of_lem w (bits_of (8 * w) z)) (bytes_numbers ws zs)

-- There are as many zeros as were asked for.
pub size_zeros : (k : ℕ) → length (replicate {A = ℕ} k 0) ≡ k
size_zeros k = length-replicate {A = ℕ} k 0

-- So are card bytes.
pub bytes_cards : (l : List ℕ) → All (λ b. (0 < b) × (b < 256)) l → Bytes l
bytes_cards [] h = tt
bytes_cards (b ∷ l) h = (h.0.1, bytes_cards l h.1)

-- Two bytes whose signed number is n hold n.
pub word_is : (s : List ℕ) → Bytes s → (at n : ℕ) → signed_of 16 (number16 s at) ≡ pos n → number16 s at ≡ n
word_is s h at n e = sym (bits_signed 16 (number16 s at) (omega arith) (number_at_lem s h at 2)) ∙ ap (bits_of 16) e

-- ## A meaning

-- A meaning, by its three parts.
pub meaning_eq : {a b : Meaning} → a.cards ≡ b.cards → a.binary ≡ b.binary → a.traces ≡ b.traces → a ≡ b
meaning_eq {a} {b} p q r = ap₂ (λ (x : List ℕ) (y : List ℤ). made x y a.traces) p q ∙ ap (made b.cards b.binary) r
  where
    made : List ℕ → List ℤ → List Trace → Meaning
    made x y z = record { cards = x; binary = y; traces = z }

-- ## The binary header

-- The eighth of the 26 binary numbers is field 3221.
eighth : (s : List ℕ) (start : ℕ) → get_or (map (field_number s start) (other_than 3225 binary_fields)) 7 (pos 0) ≡ signed_of 16 (number16 s (start + 3220))
unfolding binary_fields binary_widths
eighth s start = refl

-- The sixth of them is field 3217.
sixth : (s : List ℕ) (start : ℕ) → get_or (map (field_number s start) (other_than 3225 binary_fields)) 5 (pos 0) ≡ signed_of 16 (number16 s (start + 3216))
unfolding binary_fields binary_widths
sixth s start = refl

-- The 26 are those before the format code and those behind it.
binary_around : (s : List ℕ) (start : ℕ)
    → map (field_number s start) (other_than 3225 binary_fields)
    ≡ map (field_number s start) (fields_from 3201 binary_front) ++ map (field_number s start) (fields_from 3227 binary_back)
unfolding binary_fields binary_widths binary_front binary_back
binary_around s start = refl

module _ (n i : ℕ) (m : Meaning) (p : Proper n i m) (code : ℕ) where
  -- The bytes before the format code, its two, and those behind it.
  binary_parts : binary_bytes code m.binary ≡ number_bytes binary_front (take 9 m.binary) ++ (bytes_of 2 code ++ number_bytes binary_back (drop 9 m.binary))
  unfolding binary_bytes
  binary_parts =
      rw binary_widths_lem
      (numbers_append binary_front (2 ∷ binary_back) (take 9 m.binary) (pos code ∷ drop 9 m.binary) (fit_length binary_front (take 9 m.binary) p.fit_front))

  -- The binary fields have 60 bytes.
  pub size_binary : length (binary_bytes code m.binary) ≡ 60
  size_binary =
      let a = size_numbers binary_front (take 9 m.binary) p.fit_front ∙ parts.0 in
      let c = size_numbers binary_back (drop 9 m.binary) p.fit_back ∙ parts.1 in
      ap length binary_parts ∙ simp length-append (omega (arith, a, c, length_bytes 2 code))

  -- The binary fields are bytes.
  pub bytes_binary : Bytes (binary_bytes code m.binary)
  unfolding binary_bytes
  bytes_binary = bytes_numbers binary_widths _

  -- A binary header that stands in a list of bytes, where byte number 1 would stand at the place `start`.
  module _ (s : List ℕ) (b : Bytes s) (start : ℕ) (rest : List ℕ) (f : From s (start + 3200) (binary_bytes code m.binary ++ rest)) where
    -- The bytes before the format code stand first,
    from_front : From s (start + 3200) (number_bytes binary_front (take 9 m.binary) ++ (bytes_of 2 code ++ (number_bytes binary_back (drop 9 m.binary) ++ rest)))
    from_front = subst (From s (start + 3200)) (ap (λ (l : List ℕ). l ++ rest) binary_parts ∙ simp append_assoc) f

    -- then its two,
    from_code : From s (start + 3224) (bytes_of 2 code ++ (number_bytes binary_back (drop 9 m.binary) ++ rest))
    from_code = from_at (omega (arith, parts.0)) (from_header binary_front (take 9 m.binary) _ p.fit_front from_front)

    -- then those behind it.
    from_back : From s (start + 3226) (number_bytes binary_back (drop 9 m.binary) ++ rest)
    from_back = from_at (omega arith) (from_next (bytes_of 2 code) _ 2 (length_bytes 2 code) from_code)

    -- Its 26 numbers are the meaning's.
    pub binary_again : map (field_number s start) (other_than 3225 binary_fields) ≡ m.binary
    binary_again =
        let x = from_numbers start 3201 binary_front (take 9 m.binary) _ (omega arith) refl p.fit_front from_front in
        let y = from_numbers start 3227 binary_back (drop 9 m.binary) rest (omega arith) refl p.fit_back from_back in
        binary_around s start ∙ ap₂ (λ (k l : List ℤ). k ++ l) x y ∙ take-append-drop 9 m.binary

    -- Its format code is the one that was put there.
    pub code_again : code < 256 ^ 2 → number16 s (start + 3224) ≡ code
    code_again h = from_number 2 code _ h from_code

    -- Field 3221 is N.
    pub samples_again : number16 s (start + 3220) ≡ n
    samples_again = word_is s b (start + 3220) n (sym (eighth s start) ∙ ap (λ (l : List ℤ). get_or l 7 (pos 0)) binary_again ∙ p.n_is)

    -- Field 3217 is the interval.
    pub interval_again : number16 s (start + 3216) ≡ i
    interval_again = word_is s b (start + 3216) i (sym (sixth s start) ∙ ap (λ (l : List ℤ). get_or l 5 (pos 0)) binary_again ∙ p.i_is)

-- ## A trace's header

-- The 39th of the 71 numbers is field 115.
pub count_at : (s : List ℕ) (at : ℕ) → get_or (map (field_number s at) trace_fields) 38 (pos 0) ≡ signed_of 16 (number16 s (at + 114))
unfolding trace_fields trace_widths
count_at s at = refl

-- The 40th of them is field 117.
pub interval_at : (s : List ℕ) (at : ℕ) → get_or (map (field_number s at) trace_fields) 39 (pos 0) ≡ signed_of 16 (number16 s (at + 116))
unfolding trace_fields trace_widths
interval_at s at = refl

-- The 71 are those before field 115, fields 115 and 117, and those behind them.
pub trace_around : (s : List ℕ) (at : ℕ)
    → map (field_number s at) trace_fields
    ≡ map (field_number s at) (fields_from 1 trace_front)
    ++ (field_number s at count_field ∷ field_number s at interval_field ∷ map (field_number s at) (fields_from 119 trace_back))
unfolding trace_fields trace_widths trace_front trace_back
trace_around s at = refl

-- The bytes of a header in a record are bytes.
pub bytes_header : (h : Header) → Bytes (header_bytes h)
unfolding header_bytes
bytes_header h = bytes_numbers trace_widths (record_numbers h)

module _ (n i : ℕ) (t : Trace) (p : ProperTrace n i t) where
  -- A trace's fields have 180 bytes.
  pub size_header : length (header_bytes t.header) ≡ 180
  size_header = header_size_lem t.header p.header

  -- A trace's fields that stand in a list of bytes from the place `at` on.
  module _ (s : List ℕ) (b : Bytes s) (at : ℕ) (rest : List ℕ) (f : From s at (header_bytes t.header ++ rest)) where
    -- Their 71 numbers are those of the trace's header.
    pub numbers_again : map (field_number s at) trace_fields ≡ record_numbers t.header
    unfolding header_bytes trace_fields
    numbers_again = from_numbers at 1 trace_widths (record_numbers t.header) rest (omega arith) (omega arith) (numbers_fit t.header p.header) f

    -- Field 115 is N.
    pub count_again : number16 s (at + 114) ≡ n
    count_again =
        word_is s b (at + 114) n
        (sym (count_at s at) ∙ ap (λ (l : List ℤ). get_or l 38 (pos 0)) numbers_again ∙ behind_at t.header p.header.scaled 13 ∙ p.n_is)

    -- Field 117 is the interval.
    pub spacing_again : number16 s (at + 116) ≡ i
    spacing_again =
        word_is s b (at + 116) i
        (sym (interval_at s at) ∙ ap (λ (l : List ℤ). get_or l 39 (pos 0)) numbers_again ∙ behind_at t.header p.header.scaled 14 ∙ p.i_is)
