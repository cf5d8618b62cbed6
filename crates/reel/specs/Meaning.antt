-- What a reel means, from its bytes alone and never from a record. A name that ends in `By` takes the layout of the reel, plain or Eagle; the
-- same name without it, or with `Of`, is that of plain reels.
use Rattle.std.specs.Prelude.{ℕ, ◌+◌, ◌-◌, ◌≡◌, List, [], ◌∷◌, ◌++◌, map, eqb, ℤ, pos, nat_abs, length}
use Rattle.numbers.specs.Walk.{pick, walk, bytes_at}
use Rattle.formats.specs.Value.{exact_value}
use Rattle.scalars.specs.Scalar.{scaled_values}
use Rattle.reel.specs.Layout.{Field, card_bytes, first_trace, trace_header, binary_fields, trace_fields, elevation_scalar, coordinate_scalar, field_number, interval_of, samples_of, code_of, stride_by, traces_by}
use Rattle.formats.specs.Codes.{word_length, sample_bytes}
use Rattle.reel.specs.Causes.{within}
use Rattle.reel.specs.declared.Layout.{Layout}
use Rattle.reel.specs.declared.Layout.TheVariants.{Plain, Eagle}
-- How a card byte is taken, which `Cards` defines: 00 as the EBCDIC blank 40.
pub use Rattle.cards.specs.Cards.{blank}

-- The card text: the 3,200 card bytes with 40 in place of 00. On an Eagle reel "Columns 79 and 80 of card 40 hold a check and are taken as
-- blanks" (document 02, CR 7): they are the last two card bytes.
unfoldable pub card_text_by : Layout → List ℕ → List ℕ
card_text_by Plain s = map blank (bytes_at s 0 card_bytes)
card_text_by Eagle s = map blank (bytes_at s 0 (card_bytes - 2)) ++ (0x40 ∷ 0x40 ∷ [])

abbrev pub card_text : List ℕ → List ℕ
card_text s = card_text_by Plain s

-- The fields that begin at another byte number.
abbrev pub other_than : ℕ → List Field → List Field
other_than b [] = []
other_than b (f ∷ fs) = pick (eqb f.begins b) [] (f ∷ []) ++ other_than b fs

-- The numbers of the 26 binary fields other than 3225.
unfoldable pub binary_numbers : List ℕ → List ℤ
binary_numbers s = map (field_number s 0) (other_than 3225 binary_fields)

-- 0 in field 115 or 117 is taken as the reel's own number.
abbrev pub filled : ℕ → ℤ → ℤ
filled own z = pick (eqb (nat_abs z) 0) (pos own) z

-- The number of a field of the trace at the place `at`, with n for a 0 in field 115 and i for a 0 in field 117.
abbrev pub trace_number : List ℕ → ℕ → ℕ → ℕ → Field → ℤ
trace_number s n i at f =
    pick (eqb f.begins 115) (filled n (field_number s at f))
    (pick (eqb f.begins 117) (filled i (field_number s at f)) (field_number s at f))

-- "Field 69 acts on fields 41 to 65, and field 71 on fields 73 to 85" (document 02, CR 2): the fields that begin at a byte number from a to
-- b, and those that don't. From 41 to 85 no other field begins: the scalars 69 and 71 stand between the two groups.
abbrev pub fields_within : ℕ → ℕ → List Field → List Field
fields_within a b [] = []
fields_within a b (f ∷ fs) = pick (within a b f.begins) (f ∷ []) [] ++ fields_within a b fs

abbrev pub fields_outside : ℕ → ℕ → List Field → List Field
fields_outside a b [] = []
fields_outside a b (f ∷ fs) = pick (within a b f.begins) [] (f ∷ []) ++ fields_outside a b fs

-- The seven elevations, depths among them; the four coordinates; and the 58 others, which are no scalars and on which none acts.
unfoldable pub elevation_fields : List Field
elevation_fields = fields_within 41 65 trace_fields

unfoldable pub coordinate_fields : List Field
coordinate_fields = fields_within 73 85 trace_fields

unfoldable pub unscaled_fields : List Field
unscaled_fields = fields_outside 41 85 trace_fields

-- What a trace header means: the numbers of the 58 unscaled fields, and the scaled values of the elevations and of the coordinates, whole
-- numbers over 10,000. "69 and 71 themselves no longer count."
pub record Header : Type 0 where
  pub numbers : List ℤ
  pub elevations : List ℤ
  pub coordinates : List ℤ

-- What a header means, by the number of each of its fields.
unfoldable pub header_of : (Field → ℤ) → Header
header_of number =
    record {
      numbers = map number unscaled_fields;
      elevations = scaled_values (number elevation_scalar) (map number elevation_fields);
      coordinates = scaled_values (number coordinate_scalar) (map number coordinate_fields);
    }

-- What a trace means: its header, and the N exact values of its samples under the reel's format code.
pub record Trace : Type 0 where
  pub header : Header
  pub values : List ℤ

unfoldable pub trace_meaning : List ℕ → ℕ → ℕ → ℕ → ℕ → Trace
trace_meaning s code n i at =
    record {
      header = header_of (trace_number s n i at);
      values = walk (λ p. exact_value code (bytes_at s p word_length)) (sample_bytes code) n (at + trace_header);
    }

-- What a reel means: card text, header numbers, and its traces in order.
pub record Meaning : Type 0 where
  pub cards : List ℕ
  pub binary : List ℤ
  pub traces : List Trace

-- That of a reel of a layout: a trailer carries no meaning, so that an Eagle reel's traces are as a plain reel's, but stand further apart.
unfoldable pub meaning_by : Layout → List ℕ → Meaning
meaning_by k s =
    record {
      cards = card_text_by k s;
      binary = binary_numbers s;
      traces = walk (trace_meaning s (code_of s) (samples_of s) (interval_of s)) (stride_by k s) (traces_by k s) first_trace;
    }

abbrev pub meaning_of : List ℕ → Meaning
meaning_of s = meaning_by Plain s

-- Two meanings are the same when card text, header numbers, T, the scaled values of elevations and coordinates, and sample values all
-- agree. N is one of the header numbers.
pub record SameMeaning (m₁ m₂ : Meaning) : Type 0 where
  pub cards : m₁.cards ≡ m₂.cards
  pub binary : m₁.binary ≡ m₂.binary
  pub count : length m₁.traces ≡ length m₂.traces
  pub numbers : map (λ (t : Trace). t.header.numbers) m₁.traces ≡ map (λ (t : Trace). t.header.numbers) m₂.traces
  pub elevations : map (λ (t : Trace). t.header.elevations) m₁.traces ≡ map (λ (t : Trace). t.header.elevations) m₂.traces
  pub coordinates : map (λ (t : Trace). t.header.coordinates) m₁.traces ≡ map (λ (t : Trace). t.header.coordinates) m₂.traces
  pub values : map (λ (t : Trace). t.values) m₁.traces ≡ map (λ (t : Trace). t.values) m₂.traces

-- Two plain reels to which no cause of 1 to 9, 18 and 19 applies mean the same when their meanings are the same.
abbrev pub MeanTheSame : List ℕ → List ℕ → Type 0
MeanTheSame s₁ s₂ = SameMeaning (meaning_of s₁) (meaning_of s₂)
