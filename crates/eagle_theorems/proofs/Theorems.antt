-- # Eagle reels (document 02, CR 7)
--
-- "A separate call reads them." Its contract is
--
-- - `read_eagle`: counted_outcome answer (output after) ≡ read_outcome_by Eagle reel (output before)
--
-- and what the user's demands ask of reading is shown of it here, over that outcome. What an Eagle reel means is found from its own bytes by
-- its own layout, `meaning_by Eagle`, and its record is the record of that meaning.
--
-- - Demand 1: `eagle_ends`, `eagle_refused`, `eagle_taken`, `eagle_keeps`, `eagle_rest`, `ends_both`; the rows are in `EagleTable`, in `specs/`.
-- - Demand 2, its first sentence: `eagle_reading`; `eagle_traces`, `eagle_cards` and `eagle_binary` spell out what its layout gives;
--   `eagle_counts` and `eagle_none_beside` the count.
-- - Demand 3: `any_records_equal`, of two reels that are each plain or Eagle; `eagle_again`, `eagle_in_each_code`, `plain_exists`.
-- - "Bytes that both calls take": `two_readings`, and `example_plain`, `example_eagle`.
-- - "Trailers and checks carry no meaning": `alike_read`, and `without_trailers`.
--
-- Each byte of a reel is below 256; nothing else is assumed.
use mathlib.Core.Path.{◌≡◌, refl, sym, ap, ◌∙◌, subst}
use mathlib.Core.List.{List, [], ◌∷◌, ◌++◌, map}
use mathlib.Core.Logic.{◌⊎◌}
use mathlib.Core.Bool.{true}
use Prim.Native.Nat.{ℕ, ◌+◌, ◌*◌, ◌≤◌, ◌<◌, ◌/◌}
use native.Mathlib.Omega.{arith}
use lib.Dec.{ltb}
use lib.ListN.{length, get_or, take, drop, replicate}
use Rattle.numbers.specs.Walk.{walk, bytes_at}
use Rattle.numbers.specs.BigEndian.{number}
use Rattle.numbers.specs.Cause.{refuse_if}
use Rattle.numbers.specs.Outcome.{Said, taken, refused, Outcome}
use Rattle.numbers.specs.Cause.{Check}
use Rattle.numbers.specs.Cause.{Fine, Refused}
use Rattle.numbers.specs.Terms.{Bytes, at_place}
use Rattle.numbers.specs.Iff.{Iff}
use Rattle.numbers.proofs.CauseLaws.{then_fine}
use Rattle.numbers.proofs.ByteLaws.{byte_at_lem}
use Rattle.numbers.proofs.RowLaws.{Tests, then_row, then_first, then_second, refused_where, row_where, test_room, not_enough, too_short}
use Rattle.numbers.proofs.SaidLaws.{says_refused, says_fine, says_either, refused_by, taken_by}
use Rattle.formats.specs.Codes.{is_code, sample_bytes}
use Rattle.formats.specs.Words.{is_normal}
use Rattle.reel.specs.Layout.{samples_of, interval_of, code_of, stride_in, whole_in, traces_by}
use Rattle.reel.specs.Causes.{trace_causes, behind_causes_by, causes_by, causes_of}
use Rattle.reel.specs.Meaning.{blank, trace_meaning, Meaning, card_text_by, binary_numbers, meaning_by, meaning_of, SameMeaning}
use Rattle.reel.specs.NotNormal.{not_normal_in, not_normal_among}
use Rattle.reel.specs.declared.Layout.{Layout}
use Rattle.reel.specs.declared.Layout.TheVariants.{Plain, Eagle}
use Rattle.fields.specs.Fields.{fields_in}
use Rattle.record.specs.Record.{record_of, record_by, reel_record, record_length}
use Rattle.read_reel.specs.Reading.{record_length_by, read_numbers_by, read_causes_by, read_end_by, read_outcome_by, read_outcome}
use Rattle.write_reel.specs.Writing.{write_outcome}
use Rattle.reel_theorems.proofs.Output.{same_outputs}
use Rattle.demands.specs.Words.{Worded}
use Rattle.demands.specs.Results.{RecordRead}
use Rattle.demands.specs.NotNormal.{count_said, not_normal_words}
use Rattle.demands.proofs.NotNormal.{counts_words}
use Rattle.demands.proofs.Demand1.{read_rest}
use Rattle.demands.proofs.Demand2.{reading}
use Rattle.demands.proofs.Demand3 as plain
use Rattle.eagle_theorems.specs.EagleTable.{eagle_length, eagle_count, trailer_end, Ends, EagleReadRow}
use Rattle.eagle_theorems.specs.PlainReel.{plain_reel}
use Rattle.eagle_theorems.specs.Results.{EagleRead, PlainAgain, eagle_words, Alike, both_layouts}
use Rattle.eagle_theorems.proofs.Refusals.{exact_eagle_causes, no_eagle_cause}
use Rattle.eagle_theorems.proofs.TraceLaws.{read_alike}
use Rattle.eagle_theorems.proofs.PlainLaws.{plain_bytes, plain_samples, plain_code, eagle_code, plain_traces, plain_no_cause, plain_means, plain_count, plain_words, plain_reading}
use Rattle.eagle_theorems.proofs.AlikeLaws.{alike_samples, alike_traces, alike_means, alike_count, alike_fine}

-- ## Demand 1

-- T, and with it the record's length, as the table has them.
count_is : (s : List ℕ) → code_of s ≡ 1 → traces_by Eagle s ≡ eagle_count s
count_is s e = ap (λ (c : ℕ). whole_in (length s) (stride_in Eagle (samples_of s) (sample_bytes c))) e

length_is : (s : List ℕ) → code_of s ≡ 1 → record_length_by Eagle s ≡ 3273 + eagle_count s * (183 + (3 * ((samples_of s + 5999) / 6000) + samples_of s * 6))
unfolding fields_in
length_is s e = ap (λ (t : ℕ). record_length t (samples_of s)) (count_is s e)

-- The causes of reading are the rows of the table.
read_exact : (s : List ℕ) (room number place : ℕ) → Iff (read_causes_by Eagle s room ≡ Refused number (at_place place)) (EagleReadRow s room number place)
read_exact s room number place = (there, back)
  where
    size : ℕ
    size = 3273 + eagle_count s * (183 + (3 * ((samples_of s + 5999) / 6000) + samples_of s * 6))

    room_test : (l : ℕ) → Tests (l ≤ room) 10 l (refuse_if (ltb room l) 10 l)
    room_test l = test_room room l 10 l

    there : read_causes_by Eagle s room ≡ Refused number (at_place place) → EagleReadRow s room number place
    there =
        then_row (EagleReadRow s room) (causes_by Eagle s) _ (λ e. EagleReadRow.by_reel ((exact_eagle_causes s number place).0 e))
        (λ e r. row_where (room_test size) (EagleReadRow s room) (λ m. EagleReadRow.short_output ((no_eagle_cause s).0 e) (not_enough room size m))
        (sym (ap (λ (l : ℕ). refuse_if (ltb room l) 10 l) (length_is s (eagle_code s e))) ∙ r))

    back : {number place : ℕ} → EagleReadRow s room number place → read_causes_by Eagle s room ≡ Refused number (at_place place)
    back {number} {place} (EagleReadRow.by_reel r) = then_first (causes_by Eagle s) _ ((exact_eagle_causes s number place).1 r)
    back (EagleReadRow.short_output h l) =
        let e = (no_eagle_cause s).1 h in
        then_second (causes_by Eagle s) _ e (ap (λ (x : ℕ). refuse_if (ltb room x) 10 x) (length_is s (eagle_code s e)) ∙ refused_where (room_test size) (too_short room size l))

module _ (s out : List ℕ) where
  -- What reading says, by what its checks answer.
  abbrev says : Check → Said
  says c = (read_end_by Eagle s out c).said

  -- What its checks answer.
  abbrev checks : Check
  checks = read_causes_by Eagle s (length out)

  -- THEOREM. "Every call comes to a defined end on every input": reading an Eagle reel is taken with T, N, the record's length and the count,
  -- or refused by a number with a place. The rest of the clause Rattle proves of each function.
  pub eagle_ends : ((read_outcome_by Eagle s out).said ≡ taken (read_numbers_by Eagle s)) ⊎ ((number : ℕ) × (place : ℕ) × ((read_outcome_by Eagle s out).said ≡ refused number place))
  eagle_ends = says_either says (read_numbers_by Eagle s) refl (λ n p. refl) checks

  -- THEOREM. "each refusal has the number and place that document 01 sets, and is given in just the cases set there": reading an Eagle reel is
  -- refused exactly when a row applies, by its number and place.
  pub eagle_refused : (number place : ℕ) → Iff ((read_outcome_by Eagle s out).said ≡ refused number place) (EagleReadRow s (length out) number place)
  eagle_refused = refused_by says (read_numbers_by Eagle s) refl (λ n p. refl) (EagleReadRow s (length out)) checks (read_exact s (length out))

  -- THEOREM. "in just the cases set there": it is taken, with T, N, the record's length and the count, exactly when no row applies.
  pub eagle_taken : Iff ((read_outcome_by Eagle s out).said ≡ taken (read_numbers_by Eagle s)) ((number place : ℕ) → ¬ (EagleReadRow s (length out) number place))
  eagle_taken = taken_by says (read_numbers_by Eagle s) refl (λ n p. refl) (EagleReadRow s (length out)) checks (read_exact s (length out))

  -- THEOREM. "a refused call changes no byte of its output buffer".
  pub eagle_keeps : (number place : ℕ) → (read_outcome_by Eagle s out).said ≡ refused number place → (read_outcome_by Eagle s out).bytes ≡ out
  eagle_keeps number place e =
      ap (λ (c : Check). (read_end_by Eagle s out c).bytes) ((says_refused says (read_numbers_by Eagle s) refl (λ n p. refl) checks number place).0 e)

  -- an Eagle reel whose reading is taken has no cause
  taken_eagle : (numbers : List ℕ) → (read_outcome_by Eagle s out).said ≡ taken numbers → causes_by Eagle s ≡ Fine
  taken_eagle numbers e = (then_fine (causes_by Eagle s) _ (says_fine says (read_numbers_by Eagle s) refl (λ n p. refl) checks numbers e)).0

  -- and reading the plain reel of it ends alike
  taken_plain : (numbers : List ℕ) → (read_outcome_by Eagle s out).said ≡ taken numbers → read_outcome_by Eagle s out ≡ read_outcome (plain_reel s) out
  taken_plain numbers e = plain_reading s (taken_eagle numbers e) out

  said_plain : (numbers : List ℕ) → (read_outcome_by Eagle s out).said ≡ taken numbers → (read_outcome (plain_reel s) out).said ≡ taken numbers
  said_plain numbers e = sym (ap (λ (o : Outcome). o.said) (taken_plain numbers e)) ∙ e

  -- THEOREM. A taken call leaves the output's length, and each byte behind the length returned, as they were.
  pub eagle_rest : (t n l c : ℕ) → Bytes s → (read_outcome_by Eagle s out).said ≡ taken (t ∷ n ∷ l ∷ c ∷ [])
      → (length (read_outcome_by Eagle s out).bytes ≡ length out) × (drop l (read_outcome_by Eagle s out).bytes ≡ drop l out)
  eagle_rest t n l c b e =
      let q = taken_plain (t ∷ n ∷ l ∷ c ∷ []) e in
      subst (λ (o : Outcome). (length o.bytes ≡ length out) × (drop l o.bytes ≡ drop l out)) (sym q)
      (read_rest (plain_reel s) out t n l c (plain_bytes s b) (said_plain (t ∷ n ∷ l ∷ c ∷ []) e))

-- THEOREM. "a trailer's last two bytes differ from FFFF": of a slice's bytes, the number in them is FFFF exactly when each of the two is FF.
pub ends_both : (s : List ℕ) (k : ℕ) → Bytes s → Iff (Ends s k) ((get_or s (trailer_end s k) 0 ≡ 0xFF) × (get_or s (trailer_end s k + 1) 0 ≡ 0xFF))
unfolding bytes_at
ends_both s k b =
    let f = byte_at_lem s b (trailer_end s k) in
    let g = byte_at_lem s b (trailer_end s k + 1) in
    (λ e. (omega (arith, f, g, e), omega (arith, f, g, e)), λ h. omega (arith, h.0, h.1))

-- ## Demand 2

-- THEOREM. "A reel becomes the record that SEG-Y revision 0 and the IBM floating point word define", by the Eagle layout.
pub eagle_reading : (s out : List ℕ) (t n l c : ℕ) → Bytes s → (read_outcome_by Eagle s out).said ≡ taken (t ∷ n ∷ l ∷ c ∷ []) → EagleRead s out t n l c
eagle_reading s out t n l c b e =
    let f = taken_eagle s out (t ∷ n ∷ l ∷ c ∷ []) e in
    let q = taken_plain s out (t ∷ n ∷ l ∷ c ∷ []) e in
    let k = reading (plain_reel s) out t n l c (plain_bytes s b) (said_plain s out (t ∷ n ∷ l ∷ c ∷ []) e) in
    record {
      traces = k.traces ∙ plain_traces s f;
      samples = k.samples ∙ plain_samples s;
      size = k.size;
      count = k.count ∙ plain_count s f;
      content = ap (λ (o : Outcome). take l o.bytes) q ∙ k.content ∙ ap record_of (plain_means s f);
      whole = ap (λ (m : Meaning). length (record_of m)) (sym (plain_means s f)) ∙ k.whole;
      rest = ap (λ (o : Outcome). drop l o.bytes) q ∙ k.rest;
    }

-- THEOREM. Where the Eagle layout differs: each trace stands with its trailer, so the next begins 240 + 4N + 960 bytes on; within a trace
-- "header fields stand where the 1975 layout has them", and its words behind them, as on a plain reel of code 1.
pub eagle_traces : (s : List ℕ) → code_of s ≡ 1
    → (meaning_by Eagle s).traces ≡ walk (trace_meaning s 1 (samples_of s) (interval_of s)) (eagle_length s) (eagle_count s) 3600
unfolding meaning_by
eagle_traces s e =
    ap (λ (c : ℕ). walk (trace_meaning s c (samples_of s) (interval_of s)) (stride_in Eagle (samples_of s) (sample_bytes c)) (whole_in (length s) (stride_in Eagle (samples_of s) (sample_bytes c))) 3600) e

-- THEOREM. "Columns 79 and 80 of card 40 hold a check and are taken as blanks": the last two of 3,200 card bytes, whatever they hold; every
-- other card byte is taken as on a plain reel.
pub eagle_cards : (s : List ℕ) → (meaning_by Eagle s).cards ≡ map blank (bytes_at s 0 3198) ++ (0x40 ∷ 0x40 ∷ [])
unfolding meaning_by card_text_by
eagle_cards s = refl

-- THEOREM. "header fields stand where the 1975 layout has them": so do those of the binary header.
pub eagle_binary : (s : List ℕ) → (meaning_by Eagle s).binary ≡ binary_numbers s
unfolding meaning_by
eagle_binary s = refl

-- THEOREM. The count is the number of words on the reel that are not normal (document 02, CR 3), trailers left out; beside a refusal it is 0.
pub eagle_counts : (s out : List ℕ) (t n l c : ℕ) → Bytes s → (read_outcome_by Eagle s out).said ≡ taken (t ∷ n ∷ l ∷ c ∷ [])
    → c ≡ length (not_normal_words (eagle_words s))
eagle_counts s out t n l c b e =
    let numbers = t ∷ n ∷ l ∷ c ∷ [] in
    let f = taken_eagle s out numbers e in
    counts_words (plain_reel s) out t n l c (plain_bytes s b) (said_plain s out numbers e) (plain_code s ∙ eagle_code s f)
    ∙ ap (λ (ws : List ℕ). length (not_normal_words ws)) (plain_words s f)

pub eagle_none_beside : (s out : List ℕ) (number place : ℕ) → (read_outcome_by Eagle s out).said ≡ refused number place → count_said (read_outcome_by Eagle s out).said ≡ 0
eagle_none_beside s out number place e = ap count_said e

-- ## Demand 3

-- A reel of either layout whose reading is taken: there is a plain reel that means the same and is read alike.
record AsPlain (layout : Layout) (s out : List ℕ) : Type 0 where
  reel : List ℕ
  bytes : Bytes reel
  same : read_outcome_by layout s out ≡ read_outcome reel out
  means : meaning_by layout s ≡ meaning_of reel

as_plain : (layout : Layout) (s out numbers : List ℕ) → Bytes s → (read_outcome_by layout s out).said ≡ taken numbers → AsPlain layout s out
as_plain Plain s out numbers b e = record { reel = s; bytes = b; same = refl; means = refl }
as_plain Eagle s out numbers b e =
    record { reel = plain_reel s; bytes = plain_bytes s b; same = taken_plain s out numbers e; means = sym (plain_means s (taken_eagle s out numbers e)) }

-- THEOREM. "Take any two reels .. that are read without refusal .. Their records .. are equal byte for byte exactly when the two reels mean
-- the same", of two reels that are each plain or Eagle. So "An Eagle reel and a plain reel of equal meaning have equal records" (document
-- 02, CR 7).
pub any_records_equal : (layout₁ layout₂ : Layout) (s₁ s₂ out₁ out₂ : List ℕ) (t₁ n₁ l₁ c₁ t₂ n₂ l₂ c₂ : ℕ) → Bytes s₁ → Bytes s₂
    → (read_outcome_by layout₁ s₁ out₁).said ≡ taken (t₁ ∷ n₁ ∷ l₁ ∷ c₁ ∷ []) → (read_outcome_by layout₂ s₂ out₂).said ≡ taken (t₂ ∷ n₂ ∷ l₂ ∷ c₂ ∷ [])
    → Iff (take l₁ (read_outcome_by layout₁ s₁ out₁).bytes ≡ take l₂ (read_outcome_by layout₂ s₂ out₂).bytes) (SameMeaning (meaning_by layout₁ s₁) (meaning_by layout₂ s₂))
any_records_equal layout₁ layout₂ s₁ s₂ out₁ out₂ t₁ n₁ l₁ c₁ t₂ n₂ l₂ c₂ b₁ b₂ e₁ e₂ =
    let p₁ = as_plain layout₁ s₁ out₁ (t₁ ∷ n₁ ∷ l₁ ∷ c₁ ∷ []) b₁ e₁ in
    let p₂ = as_plain layout₂ s₂ out₂ (t₂ ∷ n₂ ∷ l₂ ∷ c₂ ∷ []) b₂ e₂ in
    let q₁ = ap (λ (o : Outcome). take l₁ o.bytes) p₁.same in
    let q₂ = ap (λ (o : Outcome). take l₂ o.bytes) p₂.same in
    let same =
    same_outputs p₁.reel p₂.reel out₁ out₂ t₁ n₁ l₁ c₁ t₂ n₂ l₂ c₂ p₁.bytes p₂.bytes
    (sym (ap (λ (o : Outcome). o.said) p₁.same) ∙ e₁) (sym (ap (λ (o : Outcome). o.said) p₂.same) ∙ e₂) in (
      λ e. subst (λ (m : Meaning). SameMeaning m (meaning_by layout₂ s₂)) (sym p₁.means) (subst (SameMeaning (meaning_of p₁.reel)) (sym p₂.means) (same.0 (sym q₁ ∙ e ∙ q₂))),
      λ m. q₁ ∙ same.1 (subst (λ (x : Meaning). SameMeaning x (meaning_of p₂.reel)) p₁.means (subst (SameMeaning (meaning_by layout₁ s₁)) p₂.means m)) ∙ sym q₂,
    )

-- THEOREM. "Every reel written from the record of a reel so read, in whichever of the formats holds it, is itself read without refusal,
-- means the same and has the same record", of the record of an Eagle reel: a plain reel is written from it.
pub eagle_again : (s out : List ℕ) (t n l c : ℕ) (code : ℕ) (out₂ : List ℕ) (t₂ n₂ l₂ : ℕ) → Bytes s → (read_outcome_by Eagle s out).said ≡ taken (t ∷ n ∷ l ∷ c ∷ [])
    → (write_outcome (take l (read_outcome_by Eagle s out).bytes) code out₂).said ≡ taken (t₂ ∷ n₂ ∷ l₂ ∷ [])
    → PlainAgain s t n l (take l (read_outcome_by Eagle s out).bytes) code t₂ n₂ l₂ (take l₂ (write_outcome (take l (read_outcome_by Eagle s out).bytes) code out₂).bytes)
eagle_again s out t n l c code out₂ t₂ n₂ l₂ b e e₂ = subst Again (sym (taken_plain s out (t ∷ n ∷ l ∷ c ∷ []) e)) again e₂
  where
    f : causes_by Eagle s ≡ Fine
    f = taken_eagle s out (t ∷ n ∷ l ∷ c ∷ []) e

    Again : Outcome → Type 0
    Again o =
        (write_outcome (take l o.bytes) code out₂).said ≡ taken (t₂ ∷ n₂ ∷ l₂ ∷ [])
        → PlainAgain s t n l (take l o.bytes) code t₂ n₂ l₂ (take l₂ (write_outcome (take l o.bytes) code out₂).bytes)

    again : Again (read_outcome (plain_reel s) out)
    again q =
        let k = plain.reel_again (plain_reel s) out t n l c code out₂ t₂ n₂ l₂ (plain_bytes s b) (said_plain s out (t ∷ n ∷ l ∷ c ∷ []) e) q in
        record {
          traces = k.traces;
          samples = k.samples;
          size = k.size;
          no_cause = k.no_cause;
          code_is = k.code_is;
          means = subst (λ (m : Meaning). SameMeaning m (meaning_of (take l₂ (write_outcome (take l (read_outcome (plain_reel s) out).bytes) code out₂).bytes))) (plain_means s f) k.means;
          has = k.has;
          read = k.read;
        }

-- THEOREM. "in whichever of the formats holds it": the record of an Eagle reel is written under every code that has a word for each of its
-- sample values, into every output that is long enough.
pub eagle_in_each_code : (s out : List ℕ) (t n l c : ℕ) (code : ℕ) (out₂ : List ℕ) → Bytes s → (read_outcome_by Eagle s out).said ≡ taken (t ∷ n ∷ l ∷ c ∷ [])
    → is_code code ≡ true → Worded code (meaning_by Eagle s).traces
    → 3600 + t * (240 + n * sample_bytes code) ≤ length out₂
    → (write_outcome (take l (read_outcome_by Eagle s out).bytes) code out₂).said ≡ taken (t ∷ n ∷ (3600 + t * (240 + n * sample_bytes code)) ∷ [])
eagle_in_each_code s out t n l c code out₂ b e i f h =
    let numbers = t ∷ n ∷ l ∷ c ∷ [] in
    let words = subst (λ (m : Meaning). Worded code m.traces) (sym (plain_means s (taken_eagle s out numbers e))) f in
    ap (λ (o : Outcome). (write_outcome (take l o.bytes) code out₂).said) (taken_plain s out numbers e)
    ∙ plain.written_in_each_code (plain_reel s) out t n l c code out₂ (plain_bytes s b) (said_plain s out numbers e) i words h

-- THEOREM. For every Eagle reel read without refusal there is a plain reel of equal meaning, with the same record: the one that is written
-- from its record under code 1, into any output that is long enough.
pub plain_exists : (s out : List ℕ) (t n l c : ℕ) (out₂ : List ℕ) → Bytes s → (read_outcome_by Eagle s out).said ≡ taken (t ∷ n ∷ l ∷ c ∷ [])
    → 3600 + t * (240 + n * 4) ≤ length out₂
    → let r = take l (read_outcome_by Eagle s out).bytes in
    let l₂ = 3600 + t * (240 + n * 4) in
    ((write_outcome r 1 out₂).said ≡ taken (t ∷ n ∷ l₂ ∷ [])) × PlainAgain s t n l r 1 t n l₂ (take l₂ (write_outcome r 1 out₂).bytes)
plain_exists s out t n l c out₂ b e room =
    let numbers = t ∷ n ∷ l ∷ c ∷ [] in
    let f = taken_eagle s out numbers e in
    let own = (plain.own_code (plain_reel s) out t n l c (plain_bytes s b) (said_plain s out numbers e)).words in
    let words = subst (λ (m : Meaning). Worded 1 m.traces) (plain_means s f) (subst (λ (x : ℕ). Worded x (meaning_of (plain_reel s)).traces) (plain_code s ∙ eagle_code s f) own) in
    let w = eagle_in_each_code s out t n l c 1 out₂ b e refl words room in
    (w, eagle_again s out t n l c 1 out₂ t n (3600 + t * (240 + n * 4)) b e w)

-- ## Bytes that both calls take

-- THEOREM. "Bytes that both calls take are an Eagle reel under this one and a plain reel under the other, each with the meaning, T included,
-- that its own layout gives."
pub two_readings : (s out₁ out₂ : List ℕ) (t₁ n₁ l₁ c₁ t₂ n₂ l₂ c₂ : ℕ) → Bytes s
    → (read_outcome s out₁).said ≡ taken (t₁ ∷ n₁ ∷ l₁ ∷ c₁ ∷ []) → (read_outcome_by Eagle s out₂).said ≡ taken (t₂ ∷ n₂ ∷ l₂ ∷ c₂ ∷ [])
    → RecordRead s out₁ t₁ n₁ l₁ c₁ × EagleRead s out₂ t₂ n₂ l₂ c₂
two_readings s out₁ out₂ t₁ n₁ l₁ c₁ t₂ n₂ l₂ c₂ b e₁ e₂ = (reading s out₁ t₁ n₁ l₁ c₁ b e₁, eagle_reading s out₂ t₂ n₂ l₂ c₂ b e₂)

-- THEOREM. The bytes of `both_layouts` are taken as a plain reel of 4 traces, with 1 word that isn't normal,
pub example_plain : (read_outcome both_layouts (replicate 4497 0)).said ≡ taken (4 ∷ 20 ∷ 4497 ∷ 1 ∷ [])
unfolding causes_by behind_causes_by trace_causes bytes_at not_normal_among not_normal_in is_normal fields_in
example_plain = refl

-- THEOREM. and as an Eagle reel of 1 trace, with none.
pub example_eagle : (read_outcome_by Eagle both_layouts (replicate 3579 0)).said ≡ taken (1 ∷ 20 ∷ 3579 ∷ 0 ∷ [])
unfolding causes_by behind_causes_by trace_causes bytes_at not_normal_among not_normal_in is_normal fields_in
example_eagle = refl

-- ## Trailers and checks carry no meaning

-- THEOREM. "Trailers and checks carry no meaning": where no cause applies to an Eagle reel, and another is alike but for its trailers, its check
-- on card 40 and its unassigned bytes, and each of its trailers ends in FFFF, no cause applies to that one either; both mean the same and
-- have the same record; and read into one output they give the same numbers and the same bytes. So the end of a trailer can bring 20, and
-- nothing else in a trailer, a check or an unassigned byte brings anything.
pub alike_read : (s₁ s₂ : List ℕ) → causes_by Eagle s₁ ≡ Fine → Alike s₁ s₂ → ((k : ℕ) → k < eagle_count s₁ → Ends s₂ k)
    → (causes_by Eagle s₂ ≡ Fine) × (meaning_by Eagle s₁ ≡ meaning_by Eagle s₂) × (record_by Eagle s₁ ≡ record_by Eagle s₂) × ((out : List ℕ) → read_outcome_by Eagle s₁ out ≡ read_outcome_by Eagle s₂ out)
alike_read s₁ s₂ e a ends =
    let f = alike_fine s₁ s₂ a e ends in
    let means = alike_means s₁ s₂ a e in
    (f, means, ap record_of means, read_alike Eagle Eagle s₁ s₂ e f (alike_traces s₁ s₂ a) (alike_samples s₁ s₂ a) (alike_count s₁ s₂ a e) means)

-- THEOREM. An Eagle reel without its trailers, with blanks in columns 79 and 80 of card 40, is a plain reel: where no cause applies to the
-- one as an Eagle reel, none applies to the other as a plain reel, both mean the same, and read into one output they give the same numbers
-- and the same bytes.
pub without_trailers : (s : List ℕ) → causes_by Eagle s ≡ Fine
    → (causes_of (plain_reel s) ≡ Fine) × (meaning_of (plain_reel s) ≡ meaning_by Eagle s) × (reel_record (plain_reel s) ≡ record_by Eagle s) × ((out : List ℕ) → read_outcome (plain_reel s) out ≡ read_outcome_by Eagle s out)
without_trailers s e = (plain_no_cause s e, plain_means s e, ap record_of (plain_means s e), λ out. sym (plain_reading s e out))
