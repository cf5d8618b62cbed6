-- # Demand 1: every call ends, and refuses as document 01 sets
--
-- "Every call comes to a defined end on every input: no access outside the lent buffers and no number that loses bits; each refusal has the
-- number and place that document 01 sets, and is given in just the cases set there; a refused call changes no byte of its output buffer."
--
-- Rattle proves of every function that it ends, reads and writes nothing outside the buffers lent to it, divides by no zero, and that no
-- sum, difference, product or cast loses bits. Two operations wrap, and are meant to: `magnitude32`, in `numbers`, and `magnitude16`, in
-- `sample`, take the magnitude of a two's complement word by wrapping subtraction from zero, the form that document 01 names for it; their
-- contracts say that what comes out is the magnitude, so no bit of the number is lost there. A shift up says in its contract that it gives
-- the whole product. No public call asks anything of its input, so all this holds on every input.
--
-- What is left of the demand is shown here for each call of document 01, over the outcome that its contract gives: what it says, and each
-- byte that it hands out or leaves in its output. The contracts:
--
-- - `read_reel`: counted_outcome answer (output after) ≡ read_outcome reel (output before)
-- - `write_reel`: outcome answer (output after) ≡ write_outcome record code (output before)
-- - `look_up`: looked_up answer ≡ look_up_outcome reel (trace number) (byte number)
-- - `read_word`: word_read answer ≡ word_outcome code word, for a single word
-- - `write_pair`: pair_written answer ≡ pair_outcome code pair, for a single pair
-- - `program_line`, of `line`: the line is `program_line input (output before)`. That `main` reads its input, lends 65,536 bytes and prints
--   this line is tested, not proved.
--
-- The rows of each call are in `specs/Tables`, those of 1 to 9, 18 and 19 in `ReelTable` of `reel_theorems`; 18, and 13 at a scalar, are set by
-- document 02 (CR 2), and so is 19 (CR 4). Over each theorem stands the clause that it answers, in the user's words; where it is a sentence of document 01, that is said. Beside each, here and in the files on the other
-- demands, stands what it rules out of document 01's list: the six wrong programs of "Agreement between the parties", and the six "Mistakes
-- to rule out".
use mathlib.Core.Path.{◌≡◌, refl, sym, ap, ◌∙◌, subst}
use mathlib.Core.List.{List, [], ◌∷◌}
use mathlib.Core.Logic.{◌⊎◌, ⊎_elim}
use mathlib.Core.Bool.{Bool, true, false, not}
use Prim.Native.Nat.{ℕ, ◌^◌, ◌≤◌, ◌<◌}
use borrow.Author.Tests.{lt-ltb, le-ltb, eqb-true, eqb-false, not-true}
use lib.Dec.{T, ltb, eqb}
use lib.ListN.{length, drop, replicate}
use lib.IntN.{pos}
use Rattle.numbers.specs.Walk.{pick, bytes_at}
use Rattle.numbers.specs.Cause.{refuse_if, then}
use Rattle.numbers.specs.Outcome.{Said, taken, refused}
use Rattle.numbers.specs.Places.{place_no, byte_no}
use Rattle.numbers.specs.declared.ByteNo.{ByteNo}
use Rattle.numbers.specs.Cause.{Check}
use Rattle.numbers.specs.Cause.{Fine, Refused}
use Rattle.numbers.specs.Terms.{All, Bytes, at_place}
use Rattle.numbers.specs.Iff.{Iff}
use Rattle.numbers.proofs.CauseLaws.{passed, then_fine, at_most}
use Rattle.numbers.proofs.RowLaws.{Tests, apart, refused_where, row_where, then_row, then_first, then_second, test_room, test_by, not_enough, too_short, test_flag, not_no, fine_then, refused_then, row_then, no_row}
use Rattle.numbers.proofs.SaidLaws.{not_taken, iff_trans, says_refused, says_fine, says_either, refused_by, taken_by, keeps_rest}
use Rattle.formats.specs.Codes.{is_code}
use Rattle.formats.specs.Value.{is_finite, is_bad, word_number, exact_value}
use Rattle.reel_theorems.specs.ReelTable.{word_at}
use Rattle.numbers.proofs.SignLaws.{below_or}
use Rattle.value.specs.Pair.{value_of, is_canonical, pair_in}
use Rattle.formats.specs.Words.{is_normal, word_of}
use Rattle.value.specs.Writing.{write_pair}
use Rattle.formats.proofs.WordLaws.{Only14, only_14}
use Rattle.formats.specs.Written.{Written}
use Rattle.formats.specs.Written as written
use Rattle.sample.specs.Reading.{bad_number, not_normal, pair_taken, read_word}
use Rattle.sample.specs.Calls as calls
use Rattle.sample.specs.Reading.{Sample}
use Rattle.sample.specs.Reading as sample
use Rattle.sample_theorems.proofs.Pairs.{value_pair_back}
use Rattle.reel.specs.Layout.{Field, traces_of}
use Rattle.reel.specs.Causes.{trace_causes, behind_causes_by, causes_by, causes_of}
use Rattle.record.specs.Record.{reel_record}
use Rattle.fields.specs.Fields.{fields_in}
use Rattle.record.specs.Held.{held_by}
use Rattle.fit.specs.Target.{is_unfit, target_causes}
use Rattle.reel.specs.NotNormal.{not_normal_in, not_normal_among}
use Rattle.read_reel.specs.Reading.{record_length_of, read_numbers, read_causes, read_end, read_outcome}
use Rattle.write_reel.specs.Reel.{reel_of}
use Rattle.write_reel.specs.Writing.{reel_length_of, written_numbers, write_causes, write_end, write_outcome}
use Rattle.look_up.specs.LookUp.{Found, found, none, is_none, field_in, header_fields, field_at, found_number, field_causes, look_up_causes, number_said, look_up_outcome}
use Rattle.reel_theorems.proofs.Refusals.{test_code, exact_causes, no_cause}
use Rattle.reel_theorems.proofs.Same.{record_size}
use Rattle.demands.proofs.Fitting.{fits_is}
use Rattle.demands.proofs.WriteRefusals.{exact_writing}
use Rattle.demands.proofs.WrittenSize.{reel_size}
use Rattle.demands.specs.Words.{HasWord}
use Rattle.demands.specs.Tables.{WriteRow, ReadRow, LookUpRow, no_trace, no_field, WordRow, bad_code, bad_gain, not_finite, PairRow}
use Rattle.demands.specs.Results.{example_with, example, AssignedNumber}

-- ## Reading a reel

-- The causes of reading are these rows.
read_exact : (s : List ℕ) (room number place : ℕ) → Iff (read_causes s room ≡ Refused number (at_place place)) (ReadRow s room number place)
read_exact s room number place = (there, back)
  where
    room_test : Tests (record_length_of s ≤ room) 10 (record_length_of s) (refuse_if (ltb room (record_length_of s)) 10 (record_length_of s))
    room_test = test_room room (record_length_of s) 10 (record_length_of s)

    there : read_causes s room ≡ Refused number (at_place place) → ReadRow s room number place
    there =
        then_row (ReadRow s room) (causes_of s) _ (λ e. ReadRow.by_reel ((exact_causes s number place).0 e))
        (λ e. row_where room_test (ReadRow s room) (λ m. ReadRow.short_output ((no_cause s).0 e) (not_enough room (record_length_of s) m)))

    back : {number place : ℕ} → ReadRow s room number place → read_causes s room ≡ Refused number (at_place place)
    back {number} {place} (ReadRow.by_reel r) = then_first (causes_of s) _ ((exact_causes s number place).1 r)
    back (ReadRow.short_output h l) = then_second _ _ ((no_cause s).1 h) (refused_where room_test (too_short room (record_length_of s) l))

module _ (s out : List ℕ) where
  -- What reading says, by what its checks answer.
  abbrev read_says : Check → Said
  read_says c = (read_end s out c).said

  -- What its checks answer.
  abbrev read_checks : Check
  read_checks = read_causes s (length out)

  -- THEOREM. "Every call comes to a defined end on every input: no access outside the lent buffers and no number that loses bits": reading
  -- is taken with T, N, the record's length and the count, or refused by a number with a place. The rest of the clause Rattle proves of each function.
  -- Alone it rules out none of the list.
  pub read_ends : ((read_outcome s out).said ≡ taken (read_numbers s)) ⊎ ((number : ℕ) × (place : ℕ) × ((read_outcome s out).said ≡ refused number place))
  read_ends = says_either read_says (read_numbers s) refl (λ n p. refl) read_checks

  -- THEOREM. "each refusal has the number and place that document 01 sets, and is given in just the cases set there": reading is refused
  -- exactly when a row applies, by its number and place.
  -- Rules out a reader that declines every reel, and one that says output too short before working out the length: 10 needs that no row of 1
  -- to 9, 18 and 19 applies and that the output is shorter than the record, and has the record's length beside it.
  pub read_refused : (number place : ℕ) → Iff ((read_outcome s out).said ≡ refused number place) (ReadRow s (length out) number place)
  read_refused = refused_by read_says (read_numbers s) refl (λ n p. refl) (ReadRow s (length out)) read_checks (read_exact s (length out))

  -- THEOREM. "in just the cases set there": it is taken, with T, N, the record's length and the count, exactly when no row applies.
  -- Rules out a reader that declines every reel, and one whose T or length is invented.
  pub read_taken : Iff ((read_outcome s out).said ≡ taken (read_numbers s)) ((number place : ℕ) → ¬ (ReadRow s (length out) number place))
  read_taken = taken_by read_says (read_numbers s) refl (λ n p. refl) (ReadRow s (length out)) read_checks (read_exact s (length out))

  -- THEOREM. "a refused call changes no byte of its output buffer".
  -- Alone it rules out none of the list.
  pub read_keeps : (number place : ℕ) → (read_outcome s out).said ≡ refused number place → (read_outcome s out).bytes ≡ out
  read_keeps number place e =
      ap (λ (c : Check). (read_end s out c).bytes) ((says_refused read_says (read_numbers s) refl (λ n p. refl) read_checks number place).0 e)

  -- THEOREM. A taken call leaves the output's length, and each byte behind the length returned, as they were; document 01: "The rest of a
  -- longer output buffer keeps its content."
  -- Alone it rules out none of the list.
  pub read_rest : (t n l c : ℕ) → Bytes s → (read_outcome s out).said ≡ taken (t ∷ n ∷ l ∷ c ∷ [])
      → (length (read_outcome s out).bytes ≡ length out) × (drop l (read_outcome s out).bytes ≡ drop l out)
  read_rest t n l c b e =
      let q = says_fine read_says (read_numbers s) refl (λ n p. refl) read_checks (t ∷ n ∷ l ∷ c ∷ []) e in
      let f = then_fine (causes_of s) _ q in
      let same : taken (read_numbers s) ≡ taken (t ∷ n ∷ l ∷ c ∷ []) = sym (ap read_says q) ∙ e in
      let size : record_length_of s ≡ l = cc in
      subst (λ (x : ℕ). (length (read_outcome s out).bytes ≡ length out) × (drop x (read_outcome s out).bytes ≡ drop x out)) size
      (keeps_rest (read_end s out) (reel_record s) out (record_length_of s) read_checks refl q (record_size s b f.0) (at_most (length out) (record_length_of s) 10 (record_length_of s) f.1))

-- THEOREM. Document 01's example, of which it says: "it prints whole: `taken 1 2 3471`"; since CR 3 the line has a fifth item. It is taken
-- with T 1, N 2, a record of 3,471 bytes, for which an output of that length is long enough, and no word that isn't normal.
-- Rules out a reader that declines every reel.
pub example_taken : (read_outcome example (replicate 3471 0)).said ≡ taken (1 ∷ 2 ∷ 3471 ∷ 0 ∷ [])
unfolding causes_by behind_causes_by trace_causes bytes_at not_normal_among not_normal_in is_normal fields_in
example_taken = refl

-- THEOREM. The same reel with the words 42010000 and 80000000, neither of which is normal, is taken with the count 2.
-- Rules out a count of 0 for every reel.
pub example_counted : (read_outcome (example_with (0x42 ∷ 0x01 ∷ 0 ∷ 0 ∷ 0x80 ∷ 0 ∷ 0 ∷ 0 ∷ [])) (replicate 3471 0)).said ≡ taken (1 ∷ 2 ∷ 3471 ∷ 2 ∷ [])
unfolding causes_by behind_causes_by trace_causes bytes_at not_normal_among not_normal_in is_normal fields_in
example_counted = refl

-- ## Writing a reel

module _ (r : List ℕ) (code : ℕ) (out : List ℕ) where
  -- What writing says, by what its checks answer.
  abbrev write_says : Check → Said
  write_says c = (write_end r code out c).said

  -- What its checks answer.
  abbrev write_checks : Check
  write_checks = write_causes r code (length out)

  -- THEOREM. "Every call comes to a defined end on every input: no access outside the lent buffers and no number that loses bits": writing
  -- is taken with T, N and the reel's length, or refused by a number with a place. The rest of the clause Rattle proves of each function.
  -- Alone it rules out none of the list.
  pub write_ends : ((write_outcome r code out).said ≡ taken (written_numbers r code))
      ⊎ ((number : ℕ) × (place : ℕ) × ((write_outcome r code out).said ≡ refused number place))
  write_ends = says_either write_says (written_numbers r code) refl (λ n p. refl) write_checks

  -- THEOREM. "each refusal has the number and place that document 01 sets, and is given in just the cases set there": writing is refused
  -- exactly when a row applies, by its number and place.
  -- Rules out a writer that declines every record, and one that says output too short before working out the length: 10 needs a valid record
  -- whose samples all fit, and has the reel's length beside it. By 14, normalising by single bits, pushing C below 0 and shifting up for a
  -- negative e: a sample is refused exactly where no word of the code has its value.
  pub write_refused : (number place : ℕ) → Iff ((write_outcome r code out).said ≡ refused number place) (WriteRow r code (length out) number place)
  write_refused =
      refused_by write_says (written_numbers r code) refl (λ n p. refl) (WriteRow r code (length out)) write_checks (exact_writing r code (length out))

  -- THEOREM. "in just the cases set there": it is taken, with T, N and the reel's length, exactly when no row applies.
  -- Rules out a writer that declines every record, and one whose T or length is invented.
  pub write_taken : Iff ((write_outcome r code out).said ≡ taken (written_numbers r code)) ((number place : ℕ) → ¬ (WriteRow r code (length out) number place))
  write_taken =
      taken_by write_says (written_numbers r code) refl (λ n p. refl) (WriteRow r code (length out)) write_checks (exact_writing r code (length out))

  -- THEOREM. "a refused call changes no byte of its output buffer".
  -- Alone it rules out none of the list.
  pub write_keeps : (number place : ℕ) → (write_outcome r code out).said ≡ refused number place → (write_outcome r code out).bytes ≡ out
  write_keeps number place e =
      ap (λ (c : Check). (write_end r code out c).bytes)
      ((says_refused write_says (written_numbers r code) refl (λ n p. refl) write_checks number place).0 e)

  -- THEOREM. A taken call leaves the output's length, and each byte behind the length returned, as they were; document 01: "The rest of a
  -- longer output buffer keeps its content."
  -- Alone it rules out none of the list.
  pub write_rest : (t n l : ℕ) → (write_outcome r code out).said ≡ taken (t ∷ n ∷ l ∷ [])
      → (length (write_outcome r code out).bytes ≡ length out) × (drop l (write_outcome r code out).bytes ≡ drop l out)
  write_rest t n l e =
      let size = reel_length_of r code in
      let q = says_fine write_says (written_numbers r code) refl (λ n p. refl) write_checks (t ∷ n ∷ l ∷ []) e in
      let f = then_fine (target_causes r code) _ q in
      let same : taken (written_numbers r code) ≡ taken (t ∷ n ∷ l ∷ []) = sym (ap write_says q) ∙ e in
      let is : size ≡ l = cc in
      subst (λ (x : ℕ). (length (write_outcome r code out).bytes ≡ length out) × (drop x (write_outcome r code out).bytes ≡ drop x out)) is
      (keeps_rest (write_end r code out) (reel_of code (held_by r)) out size write_checks refl q (reel_size r code) (at_most (length out) size 10 size f.1))

-- ## Looking up a field

-- No field is found exactly where none begins at the byte number.
none_found : (b : ℕ) (fs : List Field) → Iff (is_none (field_in b fs) ≡ true) (All (λ f. ¬ (f.begins ≡ b)) fs)
unfolding field_in
none_found b [] = (λ e. tt, λ h. refl)
none_found b (f ∷ fs) = go (eqb f.begins b) refl (none_found b fs)
  where
    go : (c : Bool) → eqb f.begins b ≡ c → Iff (is_none (field_in b fs) ≡ true) (All (λ g. ¬ (g.begins ≡ b)) fs)
        → Iff (is_none (pick c (found f) (field_in b fs)) ≡ true) ((¬ (f.begins ≡ b)) × All (λ g. ¬ (g.begins ≡ b)) fs)
    go true e r = (λ q. absurd (apart q), λ h. absurd (h.0 (eqb-true f.begins b e)))
    go false e r = (λ q. (eqb-false f.begins b e, r.0 q), λ h. r.1 h.1)

-- The field that is found begins there.
found_begins : (b : ℕ) (fs : List Field) (f : Field) → field_in b fs ≡ found f → f.begins ≡ b
unfolding field_in
found_begins b [] f e = absurd (apart (sym (ap is_none e)))
found_begins b (g ∷ fs) f e = go (λ h. found_begins b fs f h) (eqb g.begins b) refl e
  where
    go : (field_in b fs ≡ found f → f.begins ≡ b) → (c : Bool) → eqb g.begins b ≡ c → pick c (found g) (field_in b fs) ≡ found f → f.begins ≡ b
    go rest true q e = let h : g ≡ f = cc in ap (λ (x : Field). x.begins) (sym h) ∙ eqb-true g.begins b q
    go rest false q e = rest e

module _ (s : List ℕ) (k : ℕ) (b : ByteNo) where
  -- The causes of looking up are these rows.
  look_up_exact : (number place : ℕ) → Iff (look_up_causes s k b ≡ Refused number (at_place place)) (LookUpRow s k b number place)
  look_up_exact number place = (there, back)
    where
      trace_test : Tests (k ≤ traces_of s) 15 0 (refuse_if (ltb (traces_of s) k) 15 0)
      trace_test = test_room (traces_of s) k 15 0

      there : look_up_causes s k b ≡ Refused number (at_place place) → LookUpRow s k b number place
      there =
          let row = LookUpRow s k b in
          then_row row (causes_of s) _ (λ e. LookUpRow.by_reel ((exact_causes s number place).0 e))
          (λ e. row_then trace_test row (λ m. no_trace ((no_cause s).0 e) (not_enough (traces_of s) k m))
          (λ q. row_then (test_flag (is_none (field_at k b)) 16 0) row (λ m. no_field ((no_cause s).0 e) q ((none_found (byte_no b) (header_fields k)).0 (not_no _ m)))
          (λ x. no_row row)))

      back : {number place : ℕ} → LookUpRow s k b number place → look_up_causes s k b ≡ Refused number (at_place place)
      back {number} {place} (LookUpRow.by_reel r) = then_first (causes_of s) _ ((exact_causes s number place).1 r)
      back (no_trace h l) = then_second _ _ ((no_cause s).1 h) (refused_then trace_test _ (too_short (traces_of s) k l))
      back (no_field h l f) =
          then_second _ _ ((no_cause s).1 h)
          (fine_then trace_test l (then_first _ _ (ap (λ (x : Bool). refuse_if x 16 0) ((none_found (byte_no b) (header_fields k)).1 f))))

  -- What looking up says, by what its checks answer.
  abbrev look_up_says : Check → Said
  look_up_says c = (number_said c (found_number s k (field_at k b))).said

  -- THEOREM. "Every call comes to a defined end on every input: no access outside the lent buffers and no number that loses bits": looking
  -- up is taken, or refused by a number with a place. The rest of the clause Rattle proves of each function.
  -- Alone it rules out none of the list.
  pub look_up_ends : ((look_up_outcome s k b).said ≡ taken []) ⊎ ((number : ℕ) × (place : ℕ) × ((look_up_outcome s k b).said ≡ refused number place))
  unfolding look_up_outcome
  look_up_ends = says_either look_up_says [] refl (λ n p. refl) (look_up_causes s k b)

  -- THEOREM. "each refusal has the number and place that document 01 sets, and is given in just the cases set there": looking up is refused
  -- exactly when a row applies, by its number and place.
  -- Rules out a look-up that declines every reel.
  pub look_up_refused : (number place : ℕ) → Iff ((look_up_outcome s k b).said ≡ refused number place) (LookUpRow s k b number place)
  unfolding look_up_outcome
  look_up_refused = refused_by look_up_says [] refl (λ n p. refl) (LookUpRow s k b) (look_up_causes s k b) look_up_exact

  -- THEOREM. "in just the cases set there": it is taken exactly when no row applies.
  -- Rules out a look-up that declines every reel.
  pub look_up_taken : Iff ((look_up_outcome s k b).said ≡ taken []) ((number place : ℕ) → ¬ (LookUpRow s k b number place))
  unfolding look_up_outcome
  look_up_taken = taken_by look_up_says [] refl (λ n p. refl) (LookUpRow s k b) (look_up_causes s k b) look_up_exact

  -- THEOREM. Document 01: "It returns the signed number, with 115 and 117 filled in and 3225 as on the reel". Where it is taken, some
  -- assigned field of that header begins at the byte number, and the number is that field's. Document 02 (CR 2): "Look-up still gives the
  -- bare numbers": no scalar is applied, and 69 and 71 are as on the reel.
  -- Rules out a look-up that gives one fixed number, one that takes the first trace's number for the rest, and filling field 115 only for
  -- the first trace; and a look-up that applies a scalar.
  pub look_up_number : (look_up_outcome s k b).said ≡ taken [] → AssignedNumber s k b (look_up_outcome s k b).value
  unfolding look_up_outcome
  look_up_number e = go (look_up_causes s k b) refl e
    where
      at : (x : Found) → field_at k b ≡ x → is_none x ≡ false → AssignedNumber s k b (found_number s k (field_at k b))
      at (found f) q n =
          record { field = f; assigned = q; begins = found_begins (byte_no b) (header_fields k) f q; number = ap (found_number s k) q }
      at none q n = absurd (apart (sym n))

      go : (c : Check) → look_up_causes s k b ≡ c → (number_said c (found_number s k (field_at k b))).said ≡ taken []
          → AssignedNumber s k b (number_said c (found_number s k (field_at k b))).value
      go Fine q e =
          let a = then_fine (causes_of s) (field_causes (traces_of s) k (is_none (field_at k b))) q in
          let d = then_fine (refuse_if (ltb (traces_of s) k) 15 0) _ a.1 in
          at (field_at k b) refl (passed (is_none (field_at k b)) 16 0 (then_fine (refuse_if (is_none (field_at k b)) 16 0) Fine d.1).0)
      go (Refused n p) q e = absurd (not_taken e)

  -- THEOREM. Document 01: "beside a refusal the number is 0."
  -- Alone it rules out none of the list.
  pub look_up_zero : (number place : ℕ) → (look_up_outcome s k b).said ≡ refused number place → (look_up_outcome s k b).value ≡ pos 0
  unfolding look_up_outcome
  look_up_zero number place e =
      ap (λ (c : Check). (number_said c (found_number s k (field_at k b))).value)
      ((says_refused look_up_says [] refl (λ n p. refl) (look_up_causes s k b) number place).0 e)

-- ## Single samples

-- What a single-sample call says, by what its checks answer and the numbers that it returns.
abbrev says : List ℕ → Check → Said
says numbers Fine = taken numbers
says numbers (Refused number place) = refused number (place_no place)

-- Such a call, of which `said` is what it says, `numbers` what it returns and c what its checks answer, and a table R of rows that are exact
-- against them.
module _ (said : Said) (numbers : List ℕ) (c : Check) (is : said ≡ says numbers c) (R : ℕ → ℕ → Type 0) (exact : (number place : ℕ) → Iff (c ≡ Refused number (at_place place)) (R number place)) where
  -- It is taken, or refused by a number with a place;
  single_ends : (said ≡ taken numbers) ⊎ ((number : ℕ) × (place : ℕ) × (said ≡ refused number place))
  single_ends =
      subst (λ (x : Said). (x ≡ taken numbers) ⊎ ((number : ℕ) × (place : ℕ) × (x ≡ refused number place))) (sym is) (says_either (says numbers) numbers refl (λ n p. refl) c)

  -- refused exactly when a row applies,
  single_refused : (number place : ℕ) → Iff (said ≡ refused number place) (R number place)
  single_refused number place = iff_trans (λ e. sym is ∙ e, λ e. is ∙ e) (refused_by (says numbers) numbers refl (λ n p. refl) R c exact number place)

  -- and taken exactly when none does.
  single_taken : Iff (said ≡ taken numbers) ((number place : ℕ) → ¬ (R number place))
  single_taken = iff_trans (λ e. sym is ∙ e, λ e. is ∙ e) (taken_by (says numbers) numbers refl (λ n p. refl) R c exact)

module _ (code : ℕ) (w : List ℕ) where
  -- The word has no value.
  abbrev bad : Bool
  bad = is_bad code (word_number code w)

  -- The checks of a single word.
  word_checks : Check
  word_checks = then (refuse_if (not (is_code code)) 2 0) (refuse_if bad (bad_number code) 0)

  -- What the call says is what they answer.
  word_says : (calls.word_outcome code w).said ≡ says (not_normal code w ∷ []) word_checks
  unfolding word_checks
  word_says = go (is_code code) bad
    where
      go : (a g : Bool) → (calls.read_said (not_normal code w) (pick a (pick g (sample.Refused (bad_number code)) (pair_taken (exact_value code w))) (sample.Refused 2))).said
          ≡ says (not_normal code w ∷ []) (then (refuse_if (not a) 2 0) (refuse_if g (bad_number code) 0))
      go true true = refl
      go true false = refl
      go false g = refl

  -- What is bad, under code 4 and under code 5; under the others no word is.
  gain_bad : code ≡ 4 → bad ≡ not (ltb (word_at w 0) (2 ^ 24))
  gain_bad e = rw e

  ieee_bad : code ≡ 5 → bad ≡ not (is_finite 8 23 (word_at w 0))
  ieee_bad e = rw e

  -- Its causes are the rows.
  word_exact : (number place : ℕ) → Iff (word_checks ≡ Refused number (at_place place)) (WordRow code w number place)
  unfolding word_checks
  word_exact number place = (there, back)
    where
      bad_row : bad ≡ true → WordRow code w (bad_number code) 0
      bad_row h = go (eqb code 4) (eqb code 5) refl refl
        where
          go : (x y : Bool) → eqb code 4 ≡ x → eqb code 5 ≡ y → WordRow code w (bad_number code) 0
          go true y p q =
              let e = eqb-true code 4 p in
              subst (λ (n : ℕ). WordRow code w n 0) (sym (ap bad_number e))
              (bad_gain e (λ l. subst T (sym (lt-ltb _ _ l) ∙ not-true _ (sym (gain_bad e) ∙ h)) tt))
          go false true p q =
              let e = eqb-true code 5 q in
              subst (λ (n : ℕ). WordRow code w n 0) (sym (ap bad_number e))
              (not_finite e (λ l. subst T (sym l ∙ not-true _ (sym (ieee_bad e) ∙ h)) tt))
          go false false p q = absurd (subst T (sym h ∙ other) tt)
            where
              other : bad ≡ false
              other = rw (p, q)

      there : then (refuse_if (not (is_code code)) 2 0) (refuse_if bad (bad_number code) 0) ≡ Refused number (at_place place) → WordRow code w number place
      there =
          row_then (test_code code 2 0) (WordRow code w) bad_code
          (λ e. row_where (test_flag bad (bad_number code) 0) (WordRow code w) (λ m. bad_row (not_no _ m)))

      -- a row of a code, where the word is bad
      refuses : (k : ℕ) → is_code k ≡ true → code ≡ k → bad ≡ true → then (refuse_if (not (is_code code)) 2 0) (refuse_if bad (bad_number code) 0) ≡ Refused (bad_number k) (at_place 0)
      refuses k i e h = fine_then (test_code code 2 0) (ap is_code e ∙ i) (ap (λ (x : Bool). refuse_if x (bad_number code) 0) h ∙ ap (λ (n : ℕ). Refused n (at_place 0)) (ap bad_number e))

      back : {number place : ℕ} → WordRow code w number place → then (refuse_if (not (is_code code)) 2 0) (refuse_if bad (bad_number code) 0) ≡ Refused number (at_place place)
      back (bad_code h) = refused_then (test_code code 2 0) _ h
      back (bad_gain c h) = refuses 4 refl c (gain_bad c ∙ ap not (le-ltb _ _ (least h)))
        where
          least : ¬ (word_at w 0 < 2 ^ 24) → 2 ^ 24 ≤ word_at w 0
          least h = ⊎_elim (λ l. absurd (h l)) (λ l. l) (below_or (word_at w 0) (2 ^ 24))
      back (not_finite c h) = refuses 5 refl c (ieee_bad c ∙ ap not (no_true _ h))
        where
          no_true : (b : Bool) → ¬ (b ≡ true) → b ≡ false
          no_true true h = absurd (h refl)
          no_true false h = refl

  -- THEOREM. "Every call comes to a defined end on every input: no access outside the lent buffers and no number that loses bits": reading a
  -- single word is taken, with 1 or 0, or refused by a number with a place. The rest of the clause Rattle proves of each function.
  -- Alone it rules out none of the list.
  pub word_ends : ((calls.word_outcome code w).said ≡ taken (not_normal code w ∷ [])) ⊎ ((number : ℕ) × (place : ℕ) × ((calls.word_outcome code w).said ≡ refused number place))
  word_ends = single_ends (calls.word_outcome code w).said (not_normal code w ∷ []) word_checks word_says (WordRow code w) word_exact

  -- THEOREM. "each refusal has the number and place that document 01 sets, and is given in just the cases set there"; document 01: "A
  -- single word is refused by 2, then 9; a single pair by 11, 13, 14; the place is 0 and the bytes handed out are all 00", and document 02
  -- (CR 4) sets 19 "where 9 stands". Exactly when that row applies.
  -- Rules out a call that declines every word.
  pub word_refused_lem : (number place : ℕ) → Iff ((calls.word_outcome code w).said ≡ refused number place) (WordRow code w number place)
  word_refused_lem = single_refused (calls.word_outcome code w).said (not_normal code w ∷ []) word_checks word_says (WordRow code w) word_exact

  -- THEOREM. "in just the cases set there": it is taken exactly when no row applies.
  -- Rules out a call that declines every word.
  pub word_taken : Iff ((calls.word_outcome code w).said ≡ taken (not_normal code w ∷ [])) ((number place : ℕ) → ¬ (WordRow code w number place))
  word_taken = single_taken (calls.word_outcome code w).said (not_normal code w ∷ []) word_checks word_says (WordRow code w) word_exact

  -- THEOREM. Document 01: "the place is 0 and the bytes handed out are all 00": the six of a word that is refused.
  -- Alone it rules out none of the list.
  pub word_zero : (number place : ℕ) → (calls.word_outcome code w).said ≡ refused number place → (calls.word_outcome code w).bytes ≡ 0 ∷ 0 ∷ 0 ∷ 0 ∷ 0 ∷ 0 ∷ []
  word_zero number place e = go (read_word code w) e
    where
      go : (r : Sample) → (calls.read_said (not_normal code w) r).said ≡ refused number place → (calls.read_said (not_normal code w) r).bytes ≡ 0 ∷ 0 ∷ 0 ∷ 0 ∷ 0 ∷ 0 ∷ []
      go (sample.Taken x m) e = absurd (not_taken (sym e))
      go (sample.Refused n) e = refl

module _ (code : ℕ) (b : List ℕ) where
  -- The checks of a single pair.
  pair_checks : Check
  pair_checks =
      then (refuse_if (not (is_code code)) 11 0)
      (then (refuse_if (not (is_canonical (pair_in b))) 13 0) (refuse_if (is_unfit (word_of code (value_of (pair_in b)))) 14 0))

  -- What the call says is what they answer.
  pair_says : (calls.pair_outcome code b).said ≡ says [] pair_checks
  unfolding pair_checks
  pair_says = go (is_code code) (is_canonical (pair_in b)) (word_of code (value_of (pair_in b))) (only_14 code (value_of (pair_in b)))
    where
      go : (a c : Bool) (r : Written) → Only14 r → (calls.write_said code (pick a (pick c r (written.Refused 13)) (written.Refused 11))).said
          ≡ says [] (then (refuse_if (not a) 11 0) (then (refuse_if (not c) 13 0) (refuse_if (is_unfit r) 14 0)))
      go true true (written.Word n) h = refl
      go true true (written.Refused n) h = ap (λ (x : ℕ). refused x 0) h
      go true false r h = refl
      go false c r h = refl

  -- A canonical pair has a word exactly where some word of the code has its value.
  unfit_is : is_code code ≡ true → is_canonical (pair_in b) ≡ true → Iff (is_unfit (word_of code (value_of (pair_in b))) ≡ false) (HasWord code (value_of (pair_in b)))
  unfit_is g c =
      fits_is code (value_of (pair_in b)) g
      (ap is_canonical (value_pair_back (pair_in b) c) ∙ c)

  -- Its causes are the rows.
  pair_exact : (number place : ℕ) → Iff (pair_checks ≡ Refused number (at_place place)) (PairRow code b number place)
  unfolding pair_checks
  pair_exact number place = (there, back)
    where
      canonical : Tests (is_canonical (pair_in b) ≡ true) 13 0 (refuse_if (not (is_canonical (pair_in b))) 13 0)
      canonical = test_by (is_canonical (pair_in b) ≡ true) (is_canonical (pair_in b)) 13 0 (λ e. e) (λ e. e)

      there : pair_checks ≡ Refused number (at_place place) → PairRow code b number place
      there =
          let row = PairRow code b in
          row_then (test_code code 11 0) row PairRow.bad_target
          (λ g. row_then canonical row (PairRow.bad_pair g)
          (λ c. row_where (test_flag (is_unfit (word_of code (value_of (pair_in b)))) 14 0) row (λ m. PairRow.unfit g c (λ h. m ((unfit_is g c).1 h)))))

      back : {number place : ℕ} → PairRow code b number place → pair_checks ≡ Refused number (at_place place)
      back (PairRow.bad_target h) = refused_then (test_code code 11 0) _ h
      back (PairRow.bad_pair g h) = fine_then (test_code code 11 0) g (refused_then canonical _ h)
      back (PairRow.unfit g c h) =
          fine_then (test_code code 11 0) g
          (fine_then canonical c (refused_where (test_flag (is_unfit (word_of code (value_of (pair_in b)))) 14 0) (λ e. h ((unfit_is g c).0 e))))

  -- THEOREM. "Every call comes to a defined end on every input: no access outside the lent buffers and no number that loses bits": writing a
  -- single pair is taken, or refused by a number with a place. The rest of the clause Rattle proves of each function.
  -- Alone it rules out none of the list.
  pub pair_ends : ((calls.pair_outcome code b).said ≡ taken []) ⊎ ((number : ℕ) × (place : ℕ) × ((calls.pair_outcome code b).said ≡ refused number place))
  pair_ends = single_ends (calls.pair_outcome code b).said [] pair_checks pair_says (PairRow code b) pair_exact

  -- THEOREM. "each refusal has the number and place that document 01 sets, and is given in just the cases set there"; document 01: "a
  -- single pair by 11, 13, 14; the place is 0". Exactly when that row applies.
  -- Rules out a call that declines every pair; and by 14, normalising by single bits, pushing C below 0 and shifting up for a negative e.
  pub pair_refused_lem : (number place : ℕ) → Iff ((calls.pair_outcome code b).said ≡ refused number place) (PairRow code b number place)
  pair_refused_lem = single_refused (calls.pair_outcome code b).said [] pair_checks pair_says (PairRow code b) pair_exact

  -- THEOREM. "in just the cases set there": it is taken exactly when no row applies.
  -- Rules out a call that declines every pair, and what `pair_refused_lem` rules out by 14.
  pub pair_taken_lem : Iff ((calls.pair_outcome code b).said ≡ taken []) ((number place : ℕ) → ¬ (PairRow code b number place))
  pair_taken_lem = single_taken (calls.pair_outcome code b).said [] pair_checks pair_says (PairRow code b) pair_exact

  -- THEOREM. Document 01: "the place is 0 and the bytes handed out are all 00": the four of a pair that is refused.
  -- Alone it rules out none of the list.
  pub pair_zero : (number place : ℕ) → (calls.pair_outcome code b).said ≡ refused number place → (calls.pair_outcome code b).bytes ≡ 0 ∷ 0 ∷ 0 ∷ 0 ∷ []
  pair_zero number place e = go (write_pair code (pair_in b)) e
    where
      go : (r : Written) → (calls.write_said code r).said ≡ refused number place → (calls.write_said code r).bytes ≡ 0 ∷ 0 ∷ 0 ∷ 0 ∷ []
      go (written.Word n) e = absurd (not_taken (sym e))
      go (written.Refused n) e = refl
