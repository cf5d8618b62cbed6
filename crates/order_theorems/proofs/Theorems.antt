-- # The order of records
--
-- Document 02, CR 9: "The archive wants its records in one order. Compare two valid records: card bytes first, then header numbers, bare as the
-- record holds them and in its order (69 and 71 too), as signed, then trace by trace, header numbers before samples, samples by exact value; a
-- record whose traces end first is the lesser. The order is total, and two records count as equal just when their meanings are equal. Where two
-- samples both fit code 1, their order is that of their normal words read as sign and magnitude. (12 and 13 apply, the first record's before the
-- second's; the answer says which.)"
--
-- Those about the call are over the outcome that its contract gives, `compare_outcome`; the others are over `order_of`, which the call says of two
-- valid records (`compare_valid`). A record's key is the list of its numbers as it is read above, and the order of two records is that of their keys.
--
-- - `order_parts`: card bytes decide first, then the binary header's numbers, then the traces.
-- - `order_turn`, `order_self`, `order_chain`: the order is total and transitive; `at_most_chain`, `at_most_both`, `at_most_total`: the same of
--   not greater. Any bytes are meant.
-- - `key_held`, `order_held`: the order of two valid records is that of what they hold, `meaning_order`, whatever the form of each trace;
--   `renewed_order`, `renewed_same`: so an earlier record stands where its newest form does, and counts as equal to it.
-- - `rest_held`, `held_sizes`, `trace_by_trace`: traces decide one after the other, header numbers before samples.
-- - `ends_first`: a record whose traces end first is the lesser.
-- - `order_same`: two valid records count as equal exactly when they hold the same; `newest_same`: in the newest form, exactly when they are equal
--   byte for byte.
-- - `reels_order`, `reels_same`: the records that reading two plain reels gives are in the order of what the reels mean, and count as equal exactly
--   when the reels mean the same.
-- - `normal_order`, `fits_normal`, `pairs_order`: two samples that fit code 1 are in the order of their normal words; `ieee_order`: so under code 5.
-- - `compare_ends`, `compare_refused`, `compare_taken`, `compare_valid`, `compare_numbers`: demand 1 for the call; `compare_turn`: that the order is
--   total, of the call.
-- - `front_valid`, `front_key_lem`, `front_parts`, `front_decides`, `front_same`, `front_said`: the front of a record is a record itself, and two
--   records whose fronts differ are in the order of these.
--
-- Besides what a statement names, as validity or a form, all that is assumed of a record or reel is that each byte of it is below 256, where what it
-- holds or means is spoken of.
use mathlib.Core.Path.{◌≡◌, refl, sym, ap, ap₂, ◌∙◌}
use mathlib.Core.Logic.{◌⊎◌}
use mathlib.Core.Bool.{true}
use mathlib.Core.List.{List, [], ◌∷◌, ◌++◌, append_assoc}
use Prim.Native.Nat.{ℕ, ◌+◌}
use native.Mathlib.Omega.{arith}
use lib.IntN.{ℤ}
use lib.ListN.{length, take, length-append}
use Rattle.numbers.specs.Iff.{Iff}
use Rattle.numbers.specs.Terms.{All, Among, Bytes}
use Rattle.numbers.specs.Outcome.{taken}
use Rattle.numbers.specs.Cause.{Fine}
use Rattle.formats.specs.Codes.{ibm_format, ieee_format}
use Rattle.formats.specs.Words.{ibm_word, is_normal, word_of}
use Rattle.formats.specs.Value.{ibm_value, word_number}
use Rattle.formats.specs.Written.{Word}
use Rattle.formats.proofs.CodeLaws.{ibm_float, single_float}
use Rattle.format_theorems.specs.Statements.{NormalOf}
use Rattle.format_theorems.proofs.NormalWords.{normal_again, normal_written, ibm_complete}
use Rattle.value.specs.Pair.{value_of}
use Rattle.value.specs.Writing.{write_pair}
use Rattle.value.specs.declared.Pair.{Pair}
use Rattle.value.proofs.WrittenLaws.{written_is}
use Rattle.sample.specs.Calls.{single_word}
use Rattle.sample_theorems.proofs.Words.{single_number, single_bytes, writing_normal}
use Rattle.reel.specs.Meaning.{Trace, Meaning, meaning_of, MeanTheSame}
use Rattle.headers.specs.Header.{record_numbers}
use Rattle.record.specs.Form.{held_samples, held_count, form_causes}
use Rattle.record.specs.Held.{held_by, IsNewest, renewed}
use Rattle.read_reel.specs.Reading.{read_outcome}
use Rattle.demands.specs.Words.{HasWord}
use Rattle.demands.proofs.Renewed.{renewed_bytes, renewed_valid, renewed_holds}
use Rattle.demands.proofs.Determined.{read_valid, held_same}
use Rattle.demands.proofs.Demand3.{records_equal}
use Rattle.exact.specs.Order.{order_z, turned, or_else, lex_z}
use Rattle.std.specs.declared.cmp.Ordering.{Ordering}
use Rattle.std.specs.declared.cmp.Ordering.TheVariants.{Less, Equal, Greater}
use Rattle.compare.specs.Key.{card_key, binary_key, rest_key, key_of, order_of}
use Rattle.compare.specs.Answer.{ordered, refused, compare_outcome}
use Rattle.compare.proofs.LexLaws.{lex_is, lex_self, lex_turn, lex_append}
use Rattle.compare.proofs.KeyLaws.{card_size, binary_size_lem, record_parts}
use Rattle.order_theorems.specs.MeaningKey.{traces_numbers, IsSized, meaning_key, meaning_order}
use Rattle.order_theorems.specs.SignedWord.{word_signed}
use Rattle.order_theorems.specs.Front.{front_of, front_key}
use Rattle.order_theorems.specs.CompareTable.{CompareRow}
use Rattle.order_theorems.proofs.Chain.{lex_chain, most_chain, most_both, most_total}
use Rattle.order_theorems.proofs.Meanings.{key_of_held, rest_of_held, sizes_held, held_only, traces_by_lem, later_less}
use Rattle.order_theorems.proofs.Refusals.{to_row, from_row, both_valid, ordered_valid, either_end, row_numbers, no_rows, rows_none}
use Rattle.order_theorems.proofs.WordOrder.{words_order}
use Rattle.order_theorems.proofs.Fronts.{front_fine, front_key_is, front_none}

-- ## What decides

-- THEOREM. "card bytes first, then header numbers, .., then trace by trace": of any two.
-- Rules out a call that looks at header numbers before card bytes, or at a trace before the binary header.
pub order_parts : (a b : List ℕ) → order_of a b ≡ or_else (lex_z (card_key a) (card_key b)) (or_else (lex_z (binary_key a) (binary_key b)) (lex_z (rest_key a) (rest_key b)))
unfolding key_of
order_parts a b = record_parts a b (rest_key a) (rest_key b)

-- ## A total order

-- THEOREM. "The order is total": seen from the other side it is turned,
pub order_turn : (a b : List ℕ) → order_of b a ≡ turned (order_of a b)
order_turn a b = lex_turn (key_of a) (key_of b)

-- THEOREM. a record is the same as itself,
pub order_self : (a : List ℕ) → order_of a a ≡ Equal
order_self a = lex_self (key_of a)

-- THEOREM. and a record less than one that is less than a third is less than the third.
pub order_chain : (a b c : List ℕ) → order_of a b ≡ Less → order_of b c ≡ Less → order_of a c ≡ Less
order_chain a b c p q = lex_chain (key_of a) (key_of b) (key_of c) p q

-- THEOREM. So with not greater: it goes on from one to the next,
pub at_most_chain : (a b c : List ℕ) → ¬ (order_of a b ≡ Greater) → ¬ (order_of b c ≡ Greater) → ¬ (order_of a c ≡ Greater)
at_most_chain a b c p q = most_chain (key_of a) (key_of b) (key_of c) p q

-- THEOREM. two records of which neither is the greater are the same,
pub at_most_both : (a b : List ℕ) → ¬ (order_of a b ≡ Greater) → ¬ (order_of b a ≡ Greater) → order_of a b ≡ Equal
at_most_both a b p q = most_both (key_of a) (key_of b) p q

-- THEOREM. and of two records one is not greater than the other.
pub at_most_total : (a b : List ℕ) → (¬ (order_of a b ≡ Greater)) ⊎ (¬ (order_of b a ≡ Greater))
at_most_total a b = most_total (key_of a) (key_of b)

-- ## What records hold

-- THEOREM. "header numbers, bare as the record holds them and in its order (69 and 71 too), as signed, .., samples by exact value": the key of a
-- valid record is that of what it holds.
pub key_held : (s : List ℕ) → Bytes s → form_causes s ≡ Fine → key_of s ≡ meaning_key (held_by s)
key_held = key_of_held

-- THEOREM. So the order of two valid records is that of what they hold, whatever the form of each trace.
-- Rules out a call that compares the bytes of pairs, fields or tags.
pub order_held : (a b : List ℕ) → Bytes a → Bytes b → form_causes a ≡ Fine → form_causes b ≡ Fine → order_of a b ≡ meaning_order (held_by a) (held_by b)
order_held a b ba bb va vb = ap₂ lex_z (key_held a ba va) (key_held b bb vb)

-- THEOREM. "then trace by trace, header numbers before samples, samples by exact value": the traces that follow the binary header are those that
-- are held,
pub rest_held : (s : List ℕ) → Bytes s → form_causes s ≡ Fine → rest_key s ≡ traces_numbers (held_by s).traces
rest_held = rest_of_held

-- THEOREM. each of them has 71 header numbers and as many samples as the record says,
pub held_sizes : (s : List ℕ) → Bytes s → form_causes s ≡ Fine → All (IsSized (held_samples s)) (held_by s).traces
held_sizes = sizes_held

-- THEOREM. and of such traces the first two decide, by their header numbers and then by their values, and then those behind them.
-- Rules out a call that looks at all headers before any sample.
pub trace_by_trace : (n : ℕ) (t u : Trace) (ts us : List Trace) → IsSized n t → IsSized n u
    → lex_z (traces_numbers (t ∷ ts)) (traces_numbers (u ∷ us))
    ≡ or_else (lex_z (record_numbers t.header) (record_numbers u.header)) (or_else (lex_z t.values u.values) (lex_z (traces_numbers ts) (traces_numbers us)))
trace_by_trace = traces_by_lem

-- THEOREM. Records in an earlier form (document 02, CR 8) are in the order of the same records in the newest form,
pub renewed_order : (a b : List ℕ) → Bytes a → Bytes b → form_causes a ≡ Fine → form_causes b ≡ Fine → order_of (renewed a) (renewed b) ≡ order_of a b
renewed_order a b ba bb va vb =
    order_held (renewed a) (renewed b) (renewed_bytes a ba va) (renewed_bytes b bb vb) (renewed_valid a ba va) (renewed_valid b bb vb)
    ∙ ap₂ meaning_order (renewed_holds a ba va) (renewed_holds b bb vb) ∙ sym (order_held a b ba bb va vb)

-- THEOREM. and such a record counts as equal to itself in that form.
pub renewed_same : (a : List ℕ) → Bytes a → form_causes a ≡ Fine → order_of (renewed a) a ≡ Equal
renewed_same a ba va =
    order_held (renewed a) a (renewed_bytes a ba va) ba (renewed_valid a ba va) va
    ∙ ap (λ (m : Meaning). meaning_order m (held_by a)) (renewed_holds a ba va) ∙ lex_self (meaning_key (held_by a))

-- THEOREM. "a record whose traces end first is the lesser": where the second has the same cards, binary numbers and traces, and some more.
-- Rules out a call that takes records with the same first traces as equal.
pub ends_first : (a b : List ℕ) (t : Trace) (ts : List Trace) → Bytes a → Bytes b → form_causes a ≡ Fine → form_causes b ≡ Fine
    → (held_by a).cards ≡ (held_by b).cards → (held_by a).binary ≡ (held_by b).binary → (held_by b).traces ≡ (held_by a).traces ++ (t ∷ ts)
    → order_of a b ≡ Less
ends_first a b t ts ba bb va vb c d e = order_held a b ba bb va vb ∙ later_less (held_by a) (held_by b) t ts c d e

-- ## Records that count as equal

-- THEOREM. "two records count as equal just when their meanings are equal".
pub order_same : (a b : List ℕ) → Bytes a → Bytes b → form_causes a ≡ Fine → form_causes b ≡ Fine → Iff (order_of a b ≡ Equal) (held_by a ≡ held_by b)
order_same a b ba bb va vb = (
  λ e. held_only a b ba bb va vb (lex_is (key_of a) (key_of b) e),
  λ e. order_held a b ba bb va vb ∙ ap (meaning_order (held_by a)) (sym e) ∙ lex_self (meaning_key (held_by a)),
)

-- THEOREM. So two records in the newest form count as equal exactly when they are equal byte for byte.
pub newest_same : (a b : List ℕ) → Bytes a → Bytes b → form_causes a ≡ Fine → form_causes b ≡ Fine → IsNewest a → IsNewest b → Iff (order_of a b ≡ Equal) (a ≡ b)
newest_same a b ba bb va vb na nb = (
  λ e. held_same a b ba bb va vb na nb ((order_same a b ba bb va vb).0 e),
  λ e. ap (order_of a) (sym e) ∙ order_self a,
)

-- ## The records of reels

module _ (s₁ s₂ out₁ out₂ : List ℕ) (t₁ n₁ l₁ c₁ t₂ n₂ l₂ c₂ : ℕ) (b₁ : Bytes s₁) (b₂ : Bytes s₂)
    (e₁ : (read_outcome s₁ out₁).said ≡ taken (t₁ ∷ n₁ ∷ l₁ ∷ c₁ ∷ [])) (e₂ : (read_outcome s₂ out₂).said ≡ taken (t₂ ∷ n₂ ∷ l₂ ∷ c₂ ∷ [])) where
  -- THEOREM. Where the readings of two plain reels are taken, comparing the two records says the order of what the reels mean.
  pub reels_order : compare_outcome (take l₁ (read_outcome s₁ out₁).bytes) (take l₂ (read_outcome s₂ out₂).bytes) ≡ ordered (meaning_order (meaning_of s₁) (meaning_of s₂))
  reels_order =
      let a = take l₁ (read_outcome s₁ out₁).bytes in
      let b = take l₂ (read_outcome s₂ out₂).bytes in
      let r₁ = read_valid s₁ out₁ t₁ n₁ l₁ c₁ b₁ e₁ in
      let r₂ = read_valid s₂ out₂ t₂ n₂ l₂ c₂ b₂ e₂ in
      both_valid a b r₁.valid r₂.valid
      ∙ ap ordered (order_held a b r₁.bytes r₂.bytes r₁.valid r₂.valid ∙ ap₂ meaning_order r₁.holds r₂.holds)

  -- THEOREM. It says that they are the same exactly when the reels mean the same.
  pub reels_same : Iff (compare_outcome (take l₁ (read_outcome s₁ out₁).bytes) (take l₂ (read_outcome s₂ out₂).bytes) ≡ ordered Equal) (MeanTheSame s₁ s₂)
  reels_same =
      let a = take l₁ (read_outcome s₁ out₁).bytes in
      let b = take l₂ (read_outcome s₂ out₂).bytes in
      let r₁ = read_valid s₁ out₁ t₁ n₁ l₁ c₁ b₁ e₁ in
      let r₂ = read_valid s₂ out₂ t₂ n₂ l₂ c₂ b₂ e₂ in
      let same = newest_same a b r₁.bytes r₂.bytes r₁.valid r₂.valid r₁.newest r₂.newest in
      let means = records_equal s₁ s₂ out₁ out₂ t₁ n₁ l₁ c₁ t₂ n₂ l₂ c₂ b₁ b₂ e₁ e₂ in
      (λ e. means.0 (same.0 (ordered_valid a b e).2), λ m. both_valid a b r₁.valid r₂.valid ∙ ap ordered (same.1 (means.1 m)))

-- ## Samples and their words

-- THEOREM. "their order is that of their normal words read as sign and magnitude": where n and m are the normal words of two values. What a normal
-- word is, in document 01's words, is `normal_is` of `sample_theorems`; that a value has no other is `normal_only`.
-- Rules out an order by pairs, exponent first, and one that reads the words in two's complement.
pub normal_order : (v u : ℤ) (n m : ℕ) → NormalOf v n → NormalOf u m → order_z v u ≡ order_z (word_signed 32 n) (word_signed 32 m)
normal_order v u n m p q = words_order ibm_format 32 24 ibm_float (omega arith) (omega arith) v u n m (word v n p) (word u m q)
  where
    word : (v : ℤ) (n : ℕ) → NormalOf v n → ibm_word v ≡ Word n
    word v n p = ap ibm_word (sym p.value) ∙ normal_again n p.fit p.normal

-- THEOREM. "Where two samples both fit code 1": a value fits, some word of code 1 has it, exactly when it has a normal word.
pub fits_normal : (v : ℤ) → Iff (HasWord 1 v) ((n : ℕ) × NormalOf v n)
fits_normal v = (there, back)
  where
    there : HasWord 1 v → (n : ℕ) × NormalOf v n
    there h =
        let t = ibm_complete (word_number 1 h.word) in
        (t.0, normal_written v t.0 (ap ibm_word (sym h.value) ∙ t.1))

    back : (n : ℕ) × NormalOf v n → HasWord 1 v
    back h =
        let n = h.0 in
        let p = h.1 in
        let b = single_bytes 1 n refl in
        record { word = single_word 1 n; size = b.0; bytes = b.1; good = refl; value = ap ibm_value (single_number 1 n refl p.fit) ∙ p.value }

-- THEOREM. So of two pairs, and the words that writing gives for them under code 1, which are normal.
pub pairs_order : (p q : Pair) (n m : ℕ) → write_pair 1 p ≡ Word n → write_pair 1 q ≡ Word m
    → (is_normal n ≡ true) × (is_normal m ≡ true) × (order_z (value_of p) (value_of q) ≡ order_z (word_signed 32 n) (word_signed 32 m))
pairs_order p q n m e f = (
  writing_normal p n e,
  writing_normal q m f,
  normal_order (value_of p) (value_of q) n m (normal_written (value_of p) n (written_is 1 p n e).2) (normal_written (value_of q) m (written_is 1 q m f).2),
)

-- THEOREM. Under code 5 the same holds of the words that writing gives.
pub ieee_order : (v u : ℤ) (n m : ℕ) → word_of 5 v ≡ Word n → word_of 5 u ≡ Word m → order_z v u ≡ order_z (word_signed 32 n) (word_signed 32 m)
ieee_order v u n m p q = words_order (ieee_format 8 23) 32 23 single_float (omega arith) (omega arith) v u n m p q

-- ## Demand 1

module _ (a b : List ℕ) where
  -- THEOREM. "Every call comes to a defined end on every input": comparing says the order, or which record is refused, by which number and at
  -- which place. The rest of the clause Rattle proves of each function.
  pub compare_ends : (compare_outcome a b ≡ ordered (order_of a b)) ⊎ ((which number place : ℕ) × (compare_outcome a b ≡ refused which number place))
  compare_ends = either_end a b

  -- THEOREM. "each refusal has the number and place that document 01 sets, and is given in just the cases set there": "12 and 13 apply, the first
  -- record's before the second's; the answer says which".
  -- Rules out a call that looks at the second record first, one that orders what is no valid record, and a place counted through both.
  pub compare_refused : (which number place : ℕ) → Iff (compare_outcome a b ≡ refused which number place) (CompareRow a b which number place)
  compare_refused which number place = (to_row a b, from_row a b)

  -- THEOREM. "in just the cases set there": it says the order exactly when no row applies.
  pub compare_taken : Iff (compare_outcome a b ≡ ordered (order_of a b)) ((which number place : ℕ) → ¬ (CompareRow a b which number place))
  compare_taken = (no_rows a b, rows_none a b)

  -- THEOREM. "Compare two valid records": it says an order exactly when both are valid, and then theirs.
  pub compare_valid : (o : Ordering) → Iff (compare_outcome a b ≡ ordered o) ((form_causes a ≡ Fine) × (form_causes b ≡ Fine) × (order_of a b ≡ o))
  compare_valid o = (ordered_valid a b, λ h. both_valid a b h.0 h.1 ∙ ap ordered h.2)

  -- THEOREM. "The order is total": asked the other way round, it says the order turned.
  pub compare_turn : (o : Ordering) → compare_outcome a b ≡ ordered o → compare_outcome b a ≡ ordered (turned o)
  compare_turn o e = let h = ordered_valid a b e in both_valid b a h.1 h.0 ∙ ap ordered (order_turn a b ∙ ap turned h.2)

  -- THEOREM. The answer says 1 or 2, and 12 or 13.
  pub compare_numbers : (which number place : ℕ) → compare_outcome a b ≡ refused which number place → Among which (1 ∷ 2 ∷ []) × Among number (12 ∷ 13 ∷ [])
  compare_numbers which number place e = row_numbers (to_row a b e)

-- ## Fronts

-- The front of a record is its first 3,266 bytes, before the traces, with the field of no traces behind: who sorts records may compare fronts first.

-- THEOREM. The front of a valid record is a valid record without traces,
pub front_valid : (s : List ℕ) → form_causes s ≡ Fine → (form_causes (front_of s) ≡ Fine) × (held_count (front_of s) (held_samples (front_of s)) ≡ 0)
front_valid s v = (front_fine s v, front_none s v)

-- THEOREM. with the record's card bytes and binary numbers.
pub front_key_lem : (s : List ℕ) → form_causes s ≡ Fine → key_of (front_of s) ≡ front_key s
front_key_lem = front_key_is

module _ (a b : List ℕ) (va : form_causes a ≡ Fine) (vb : form_causes b ≡ Fine) where
  -- THEOREM. The order of two valid records is that of their fronts, then that of their traces:
  pub front_parts : order_of a b ≡ or_else (order_of (front_of a) (front_of b)) (lex_z (rest_key a) (rest_key b))
  unfolding key_of
  front_parts =
      let whole : (s : List ℕ) → key_of s ≡ front_key s ++ rest_key s = λ s. sym (append_assoc (card_key s) (binary_key s) (rest_key s)) in
      let size : (s : List ℕ) → length (front_key s) ≡ 3227 = λ s. length-append (card_key s) (binary_key s) ∙ ap₂ (λ (x y : ℕ). x + y) (card_size s) (binary_size_lem s) in
      ap₂ lex_z (whole a) (whole b) ∙ lex_append (front_key a) (front_key b) (rest_key a) (rest_key b) (size a ∙ sym (size b))
      ∙ ap (λ (o : Ordering). or_else o (lex_z (rest_key a) (rest_key b))) (sym (ap₂ lex_z (front_key_lem a va) (front_key_lem b vb)))

  -- THEOREM. where the fronts are not the same, they decide,
  pub front_decides : ¬ (order_of (front_of a) (front_of b) ≡ Equal) → order_of a b ≡ order_of (front_of a) (front_of b)
  front_decides n = front_parts ∙ go (order_of (front_of a) (front_of b)) n
    where
      go : (o : Ordering) → ¬ (o ≡ Equal) → or_else o (lex_z (rest_key a) (rest_key b)) ≡ o
      go Less n = refl
      go Equal n = absurd (n refl)
      go Greater n = refl

  -- THEOREM. and where they are, the traces do.
  pub front_same : order_of (front_of a) (front_of b) ≡ Equal → order_of a b ≡ lex_z (rest_key a) (rest_key b)
  front_same e = front_parts ∙ ap (λ (o : Ordering). or_else o (lex_z (rest_key a) (rest_key b))) e

  -- THEOREM. So with what comparing says: an order of the fronts that decides is that of the records.
  pub front_said : (o : Ordering) → ¬ (o ≡ Equal) → compare_outcome (front_of a) (front_of b) ≡ ordered o → compare_outcome a b ≡ ordered o
  front_said o n e =
      let f = (ordered_valid (front_of a) (front_of b) e).2 in
      both_valid a b va vb ∙ ap ordered (front_decides (λ s. n (sym f ∙ s)) ∙ f)
