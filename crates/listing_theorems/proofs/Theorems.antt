-- # The listing of a record's cards, and the way back
--
-- Document 02, CR 1; each clause of it stands over the theorem that says it, and demand 1's over those that say it of both calls.
--
-- The theorems are over the outcomes that the contracts of the calls give: of `listing::list_cards` by `list_outcome latin`, of
-- `listing::take_cards` by `take_outcome latin`. They speak of any table t. Where t has to take the 256 codes to the 256 characters one to
-- one, they ask for `OneToOne t`, which `page_one_to_one` gives for `latin`; `page_listed_back` is `listed_back` for it. That `latin` is code
-- page 037 as published is tested against another implementation of the page, not proved.
--
-- - `page_one_to_one`: each character appears in code page 037 just once.
-- - `lines_listed`: where listing is taken, the output's first 3,240 bytes are the 40 lines, character by character.
-- - `record_taken`: where taking back is taken, it returns T, N and the length of a valid record, which has the listing's text, the character of
--   the code 00 as a blank, and all else byte for byte as it was.
-- - `listed_text`: the text of a valid record, listed and taken back into any valid record, is that text.
-- - `listed_back`: into the record itself, it gives that record, byte for byte.
-- - `list_ends`, `list_refused`, `list_taken`, `list_keeps`, `list_rest`, and the same of taking back: demand 1 for both calls.
--
-- Each byte of a record and of a listing is below 256; beside that and `OneToOne t` nothing is assumed but what a theorem says. Every record,
-- listing and output is meant.
use mathlib.Core.Path.{◌≡◌, refl, sym, ap, ap₂, subst, ◌∙◌}
use mathlib.Core.List.{List, [], ◌∷◌, ◌++◌}
use mathlib.Core.Logic.{◌⊎◌}
use mathlib.Core.Bool.{Bool, true, false}
use Prim.Native.Nat.{ℕ, ◌+◌, ◌*◌, ◌≤◌, ◌<◌}
use native.Mathlib.Omega.{arith}
use borrow.Author.Tests.{le-ltb, eqb-true, eqb-false}
use lib.Dec.{eqb}
use lib.ListN.{length, get_or, take, drop}
use lib.Seq.{take_at}
use Rattle.numbers.specs.Walk.{pick, bytes_at}
use Rattle.numbers.specs.Outcome.{Said, taken, refused}
use Rattle.numbers.specs.Iff.{Iff}
use Rattle.numbers.specs.Terms.{Bytes}
use Rattle.numbers.specs.Cause.{Check}
use Rattle.numbers.specs.Cause.{Fine}
use Rattle.numbers.proofs.CauseLaws.{then_fine, at_most}
use Rattle.numbers.proofs.ByteLaws.{byte_at_lem as below}
use Rattle.numbers.proofs.Filling.{size_over}
use Rattle.numbers.proofs.SaidLaws.{says_refused, says_fine, says_either, refused_by, taken_by, keeps_rest}
use Rattle.reel.specs.Layout.{card_bytes}
use Rattle.reel.specs.Meaning.{blank, Meaning}
use Rattle.record.specs.Form.{form_causes}
use Rattle.record.specs.Held.{held_by_in, held_by}
use Rattle.code_page.specs.Page.{char_of, code_in, latin, OneToOne}
use Rattle.code_page.proofs.PageLaws.{latin_one_to_one}
use Rattle.listing.specs.Listing.{listing_length, listing_of, card_byte, text_of, with_text, listing_causes}
use Rattle.listing.specs.Calls.{list_causes, list_end, list_outcome, take_causes, taken_numbers, take_end, take_outcome}
use Rattle.listing.proofs.ListingLaws.{size_listing, size_text, kept}
use Rattle.listing.proofs.EndLaws.{long}
use Rattle.demands.proofs.From.{from_start, from_bytes}
use Rattle.demands.proofs.ProperLaws.{held_proper}
use Rattle.listing_theorems.specs.ListingTable.{line_place, ListRow, TakeRow}
use Rattle.listing_theorems.specs.Results.{card_place, CardsListed, comes_back, WithListing, RecordTaken}
use Rattle.listing_theorems.proofs.Refusals.{list_exact, take_exact}
use Rattle.listing_theorems.proofs.Text.{byte_of, char_at, feed_at, listing_fine, byte_at_lem, text_some, text_back}
use Rattle.listing_theorems.proofs.Replaced.{text_bytes, front_bytes, behind_byte, same_text, text_valid, text_is_bytes, text_held, text_samples, text_traces}

-- ## Code page 037

-- THEOREM. "each character of the target appears in it just once": code page 037 takes the 256 codes to the 256 characters one to one, both
-- ways.
-- Rules out a table with two entries alike.
pub page_one_to_one : OneToOne latin
page_one_to_one = latin_one_to_one

-- THEOREM. Of the published forms it is Unicode's: 15 is the character 85, and 25 the line feed 0A. The character of the code 00 is 00, and 40
-- is the blank.
-- Rules out the form that has 15 and 25 the other way round.
pub page_marks : (char_of latin 0x15 ≡ 0x85) × (char_of latin 0x25 ≡ 0x0A) × (char_of latin 0x00 ≡ 0x00) × (char_of latin 0x40 ≡ 0x20)
unfolding latin
page_marks = (refl, refl, refl, refl)

-- ## Demand 1 for listing

module _ (t r out : List ℕ) where
  -- What listing says, by what its checks answer, and these.
  abbrev list_says : Check → Said
  list_says c = (list_end t r out c).said

  abbrev list_checks : Check
  list_checks = list_causes r (length out)

  -- THEOREM. "Every call comes to a defined end on every input: no access outside the lent buffers and no number that loses bits": listing
  -- is taken with 3,240, or refused by a number with a place. The rest of the clause Rattle proves of each function.
  -- Alone it rules out nothing.
  pub list_ends : ((list_outcome t r out).said ≡ taken (3240 ∷ [])) ⊎ ((number : ℕ) × (place : ℕ) × ((list_outcome t r out).said ≡ refused number place))
  list_ends = says_either list_says (3240 ∷ []) refl (λ n p. refl) list_checks

  -- THEOREM. "each refusal has the number and place that document 01 sets, and is given in just the cases set there".
  -- Rules out a call that declines every record, one that lists what is no valid record, and 10 before 12 or 13.
  pub list_refused : (number place : ℕ) → Iff ((list_outcome t r out).said ≡ refused number place) (ListRow r (length out) number place)
  list_refused = refused_by list_says (3240 ∷ []) refl (λ n p. refl) (ListRow r (length out)) list_checks (list_exact r (length out))

  -- THEOREM. It is taken exactly when no row applies.
  -- Rules out a call that declines every record.
  pub list_taken : Iff ((list_outcome t r out).said ≡ taken (3240 ∷ [])) ((number place : ℕ) → ¬ (ListRow r (length out) number place))
  list_taken = taken_by list_says (3240 ∷ []) refl (λ n p. refl) (ListRow r (length out)) list_checks (list_exact r (length out))

  -- THEOREM. "a refused call changes no byte of its output buffer".
  -- Rules out a call that writes lines before it has found the record valid.
  pub list_keeps : (number place : ℕ) → (list_outcome t r out).said ≡ refused number place → (list_outcome t r out).bytes ≡ out
  list_keeps number place e =
      ap (λ (c : Check). (list_end t r out c).bytes) ((says_refused list_says (3240 ∷ []) refl (λ n p. refl) list_checks number place).0 e)

  -- Where it is taken, the record is valid and the output long enough.
  list_needs : (list_outcome t r out).said ≡ taken (3240 ∷ []) → (list_checks ≡ Fine) × (listing_length ≤ length out)
  list_needs e =
      let q = says_fine list_says (3240 ∷ []) refl (λ n p. refl) list_checks (3240 ∷ []) e in
      (q, at_most (length out) listing_length 10 listing_length (then_fine (form_causes r) _ q).1)

  -- THEOREM. "The rest of a longer output buffer keeps its content" (document 01), and the output its length.
  -- Rules out a call that writes more than the listing.
  pub list_rest : (list_outcome t r out).said ≡ taken (3240 ∷ []) → (length (list_outcome t r out).bytes ≡ length out) × (drop 3240 (list_outcome t r out).bytes ≡ drop 3240 out)
  list_rest e =
      let q = list_needs e in
      keeps_rest (list_end t r out) (listing_of t (held_by r).cards) out listing_length list_checks refl q.0 (size_listing t (held_by r).cards) q.1

-- ## Demand 1 for taking back

module _ (t r listing out : List ℕ) where
  -- What taking back says, by what its checks answer, and these.
  abbrev take_says : Check → Said
  take_says c = (take_end r (text_of t listing) out c).said

  abbrev take_checks : Check
  take_checks = take_causes r listing (length out)

  -- THEOREM. "Every call comes to a defined end on every input: no access outside the lent buffers and no number that loses bits": taking
  -- back is taken with T, N and the record's length, or refused by a number with a place. The rest of the clause Rattle proves of each
  -- function.
  -- Alone it rules out nothing.
  pub take_ends : ((take_outcome t r listing out).said ≡ taken (taken_numbers r))
      ⊎ ((number : ℕ) × (place : ℕ) × ((take_outcome t r listing out).said ≡ refused number place))
  take_ends = says_either take_says (taken_numbers r) refl (λ n p. refl) take_checks

  -- THEOREM. "each refusal has the number and place that document 01 sets, and is given in just the cases set there"; 17 and its places
  -- document 02 sets.
  -- Rules out a call that declines every listing, one that takes lines which are not closed, 17 before 12 or 13 or after 10, and 17 by place
  -- before 17 by length.
  pub take_refused : (number place : ℕ) → Iff ((take_outcome t r listing out).said ≡ refused number place) (TakeRow r listing (length out) number place)
  take_refused = refused_by take_says (taken_numbers r) refl (λ n p. refl) (TakeRow r listing (length out)) take_checks (take_exact r listing (length out))

  -- THEOREM. It is taken exactly when no row applies.
  -- Rules out a call that declines every listing, and one whose T, N or length is invented.
  pub take_taken : Iff ((take_outcome t r listing out).said ≡ taken (taken_numbers r)) ((number place : ℕ) → ¬ (TakeRow r listing (length out) number place))
  take_taken = taken_by take_says (taken_numbers r) refl (λ n p. refl) (TakeRow r listing (length out)) take_checks (take_exact r listing (length out))

  -- THEOREM. "a refused call changes no byte of its output buffer".
  -- Rules out a call that copies the record before it has looked at the listing.
  pub take_keeps : (number place : ℕ) → (take_outcome t r listing out).said ≡ refused number place → (take_outcome t r listing out).bytes ≡ out
  take_keeps number place e =
      ap (λ (c : Check). (take_end r (text_of t listing) out c).bytes)
      ((says_refused take_says (taken_numbers r) refl (λ n p. refl) take_checks number place).0 e)

  -- Where it is taken, the record is valid and the output long enough; and the numbers returned are those of the record.
  take_fine : (values : List ℕ) → (take_outcome t r listing out).said ≡ taken values → take_checks ≡ Fine
  take_fine = says_fine take_says (taken_numbers r) refl (λ n p. refl) take_checks

  take_needs : take_checks ≡ Fine → (form_causes r ≡ Fine) × (length r ≤ length out)
  take_needs q =
      let a = then_fine (form_causes r) _ q in
      (a.0, at_most (length out) (length r) 10 (length r) (then_fine (listing_causes listing) _ a.1).1)

  -- The record with the text is as long as the record.
  with_size : form_causes r ≡ Fine → length (with_text r (text_of t listing)) ≡ length r
  with_size v = size_over r (text_of t listing) 3 (omega (arith, size_text t listing, long r v))

  -- THEOREM. "The rest of a longer output buffer keeps its content" (document 01), and the output its length.
  -- Rules out a call that writes more than the record.
  pub take_rest : (k n l : ℕ) → (take_outcome t r listing out).said ≡ taken (k ∷ n ∷ l ∷ [])
      → (length (take_outcome t r listing out).bytes ≡ length out) × (drop l (take_outcome t r listing out).bytes ≡ drop l out)
  take_rest k n l e =
      let q = take_fine (k ∷ n ∷ l ∷ []) e in
      let f = take_needs q in
      let same : taken (taken_numbers r) ≡ taken (k ∷ n ∷ l ∷ []) = sym (ap take_says q) ∙ e in
      let is : length r ≡ l = cc in
      subst (λ (x : ℕ). (length (take_outcome t r listing out).bytes ≡ length out) × (drop x (take_outcome t r listing out).bytes ≡ drop x out)) is
      (keeps_rest (take_end r (text_of t listing) out) (with_text r (text_of t listing)) out (length r) take_checks refl q (with_size f.0) f.1)

-- ## The listing

-- THEOREM. "40 lines of 80 characters, each closed by a line feed (0A), 3,240 bytes in all": where listing is taken, the output's first bytes
-- are the lines of the record's cards, character by character.
-- Rules out the line feed before the 80 characters, the first card listed for all, and a call that writes nothing and says taken.
pub lines_listed : (t r out : List ℕ) → (list_outcome t r out).said ≡ taken (3240 ∷ []) → CardsListed t r out (list_outcome t r out).bytes
unfolding held_by_in
lines_listed t r out e =
    let q = list_needs t r out e in
    let rest = list_rest t r out e in
    let text = (held_by r).cards in
    let whole = listing_of t text in
    let is : (list_outcome t r out).bytes ≡ whole ++ drop 3240 out = ap (λ (c : Check). (list_end t r out c).bytes) q.0 in
    let front : bytes_at (list_outcome t r out).bytes 0 3240 ≡ whole =
    ap (λ (x : List ℕ). bytes_at x 0 3240) is ∙ from_bytes whole (drop 3240 out) 3240 (size_listing t text) (from_start (whole ++ drop 3240 out)) in
    let byte : (p : ℕ) → p < 3240 → get_or (list_outcome t r out).bytes p 0 ≡ get_or whole p 0 =
    λ p l. let z : 0 + p ≡ p = omega arith in
    ap (λ (x : ℕ). get_or (list_outcome t r out).bytes x 0) (sym z) ∙ sym (byte_of (list_outcome t r out).bytes 0 3240 p l) ∙ ap (λ (x : List ℕ). get_or x p 0) front in
    record {
      size = rest.0;
      character = λ j i l m.
          byte (line_place j i) (omega (arith, l, m)) ∙ char_at t text j i l m ∙ ap (char_of t) (byte_of r 3 3200 (j * 80 + i) (omega (arith, l, m)));
      closed = λ j l. byte (line_place j 80) (omega (arith, l)) ∙ feed_at t text j l;
      rest = rest.1;
    }

-- ## The way back

module _ (t r listing : List ℕ) (o : OneToOne t) (bytes : Bytes r) (chars : Bytes listing) (valid : form_causes r ≡ Fine) where
  -- The new record.
  abbrev new : List ℕ
  new = with_text r (text_of t listing)

  size : length (text_of t listing) ≡ card_bytes
  size = size_text t listing

  -- A card byte of the new record.
  card : (j i : ℕ) → j < 40 → i < 80 → get_or new (card_place j i) 0 ≡ card_byte t (get_or listing (line_place j i) 0)
  card j i l m =
      sym (byte_of new 3 3200 (j * 80 + i) (omega (arith, l, m)))
      ∙ ap (λ (x : List ℕ). get_or x (j * 80 + i) 0) (text_bytes r (text_of t listing) size (long r valid))
      ∙ byte_at_lem t listing j i l m

  -- The character of a character's card byte.
  back : (c : ℕ) → c < 256 → char_of t (card_byte t c) ≡ comes_back t c
  back c h = go (eqb c (char_of t 0)) refl
    where
      go : (b : Bool) → eqb c (char_of t 0) ≡ b → char_of t (card_byte t c) ≡ pick b (char_of t 0x40) c
      go true e = ap (λ (x : ℕ). char_of t (blank x)) (ap (code_in t) (eqb-true c (char_of t 0) e) ∙ o.code_again 0 (omega arith))
      go false e =
          ap (char_of t) (kept (code_in t c) (λ z. eqb-false c (char_of t 0) e (sym (o.character_again c h) ∙ ap (char_of t) z))) ∙ o.character_again c h

  with_listing : WithListing t r listing new
  with_listing =
      let some = text_some t listing o chars in
      let x = text_of t listing in
      let long-enough = long r valid in
      let held = text_held r bytes valid x size some in
      record {
        bytes = text_is_bytes r bytes valid x size some;
        valid = text_valid r bytes valid x size some;
        size = size_over r x 3 (omega (arith, size, long-enough));
        samples = text_samples r bytes valid x size some;
        count = text_traces r bytes valid x size some;
        code = λ j i l m n. card j i l m ∙ kept (code_in t (get_or listing (line_place j i) 0)) n;
        blank = λ j i l m e. card j i l m ∙ ap blank e;
        character = λ j i l m. ap (char_of t) (card j i l m) ∙ back (get_or listing (line_place j i) 0) (below listing chars (line_place j i));
        front = λ p l. let z : 0 + p ≡ p = omega arith in
            ap (λ (y : ℕ). get_or new y 0) (sym z) ∙ sym (byte_of new 0 3 p l) ∙ ap (λ (y : List ℕ). get_or y p 0) (front_bytes r x size long-enough)
            ∙ byte_of r 0 3 p l ∙ ap (λ (y : ℕ). get_or r y 0) z;
        behind = behind_byte r x size long-enough;
        binary = ap (λ (m : Meaning). m.binary) held;
        traces = ap (λ (m : Meaning). m.traces) held;
      }

-- THEOREM. "A corrected listing and the record give a new record with that text by the inverse, a card byte 00 becoming 40 as on reading,
-- and all else as it was. A call that gives a record returns T, N and its length": where taking back is taken, it does.
-- Rules out 00 kept on the way back, two entries of the table swapped on the way back alone, a byte behind the cards not copied, a call that
-- keeps the record's own text whatever the listing, and one that writes nothing and says taken.
pub record_taken : (t r listing out : List ℕ) (k n l : ℕ) → OneToOne t → Bytes r → Bytes listing → (take_outcome t r listing out).said ≡ taken (k ∷ n ∷ l ∷ [])
    → RecordTaken t r listing out (take_outcome t r listing out).bytes k n l
record_taken t r listing out k n l o b c e =
    let q = take_fine t r listing out (k ∷ n ∷ l ∷ []) e in
    let f = take_needs t r listing out q in
    let x = with_text r (text_of t listing) in
    let same : taken (taken_numbers r) ≡ taken (k ∷ n ∷ l ∷ []) = sym (ap (take_says t r listing out) q) ∙ e in
    let is : length r ≡ l = cc in
    let content : take l (take_outcome t r listing out).bytes ≡ x =
    ap₂ (λ (y : ℕ) (d : Check). take y (take_end r (text_of t listing) out d).bytes) (sym is) q
    ∙ take_at x (drop (length r) out) (length r) (with_size t r listing out f.0) in
    record {
      traces = cc;
      samples = cc;
      size = sym is;
      content = subst (WithListing t r listing) (sym content) (with_listing t r listing o b c f.0);
      whole = (take_rest t r listing out k n l e).0;
      rest = (take_rest t r listing out k n l e).1;
    }

-- ## There and back

module _ (t r r₂ out out₂ : List ℕ) (o : OneToOne t) (bytes : Bytes r) (valid : form_causes r ≡ Fine) (valid₂ : form_causes r₂ ≡ Fine) where
  -- Listing a valid record into an output that is long enough finds no cause.
  no_cause : listing_length ≤ length out → list_causes r (length out) ≡ Fine
  no_cause room = rw (valid, le-ltb (length out) listing_length room)

  -- The listing stands at the output's front.
  listed : listing_length ≤ length out → take 3240 (list_outcome t r out).bytes ≡ listing_of t (held_by r).cards
  listed room =
      ap (λ (c : Check). take 3240 (list_end t r out c).bytes) (no_cause room)
      ∙ take_at (listing_of t (held_by r).cards) (drop listing_length out) listing_length (size_listing t (held_by r).cards)

  -- THEOREM. "Listing the text of a valid record and taking it back gives that text": both calls are taken, and the text comes back into any
  -- valid record, that record itself or another.
  -- Rules out a way back that isn't the inverse; with `page_one_to_one`, any loss of text by code page 037.
  pub listed_text : 3240 ≤ length out → length r₂ ≤ length out₂
      → ((list_outcome t r out).said ≡ taken (3240 ∷ []))
      × (take_outcome t r₂ (take 3240 (list_outcome t r out).bytes) out₂ ≡ record { said = taken (taken_numbers r₂); bytes = with_text r₂ (held_by r).cards ++ drop (length r₂) out₂ })
  listed_text room room₂ =
      let text = (held_by r).cards in
      let own = held_proper r bytes valid in
      let fine : take_causes r₂ (listing_of t text) (length out₂) ≡ Fine = rw (valid₂, listing_fine t text, le-ltb (length out₂) (length r₂) room₂) in (
        ap (λ (c : Check). (list_end t r out c).said) (no_cause room),
        ap (λ (l : List ℕ). take_outcome t r₂ l out₂) (listed room)
            ∙ ap (take_end r₂ (text_of t (listing_of t text)) out₂) fine
            ∙ ap (λ (x : List ℕ). take_end r₂ x out₂ Fine) (text_back t o text own.size own.cards),
      )

-- THEOREM. And into the record itself it gives that record, byte for byte.
-- Rules out any loss on the way: what a client lists, leaves as it is and takes back is the record.
pub listed_back : (t r out out₂ : List ℕ) → OneToOne t → Bytes r → form_causes r ≡ Fine → 3240 ≤ length out → length r ≤ length out₂
    → ((list_outcome t r out).said ≡ taken (3240 ∷ []))
    × (take_outcome t r (take 3240 (list_outcome t r out).bytes) out₂ ≡ record { said = taken (taken_numbers r); bytes = r ++ drop (length r) out₂ })
listed_back t r out out₂ o b v room room₂ =
    let both = listed_text t r r out out₂ o b v v room room₂ in
    (both.0, both.1 ∙ ap (λ (x : List ℕ). record { said = taken (taken_numbers r); bytes = x ++ drop (length r) out₂ }) (same_text r b v))

-- THEOREM. So do both calls, by code page 037.
pub page_listed_back : (r out out₂ : List ℕ) → Bytes r → form_causes r ≡ Fine → 3240 ≤ length out → length r ≤ length out₂
    → ((list_outcome latin r out).said ≡ taken (3240 ∷ []))
    × (take_outcome latin r (take 3240 (list_outcome latin r out).bytes) out₂ ≡ record { said = taken (taken_numbers r); bytes = r ++ drop (length r) out₂ })
page_listed_back r out out₂ = listed_back latin r out out₂ page_one_to_one
