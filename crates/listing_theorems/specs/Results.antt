-- What the calls on listings give where they are taken, byte by byte: the numbers that they return, and what stands in their outputs.
use Rattle.std.specs.Prelude.{◌≡◌, List, ℕ, ◌+◌, ◌*◌, ◌≤◌, ◌<◌, eqb, length, get_or, take, drop}
use Rattle.numbers.specs.Walk.{pick}
use Rattle.numbers.specs.Terms.{Bytes}
use Rattle.numbers.specs.Cause.{Fine}
use Rattle.record.specs.Form.{held_samples, held_count, form_causes}
use Rattle.record.specs.Held.{held_by}
use Rattle.code_page.specs.Page.{char_of, code_in}
use Rattle.listing_theorems.specs.ListingTable.{line_place, Closed}

-- The place in a record of byte i of card j, both counted from 0, behind tag 01 and its length.
abbrev pub card_place : ℕ → ℕ → ℕ
card_place j i = 3 + (j * 80 + i)

-- The first bytes of an output are the listing of the record r by the table t: line j has the characters of card j, and then a line feed.
-- The rest of the output, which was `out`, keeps its content.
pub record CardsListed (t r out bytes : List ℕ) : Type 0 where
  pub size : length bytes ≡ length out
  pub character : (j i : ℕ) → j < 40 → i < 80 → get_or bytes (line_place j i) 0 ≡ char_of t (get_or r (card_place j i) 0)
  pub closed : (j : ℕ) → j < 40 → Closed bytes j
  pub rest : drop 3240 bytes ≡ drop 3240 out

-- The character of a listing as it comes back: itself, but for the character of the code 00, which becomes a blank, the code 40.
abbrev pub comes_back : List ℕ → ℕ → ℕ
comes_back t c = pick (eqb c (char_of t 0)) (char_of t 0x40) c

-- s is the record r with the text of a listing by the table t.
pub record WithListing (t r listing s : List ℕ) : Type 0 where
  -- It is a valid record, to which neither 12 nor 13 applies (`no_form_cause` of `demands`), of the same length, T and N.
  pub bytes : Bytes s
  pub valid : form_causes s ≡ Fine
  pub size : length s ≡ length r
  pub samples : held_samples s ≡ held_samples r
  pub count : held_count s (held_samples s) ≡ held_count r (held_samples r)
  -- Each card byte is the code of the listing's character there, 40 for the code 00.
  pub code : (j i : ℕ) → j < 40 → i < 80 → ¬ (code_in t (get_or listing (line_place j i) 0) ≡ 0) → get_or s (card_place j i) 0 ≡ code_in t (get_or listing (line_place j i) 0)
  pub blank : (j i : ℕ) → j < 40 → i < 80 → code_in t (get_or listing (line_place j i) 0) ≡ 0 → get_or s (card_place j i) 0 ≡ 0x40
  -- So its text is the listing's, character by character, but for the character of the code 00, which becomes a blank.
  pub character : (j i : ℕ) → j < 40 → i < 80 → char_of t (get_or s (card_place j i) 0) ≡ comes_back t (get_or listing (line_place j i) 0)
  -- All other bytes are as they were: tag 01 and its length before the cards, and all from the place 3203 on, behind them.
  pub front : (p : ℕ) → p < 3 → get_or s p 0 ≡ get_or r p 0
  pub behind : (p : ℕ) → 3203 ≤ p → get_or s p 0 ≡ get_or r p 0
  -- So what it holds but for the cards is what the record held.
  pub binary : (held_by s).binary ≡ (held_by r).binary
  pub traces : (held_by s).traces ≡ (held_by r).traces

-- What taking a listing back gives, where it returns k, n and the length l.
pub record RecordTaken (t r listing out bytes : List ℕ) (k n l : ℕ) : Type 0 where
  -- T, N and the length are those of the record.
  pub traces : k ≡ held_count r (held_samples r)
  pub samples : n ≡ held_samples r
  pub size : l ≡ length r
  -- The output's first bytes are the record with the listing's text.
  pub content : WithListing t r listing (take l bytes)
  -- The output, which was `out`, keeps its length, and the rest of it its content.
  pub whole : length bytes ≡ length out
  pub rest : drop l bytes ≡ drop l out
