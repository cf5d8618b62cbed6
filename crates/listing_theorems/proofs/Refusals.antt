-- Refusals of both calls on listings are exact: the causes looked for are the rows of `specs/ListingTable`. Assumes nothing.
use mathlib.Core.Path.{◌≡◌, subst}
use mathlib.Core.List.{List}
use mathlib.Core.Bool.{not}
use Prim.Native.Nat.{ℕ, ◌+◌, ◌*◌, ◌≤◌, ◌<◌}
use native.Mathlib.Omega.{arith}
use lib.Dec.{eqb, ltb}
use lib.ListN.{length, get_or}
use Rattle.numbers.specs.Cause.{refuse_if}
use Rattle.numbers.specs.Iff.{Iff}
use Rattle.numbers.specs.Terms.{at_place}
use Rattle.numbers.specs.Cause.{Fine, Refused}
use Rattle.numbers.proofs.RowLaws.{Tests, refused_where, row_where, then_row, then_first, then_second, fine_then, refused_then, holds_then, row_then, test_same, test_room, not_enough, too_short, walk_fine, walk_holds, walk_refused, walk_row}
use Rattle.record.specs.Form.{form_causes}
use Rattle.demands.proofs.FormRefusals.{exact_form, no_form_cause}
use Rattle.listing.specs.Listing.{card_count, card_length, line_length, listing_length, line_feed, line_cause, listing_causes}
use Rattle.listing.specs.Calls.{list_causes, take_causes}
use Rattle.listing_theorems.specs.ListingTable.{line_place, Closed, ListingRight, ListRow, TakeRow}

-- ## The form of a listing

module _ (listing : List ℕ) where
  -- The tests of 17.
  size_test : Tests (length listing ≡ 3240) 17 (length listing) (refuse_if (not (eqb (length listing) listing_length)) 17 (length listing))
  size_test = test_same (length listing) listing_length 17 (length listing)

  line_tests : (j : ℕ) → j < 40 → Tests (Closed listing j) 17 (line_place j 80) (line_cause listing (card_length + j * line_length))
  line_tests j l =
      let e : line_place j 80 ≡ card_length + j * line_length = omega arith in
      subst (λ (p : ℕ). Tests (Closed listing j) 17 (line_place j 80) (refuse_if (not (eqb (get_or listing p 0) line_feed)) 17 p)) e
      (test_same (get_or listing (line_place j 80) 0) line_feed 17 (line_place j 80))

  -- 17 applies to no listing of the right form, and to every other.
  pub right_fine : ListingRight listing → listing_causes listing ≡ Fine
  unfolding listing_causes
  right_fine h =
      fine_then size_test h.size
      (walk_fine (Closed listing) 17 (line_cause listing) line_length card_count card_length (λ j. line_place j 80) line_tests h.closed)

  pub fine_right : listing_causes listing ≡ Fine → ListingRight listing
  unfolding listing_causes
  fine_right e =
      let h = holds_then size_test _ e in
      record {
        size = h.0;
        closed = walk_holds (Closed listing) 17 (line_cause listing) line_length card_count card_length (λ j. line_place j 80) line_tests h.1;
      }

-- ## Listing

-- The causes of listing are these rows.
pub list_exact : (r : List ℕ) (room number place : ℕ) → Iff (list_causes r room ≡ Refused number (at_place place)) (ListRow r room number place)
list_exact r room number place = (there, back)
  where
    room_test : Tests (listing_length ≤ room) 10 listing_length (refuse_if (ltb room listing_length) 10 listing_length)
    room_test = test_room room listing_length 10 listing_length

    there : list_causes r room ≡ Refused number (at_place place) → ListRow r room number place
    there =
        then_row (ListRow r room) (form_causes r) _ (λ e. ListRow.by_form ((exact_form r number place).0 e))
        (λ e. row_where room_test (ListRow r room) (λ m. ListRow.short_output ((no_form_cause r).0 e) (not_enough room listing_length m)))

    back : {number place : ℕ} → ListRow r room number place → list_causes r room ≡ Refused number (at_place place)
    back {number} {place} (ListRow.by_form f) = then_first (form_causes r) _ ((exact_form r number place).1 f)
    back (ListRow.short_output v l) = then_second _ _ ((no_form_cause r).1 v) (refused_where room_test (too_short room listing_length l))

-- ## Taking back

-- The causes of taking a listing back are these rows.
pub take_exact : (r listing : List ℕ) (room number place : ℕ) → Iff (take_causes r listing room ≡ Refused number (at_place place)) (TakeRow r listing room number place)
unfolding listing_causes
take_exact r listing room number place = (there, back)
  where
    room_test : Tests (length r ≤ room) 10 (length r) (refuse_if (ltb room (length r)) 10 (length r))
    room_test = test_room room (length r) 10 (length r)

    there : take_causes r listing room ≡ Refused number (at_place place) → TakeRow r listing room number place
    there =
        let row = TakeRow r listing room in
        then_row row (form_causes r) _ (λ e. TakeRow.by_form ((exact_form r number place).0 e))
        (λ e. let v = (no_form_cause r).0 e in
        then_row row (listing_causes listing) _
        (row_then (size_test listing) row (TakeRow.other_length v)
        (λ n. walk_row (Closed listing) 17 (line_cause listing) line_length card_count card_length (λ j. line_place j 80) (line_tests listing) row
        (λ j l b h. TakeRow.open_line j v n l b h)))
        (λ q. row_where room_test row (λ m. TakeRow.short_output v (fine_right listing q) (not_enough room (length r) m))))

    back : {number place : ℕ} → TakeRow r listing room number place → take_causes r listing room ≡ Refused number (at_place place)
    back {number} {place} (TakeRow.by_form f) = then_first (form_causes r) _ ((exact_form r number place).1 f)
    back (TakeRow.other_length v n) = then_second _ _ ((no_form_cause r).1 v) (then_first (listing_causes listing) _ (refused_then (size_test listing) _ n))
    back (TakeRow.open_line j v n l b h) =
        then_second _ _ ((no_form_cause r).1 v)
        (then_first (listing_causes listing) _
        (fine_then (size_test listing) n
        (walk_refused (Closed listing) 17 (line_cause listing) line_length card_count card_length (λ j. line_place j 80) (line_tests listing) j l b h)))
    back (TakeRow.short_output v h l) =
        then_second _ _ ((no_form_cause r).1 v) (then_second _ _ (right_fine listing h) (refused_where room_test (too_short room (length r) l)))
