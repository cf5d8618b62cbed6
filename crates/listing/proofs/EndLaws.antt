-- How listing a record's cards ends where it is taken, and taking a listing back. Assumes nothing.
use mathlib.Core.Path.{◌≡◌, sym, ap, ap₂, ◌∙◌}
use mathlib.Core.List.{List, [], ◌∷◌, ◌++◌}
use mathlib.Core.Bool.{not}
use Prim.Native.Nat.{ℕ, ◌≤◌}
use native.Mathlib.Omega.{arith}
use borrow.Author.Tests.{le-ltb, eqb-true, not-false}
use lib.Dec.{eqb}
use lib.ListN.{length, drop}
use Rattle.numbers.specs.Walk.{bytes_at}
use Rattle.numbers.specs.Cause.{refuse_if}
use Rattle.numbers.specs.Outcome.{taken, Outcome}
use Rattle.numbers.specs.Cause as check
use Rattle.numbers.proofs.CauseLaws.{passed, then_fine}
use Rattle.reel.specs.Layout.{card_bytes}
use Rattle.record.specs.Form.{field_head, binary_place, held_samples, held_count, form_causes}
use Rattle.record.specs.Held.{held_by_in}
use Rattle.record.specs.Answer.{outcome}
use Rattle.record.specs.Kind.{tag04}
use Rattle.record.proofs.FormLaws.{held_length, place_front}
use Rattle.record.proofs.JudgedLaws.{Own}
use Rattle.listing.specs.Listing.{listing_length, listing_of, with_text, listing_causes}
use Rattle.listing.specs.Calls.{listed, list_outcome, take_end, take_causes}
use Rattle.listing.specs.Parts.{text_by, take_by}
use Rattle.std.specs.Prelude.{Ok}

-- A valid record has all its card bytes.
pub long : (r : List ℕ) → form_causes r ≡ check.Fine → binary_place ≤ length r
long r f = omega (arith, held_length tag04 r f, place_front tag04 r (held_samples r) (held_count r (held_samples r)))

-- A listing to which 17 does not apply has its length.
pub listing_size : (listing : List ℕ) → listing_causes listing ≡ check.Fine → length listing ≡ listing_length
unfolding listing_causes
listing_size listing f =
    let same = eqb (length listing) listing_length in
    eqb-true (length listing) listing_length (not-false same (passed (not same) 17 (length listing) (then_fine (refuse_if (not same) 17 (length listing)) _ f).0))

-- ## Listing

module _ (t r out : List ℕ) where
  pub list_taken : form_causes r ≡ check.Fine → listing_length ≤ length out → (ys : List ℕ) → ys ≡ listing_of t (bytes_at r field_head card_bytes)
      → listed (Ok listing_length) (ys ++ drop listing_length out) ≡ list_outcome t r out
  unfolding held_by_in
  list_taken f l ys e = rw (f, le-ltb (length out) listing_length l, e)

-- ## Taking back

module _ (b r listing out : List ℕ) {n t : ℕ} (o : Own r (form_causes r) n t) where
  pub take_taken : listing_causes listing ≡ check.Fine → length r ≤ length out → (ys : List ℕ) → ys ≡ with_text r (text_by b listing)
      → outcome (Ok (record { traces = t; samples = n; length = length r })) (ys ++ drop (length r) out) ≡ take_by b r listing out
  take_taken f l ys e =
      let fine : take_causes r listing (length out) ≡ check.Fine = rw (o.fine, f, le-ltb (length out) (length r) l) in
      sym (ap (take_end r (text_by b listing) out) fine ∙ ap₂ (λ (x y : ℕ). made x y (with_text r (text_by b listing))) o.t_is o.n_is ∙ ap (made t n) (sym e))
    where
      made : ℕ → ℕ → List ℕ → Outcome
      made x y l = record { said = taken (x ∷ y ∷ length r ∷ []); bytes = l ++ drop (length r) out }
