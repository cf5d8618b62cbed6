-- `listing::put_part` meets its contract. Assumes nothing.
use Rattle.listing.proofs.ListingLaws.{feeds}
use Rattle.listing.specs.Listing.{card_length, line_feed}
use Rattle.std.proofs.Common.{◌≡◌, ℕ, List, ◌-◌, ◌++◌, length, replicate, ap, ap₂, ◌∙◌, arith}
use Rattle.listing.proofs.put_part.Goals as goal

pub returns : goal.returns
returns c =
    let size = length c.args.out.now in
    let n : length c.split_at_mut-entries.result.1.now ≡ size - card_length = omega (arith, c.split_at_mut-entries.ensures.back_len) in
    let feed = c.fill.ensures.after (λ y e. e) ∙ ap (λ (k : ℕ). replicate k line_feed) n ∙ feeds size c.requires.1 in
    ap₂ (λ (x y : List ℕ). x ++ y) c.put_entries.ensures feed
