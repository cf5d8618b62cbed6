-- Meanings that reels and records have: every number fits its field, some power serves each group, N and the interval are within their
-- limits and stand in each trace, each trace has N values, and each value has a canonical pair. Assumes nothing.
use mathlib.Core.Path.{◌≡◌}
use mathlib.Core.Bool.{true}
use Prim.Native.Nat.{ℕ, ◌≤◌, ◌<◌}
use lib.ListN.{length, get_or, take, drop}
use lib.IntN.{pos}
use Rattle.value.specs.Pair.{pair_of, is_canonical}
use Rattle.reel.specs.Layout.{card_bytes}
use Rattle.reel.specs.Causes.{most_samples, most_traces, most_interval}
use Rattle.reel.specs.Meaning.{Trace, Meaning}
use Rattle.record.proofs.HeaderLaws.{binary_front, binary_back}
use Rattle.headers.proofs.Ranges.{Fit}
use Rattle.headers.proofs.HeaderBytes.{HeaderFits}
use Rattle.numbers.specs.Terms.{All}

-- A trace of n samples with interval i: fields 115 and 117 are the 26th and the 27th of the 58 bare ones.
pub record ProperTrace (n i : ℕ) (t : Trace) : Type 0 where
  pub header : HeaderFits t.header
  pub n_is : get_or t.header.numbers 25 (pos 0) ≡ pos n
  pub i_is : get_or t.header.numbers 26 (pos 0) ≡ pos i
  pub size : length t.values ≡ n
  pub canonical : All (λ v. is_canonical (pair_of v) ≡ true) t.values

-- A meaning with n samples a trace and interval i: fields 3217 and 3221 are the sixth and the eighth of the 26.
pub record Proper (n i : ℕ) (m : Meaning) : Type 0 where
  pub n_low : 1 ≤ n
  pub n_high : n ≤ most_samples
  pub i_low : 1 ≤ i
  pub i_high : i ≤ most_interval
  pub size : length m.cards ≡ card_bytes
  pub cards : All (λ b. (0 < b) × (b < 256)) m.cards
  pub fit_front : Fit binary_front (take 9 m.binary)
  pub fit_back : Fit binary_back (drop 9 m.binary)
  pub n_is : get_or m.binary 7 (pos 0) ≡ pos n
  pub i_is : get_or m.binary 5 (pos 0) ≡ pos i
  pub few : length m.traces ≤ most_traces
  pub traces : All (ProperTrace n i) m.traces
