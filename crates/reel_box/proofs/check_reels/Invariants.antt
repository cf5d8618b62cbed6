use Rattle.std.proofs.Common.{◌≡◌, ◌+◌, ◌≤◌, length, drop}
use Rattle.numbers.specs.Walk.{sum}
use Rattle.reel_box.specs.Box.{at_first, reels_checks, traces_from}
use Rattle.reel_box.proofs.check_reels.Given as goal

-- the reels that are left end where the slice does, and nothing was found against those before them
abbrev pub invariant-loop-l : goal.invariant-loop-l
invariant-loop-l l =
    record {
      room : l.at + sum (drop l.l-index l.lengths) ≡ length l.s;
      few : l.traces ≤ l.at;
      fine : reels_checks l.s l.lengths 0 at_first ≡ reels_checks l.s (drop l.l-index l.lengths) l.at l.expected;
      counted : traces_from l.s l.lengths 0 ≡ l.traces + traces_from l.s (drop l.l-index l.lengths) l.at;
    }
