use Rattle.std.proofs.Common.{◌≡◌, ◌*◌, ◌≤◌, ◌++◌, take, drop}
use Rattle.value.specs.Writing.{Rounded, rounded}
use Rattle.value.specs.declared.Rounded as found
use Rattle.value.specs.declared.Pair.{Pair}
use Rattle.write_samples.specs.Pairs.{rounded_content, rounded_count}
use Rattle.write_samples.proofs.put_nearest.Given as goal

-- the pairs so far have their words in front of what the output was, and are counted
abbrev pub invariant-loop-i : goal.invariant-loop-i
invariant-loop-i g l = record {
  few : l.changed ≤ l.i;
  so_far : (nearest : Pair → Rounded) → ((p : Pair) (r : found.Rounded) → goal.F-post g l.nearest_to p r → rounded r ≡ nearest p)
      → (l.changed ≡ rounded_count nearest (take l.i l.pairs))
      × (l.out ≡ rounded_content g.N.Number.SIZE nearest (take l.i l.pairs) ++ drop (l.i * g.N.Number.SIZE) l.fn.out);
}
