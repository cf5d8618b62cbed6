-- The loop's invariant: raised is the magnitude with the zeros so far behind it, within 2 ^ 31.
use Rattle.std.proofs.Common.{◌≡◌, ◌*◌, ◌^◌, ◌≤◌}
use Rattle.scalars.proofs.zeros_behind.Given as goal

abbrev pub invariant-loop-zeros : goal.invariant-loop-zeros
invariant-loop-zeros l = (l.raised ≡ l.magnitude * 10 ^ l.zeros) × (l.raised ≤ 2 ^ 31)
