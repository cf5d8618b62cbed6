use Rattle.std.proofs.Common.{◌≡◌, drop, ◌^◌, ◌<◌}
use Rattle.digests.specs.Digest.{digest_from, digest_of}
use Rattle.digests.proofs.digest.Given as goal

abbrev pub invariant-loop-b : goal.invariant-loop-b
invariant-loop-b l = (l.d < 2 ^ 32) × (digest_from l.d (drop l.b-index l.bytes) ≡ digest_of l.bytes)
