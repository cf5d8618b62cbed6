use Rattle.std.proofs.Common.{◌+◌, ◌-◌, ◌*◌, length}
use Prim.Native.Nat.{min}
use Rattle.record.specs.Record.{field_samples}
use Rattle.read_reel.specs.Copied.{samples_copied}
use Rattle.numbers.proofs.Filling.{Filling}
use Rattle.read_reel.proofs.put_samples.Given as goal

abbrev pub invariant-loop-f : goal.invariant-loop-f
invariant-loop-f l =
    let o = l.own in
    Filling (samples_copied l.reel o.code o.samples l.start) l.out (min (l.f * 36003) (length l.out)) (samples_copied l.reel o.code (o.samples - l.f * field_samples) (l.start + l.f * field_samples * o.width))
