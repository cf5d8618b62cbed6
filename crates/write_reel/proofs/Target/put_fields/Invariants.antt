use Rattle.formats.specs.Codes.{code_no}
use Rattle.fields.specs.Fields.{fields_length}
use Rattle.write_reel.specs.Copied.{fields_words, fields_changed_at}
use Rattle.numbers.proofs.Filling.{Filling}
use lib.ListN.{length}
use Prim.Native.Nat.{◌+◌, ◌-◌, ◌*◌, ◌≤◌, min}
use mathlib.Core.Path.{◌≡◌}
use Rattle.write_reel.proofs.Target.put_fields.Given as goal

abbrev pub invariant-loop-done : goal.invariant-loop-done
invariant-loop-done g l =
    let o = l.self in
    let code = code_no o.code in
    let near = g.W.Way.near in
    let left = o.samples - l.done in
    record {
      room : l.at + fields_length 6 l.c left ≤ length l.«record»;
      filling : Filling (fields_words near l.«record» code l.c o.samples l.start) l.out (min l.done o.samples * o.width) (fields_words near l.«record» code l.c left l.at);
      few : l.changed + left ≤ o.samples;
      counted : l.changed + fields_changed_at near l.«record» code l.c left l.at ≡ fields_changed_at near l.«record» code l.c o.samples l.start;
    }
