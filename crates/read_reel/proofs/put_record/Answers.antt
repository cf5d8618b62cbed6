-- `read_reel::put_record` meets its contract. Assumes nothing.
use Rattle.std.proofs.Common.{◌-◌, ◌++◌, map, length, sym, ◌∙◌, arith}
use Rattle.numbers.specs.Walk.{flat}
use Rattle.numbers.specs.BigEndian.{bytes_of}
use Rattle.numbers.proofs.Filling.{start, lend, close}
use Rattle.reel.specs.Layout.{first_trace}
use Rattle.record.specs.Form.{traces_place}
use Rattle.read_samples.specs.Samples.{places}
use Rattle.read_reel.specs.Copied.{tag_bytes, head_copied, record_trace_copied, record_copied}
use Rattle.read_reel.proofs.CopiedLaws.{size_head, size_traces, size_record}
use Rattle.read_reel.proofs.put_record.Goals as goal

pub returns : goal.returns
unfolding record_copied
returns c =
    let a = c.args in
    let o = a.own in
    let s = a.reel.now in
    let g = flat (map (record_trace_copied s o.code o.samples o.interval) (places o.stride o.traces first_trace)) in
    let z = tag_bytes 5 4 ++ bytes_of 4 o.traces in
    let w₀ = start _ a.out.now (c.requires.2 ∙ sym (size_record s o.code o.samples o.interval o.layout o.stride o.traces)) in
    let w₁ = lend (head_copied o.layout s) (g ++ z) traces_place w₀ (omega arith) (size_head o.layout s) c.put_head.ensures in
    let w₂ = lend g z (length a.out.now - 7) w₁ (omega (arith, c.requires.2)) (size_traces s o.code o.samples o.interval o.stride o.traces first_trace ∙ omega (arith, c.requires.2)) c.put_traces-count.ensures.1 in
    (c.put_traces-count.ensures.0, close z _ w₂ w₂.within (omega (arith, w₂.size, w₀.size, c.requires.2)) c.put_count.ensures)
