-- `read_reel::read_checked` meets its contract. Assumes nothing.
use Rattle.std.proofs.Common.{◌≡◌, ℕ, ◌+◌, ◌*◌, ◌≤◌, sym, ap, ◌∙◌, arith}
use lib.Seq.{length-take-le}
use Rattle.numbers.proofs.ByteLaws.{all_bytes}
use Rattle.reel.proofs.JudgedLaws.{Own, own}
use Rattle.record.specs.Record.{record_length}
use Rattle.read_reel.proofs.ReadLaws.{Fit, fit, short_end, taken_end}
use Rattle.read_reel.proofs.read_checked.Goals.{After-trace_length, Start}
use Rattle.read_reel.proofs.read_checked.Goals as goal

owns : (c : Start) → let o = c.args.own in Own o.layout c.args.reel.now o.code o.samples o.interval o.width o.stride o.traces
owns c = own c.args.own.layout c.args.reel.now (sym c.requires)

fits : (c : Start) → let o = c.args.own in Fit c.args.reel.now o.code o.samples o.interval o.width o.stride o.traces
fits c =
    let o = c.args.own in
    fit o.layout c.args.reel.now o.code o.samples o.interval o.width o.stride o.traces (owns c)

-- the record's length, by the bytes of a trace
lengths : (c : After-trace_length) → 3273 + c.args.own.traces * c.trace_length.result ≡ record_length c.args.own.traces c.args.own.samples
lengths c = ap (λ (x : ℕ). 3273 + c.args.own.traces * x) c.trace_length.ensures

most : (c : After-trace_length) → c.args.own.traces * c.trace_length.result ≤ 100000 * 196803
most c = omega (arith, lengths c, (fits (goal.at.After-trace_length c).Start).size)

pub overflow_mul-length : goal.overflow_mul-length
overflow_mul-length c = omega (arith, most (goal.at.overflow_mul-length c).After-trace_length)

pub overflow_add-length : goal.overflow_add-length
overflow_add-length c = omega (arith, most (goal.at.overflow_add-length c).After-trace_length)

pub returns-then-out-length : goal.returns-then-out-length
returns-then-out-length c =
    let a = c.args in
    let o = a.own in
    short_end o.layout a.reel.now a.out.now o.code o.samples o.interval o.width o.stride o.traces (owns (goal.at.returns-then-out-length c).Start) (3273 + o.traces * c.trace_length.result)
    (lengths (goal.at.returns-then-out-length c).After-trace_length) c.if-out-length.true

pub put_record-count-requires : goal.put_record-count-requires
put_record-count-requires c =
    let f = fits (goal.at.put_record-count-requires c).Start in
    (f.few, f.room, length-take-le _ c.args.out.now c.if-out-length.false ∙ lengths (goal.at.put_record-count-requires c).After-trace_length)

pub returns : goal.returns
returns c =
    let a = c.args in
    let o = a.own in
    taken_end o.layout a.reel.now a.out.now o.code o.samples o.interval o.width o.stride o.traces (owns (goal.at.returns c).Start) (all_bytes a.reel.now (λ i. omega (arith, c.type_inv.reel i)))
    (3273 + o.traces * c.trace_length.result) (lengths (goal.at.returns c).After-trace_length) _ _ c.put_record-count.ensures.1 c.put_record-count.ensures.0 c.if-out-length.false
