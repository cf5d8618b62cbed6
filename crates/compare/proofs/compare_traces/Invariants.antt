use Rattle.std.proofs.Common.{◌≡◌, ◌-◌, ◌≤◌, length}
use Rattle.exact.specs.Order.{lex_z}
use Rattle.compare.specs.Parts.{behind_traces, key_from}
use Rattle.compare.proofs.compare_traces.Given as goal

-- the traces that are left decide
abbrev pub invariant-loop : goal.invariant-loop
invariant-loop l =
    (lex_z (key_from l.a.record.now l.n l.s l.a.place) (key_from l.b.record.now l.n l.t l.b.place)
    ≡ lex_z (key_from l.a.record.now l.n (l.s - l.counter) l.i) (key_from l.b.record.now l.n (l.t - l.counter) l.j))
    × (behind_traces l.a.record.now l.n (l.s - l.counter) l.i ≤ length l.a.record.now)
    × (behind_traces l.b.record.now l.n (l.t - l.counter) l.j ≤ length l.b.record.now)
