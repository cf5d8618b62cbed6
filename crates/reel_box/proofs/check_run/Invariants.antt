use Rattle.std.proofs.Common.{◌≡◌, ◌+◌, ◌-◌, ◌*◌}
use Rattle.reel_box.specs.Box.{run_rules}
use Rattle.reel_box.proofs.check_run.Given as goal

-- no trace so far breaks a rule
abbrev pub invariant-loop-i : goal.invariant-loop-i
invariant-loop-i l =
    let o = l.own in
    run_rules l.s o.stride o.traces l.start 1 l.initial.expected ≡ run_rules l.s o.stride (o.traces - l.i) (l.start + l.i * o.stride) (l.i + 1) l.expected
