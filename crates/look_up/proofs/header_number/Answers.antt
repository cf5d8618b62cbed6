-- `look_up::header_number` meets its contract. Assumes nothing.
use Rattle.std.proofs.Common.{arith, ◌+◌, ◌-◌, ◌*◌, ◌≤◌, length, ℕ}
use native.Mathlib.Nat.{mul-le-mul}
use Rattle.reel.specs.Layout.{traces_of, stride_of}
use Rattle.reel.proofs.CheckLaws.{reel_fine, inside}
use Rattle.look_up.proofs.header_number.Goals.{In-Some}
use Rattle.look_up.proofs.header_number.Goals as goal

pub trace_number-requires : goal.trace_number-requires
trace_number-requires c =
    let n = (reel_fine c.args.reel.now c.requires.0.fine).numbers in
    (omega (arith, c.requires.0.samples, n.n_high), omega (arith, c.requires.0.interval, n.i_high))

-- behind no more traces than the reel has, a place is its end at most
within : (c : In-Some) (m : ℕ) → m ≤ traces_of c.args.reel.now → 3600 + m * c.args.own.stride ≤ length c.args.reel.now
within c m l =
    let a = c.args in
    let s = a.reel.now in
    let w : a.own.stride ≤ stride_of s = omega (arith, c.requires.0.stride) in
    omega (arith, mul-le-mul l w, inside s (reel_fine s c.requires.0.fine))

-- so are the places where this trace begins and where it ends
fits : (c : In-Some) → let a = c.args in let m = a.trace - 1 in
    (3600 + c.in-Some.before * a.own.stride ≤ length a.reel.now) × (3600 + m * a.own.stride ≤ length a.reel.now) × (3600 + a.trace * a.own.stride ≤ length a.reel.now)
fits c =
    let t = c.args.trace in
    (within c c.in-Some.before (omega (arith, c.requires.1, c.in-Some.ensures)), within c (t - 1) (omega (arith, c.requires.1)), within c t c.requires.1)

pub overflow_mul-start : goal.overflow_mul-start
overflow_mul-start c = record { fits = omega (arith, fits (goal.at.overflow_mul-start c).In-Some, c.well_formed.0) }

pub overflow_add-start : goal.overflow_add-start
overflow_add-start c = record { fits = omega (arith, fits (goal.at.overflow_add-start c).In-Some, c.well_formed.0) }
