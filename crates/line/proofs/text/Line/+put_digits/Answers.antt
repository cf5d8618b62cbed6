-- `line::text::Line::put_digits` meets its contract: a digit below ten by `decimal_one`, any other number by `decimal_more`. Assumes nothing.
use Rattle.std.proofs.Common.{ℕ, ◌+◌, ◌/◌, ◌≤◌, length, append_assoc, arith}
use Rattle.line.specs.Decimal.{decimal_of}
use Rattle.line.proofs.DecimalLaws.{decimal_one, decimal_more, decimal_short}
use Rattle.line.proofs.LineLaws.{longer}
use Rattle.line.proofs.text.Line.+put_digits.Goals as goal

pub put-requires : goal.put-requires
put-requires t c =
    let room : (k : ℕ) → k ≤ c.args.n / 10 + 9 → length (decimal_of k) ≤ 19 = λ k h. decimal_short k (omega (arith, c.ranges.n.fits, h)) in
    grind (arith, longer, room)

pub returns : goal.returns
returns t c = grind (arith, c.put.ensures, append_assoc, decimal_more, decimal_one)
