-- The line of a call that is refused.
use Rattle.std.specs.Prelude.{ℕ, List, ◌++◌, codes, decimal}
use Rattle.numbers.specs.Cause.{cause_no}
use Rattle.numbers.specs.Places.{place_no}
use Rattle.cases.specs.declared.RefusedLine.{RefusedLine}

-- The bytes of the line: the number of the cause, the place beside it and the digest of the output, in decimal, without the line feed.
abbrev pub refused_text : RefusedLine → List ℕ
refused_text line =
    codes "refused " ++ decimal (cause_no line.refusal.cause) ++ codes " " ++ decimal (place_no line.refusal.place) ++ codes " " ++ decimal line.digest
