-- The measure is the number: each call's is a tenth of it.
use Rattle.line.proofs.text.Line.+put_digits.Given as goal

abbrev pub decreases-put_digits : goal.decreases-put_digits
decreases-put_digits l = l.n
