-- The measure is the number: a call of itself is asked for a tenth of it.
use Rattle.judge.proofs.line.+put_number.Given as goal

abbrev pub decreases-put_number : goal.decreases-put_number
decreases-put_number l = l.n
