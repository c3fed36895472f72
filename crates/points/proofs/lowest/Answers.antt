-- `points::lowest` meets its contract: the lowest member stands above as many zeros.
use native.Mathlib.Omega.{arith}
use Rattle.points.proofs.Zeros.{lowest_trailing, lowest_zero}
use Rattle.points.proofs.lowest.Goals as goal

pub returns-then-word-eq0 : goal.returns-then-word-eq0
returns-then-word-eq0 c = rw c.if-word-eq0.true lowest_zero

pub returns-else-word-eq0 : goal.returns-else-word-eq0
returns-else-word-eq0 c = lowest_trailing c.args.word (omega arith) c.ranges.word.fits
