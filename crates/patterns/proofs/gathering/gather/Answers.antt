-- `patterns::gathering::gather` meets its contract.
use native.Mathlib.Omega.{arith}
use Rattle.patterns.specs.Calls.{many_patterns, bad_pattern}
use Rattle.patterns.proofs.Gathered.{too_many, gathered}
use Rattle.patterns.proofs.gathering.gather.Goals as goal

pub returns-then-lengths-gt-MOST_PATTERNS : goal.returns-then-lengths-gt-MOST_PATTERNS
returns-then-lengths-gt-MOST_PATTERNS c = rw c.refusal.ensures (many_patterns (omega arith))

pub returns-in-Err : goal.returns-in-Err
returns-in-Err c = rw c.refusal-in-Err.ensures (bad_pattern (omega arith) c.in-Err.ensures)

pub returns-then-count-gt-MOST_POSITIONS : goal.returns-then-count-gt-MOST_POSITIONS
returns-then-count-gt-MOST_POSITIONS c =
    rw c.refusal-then-count-gt-MOST_POSITIONS.ensures
    (too_many (omega arith) c.in-Ok.ensures c.if-count-gt-MOST_POSITIONS.true)

pub returns-else-count-gt-MOST_POSITIONS : goal.returns-else-count-gt-MOST_POSITIONS
returns-else-count-gt-MOST_POSITIONS c =
    gathered (omega arith) c.in-Ok.ensures c.if-count-gt-MOST_POSITIONS.false
