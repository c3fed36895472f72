-- Inside, or at the end.
use native.Mathlib.Omega.{arith}
use Rattle.sheet.specs.Judging.{past}
use Rattle.sheet.proofs.judging.past.Goals as goal

pub returns-then-at-sheet : goal.returns-then-at-sheet
unfolding past
returns-then-at-sheet c = omega arith

pub returns-else-at-sheet : goal.returns-else-at-sheet
unfolding past
returns-else-at-sheet c = omega arith
