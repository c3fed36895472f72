-- The invariant: no cell passed differs.
use lib.ListN.{length}
use Rattle.answers.proofs.Promise.{Searched}
use Rattle.checker.specs.Checking.{DiffersAt}
use Rattle.checker.proofs.differences.first_different.Given as goal

abbrev pub invariant-loop-i : goal.invariant-loop-i
invariant-loop-i l = Searched (DiffersAt l.claimed l.ahead l.tokens l.table) (length l.table) l.i
