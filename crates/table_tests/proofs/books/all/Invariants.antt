-- The loop ends: what is left of the input falls.
use Rattle.std.proofs.Common.{length, ◌≤◌, ◌-◌}
use Rattle.table_tests.proofs.books.all.Given as goal

abbrev pub invariant-loop-at : goal.invariant-loop-at
invariant-loop-at g l = l.at ≤ length l.input

abbrev pub decreases-loop-at : goal.decreases-loop-at
decreases-loop-at g l = length l.input - l.at
