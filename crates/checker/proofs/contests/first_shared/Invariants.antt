-- The invariant: no column passed has its bit in both sets.
use Prim.Native.Nat.{◌+◌}
use Rattle.sets.specs.Sets.{column_place}
use Rattle.sets.specs.Calls.{number}
use Rattle.answers.proofs.Promise.{Searched}
use Rattle.checker.specs.Checking.{Both}
use Rattle.checker.proofs.contests.first_shared.Given as goal

abbrev pub invariant-loop-column : goal.invariant-loop-column
invariant-loop-column l =
    Searched (λ c. Both (number l.x) (number l.y) (column_place c l.tokens)) (l.tokens + 1) l.column
