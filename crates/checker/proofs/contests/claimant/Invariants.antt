-- The invariant: none from the first on that was passed is a claimant.
use Prim.Native.Nat.{◌≤◌}
use Rattle.sets.specs.Calls.{set_at}
use Rattle.answers.proofs.Promise.{Searched}
use Rattle.table.specs.Claims.{ClaimsAt, left_of}
use Rattle.checker.specs.Checking.{From}
use Rattle.checker.proofs.contests.claimant.Given as goal

abbrev pub invariant-loop-p : goal.invariant-loop-p
invariant-loop-p l =
    (l.from ≤ l.p) × Searched (From l.from (ClaimsAt (left_of l.book l.index.places) (set_at l.ahead) l.row l.bit)) l.index.outline.productions l.p
