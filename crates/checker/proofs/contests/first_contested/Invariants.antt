-- The invariant: the claims of the productions gone through are added.
use mathlib.Core.Path.{◌≡◌}
use lib.ListN.{length}
use Rattle.sets.specs.Calls.{set_at}
use Rattle.answers.specs.Lowest.{LowestIn}
use Rattle.table.specs.Claims.{left_of}
use Rattle.checker.specs.Checking.{Twice, claims_before, Tallied}
use Rattle.checker.proofs.contests.first_contested.Given as goal

abbrev pub invariant-loop-p : goal.invariant-loop-p
invariant-loop-p l =
    (length l.claimed ≡ length l.initial.claimed)
    × Tallied (left_of l.book l.index.places) (set_at l.ahead) l.p l.claimed
    × LowestIn (λ i. Twice (claims_before (left_of l.book l.index.places) (set_at l.ahead) l.index.outline.tokens l.p i)) l.cells l.contested
