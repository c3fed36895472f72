-- The invariant: the records gone through, and whether they changed nothing.
use mathlib.Core.Path.{◌≡◌}
use lib.ListN.{length}
use Rattle.first.specs.Steps.{Made, passed}
use Rattle.follow.specs.Walks.{follow_steps}
use Rattle.follow.proofs.follow.follow_pass.Given as goal

abbrev pub invariant-loop-p : goal.invariant-loop-p
invariant-loop-p l =
    (length l.follow ≡ length l.initial.follow) × Made (passed (follow_steps l.book l.index.places l.first l.from) l.p) l.initial.follow l.follow l.settled
