-- The invariant: the records gone through, and whether they changed nothing.
use mathlib.Core.Path.{◌≡◌}
use lib.ListN.{length}
use Rattle.first.specs.Steps.{Made, first_steps, passed}
use Rattle.first.proofs.first.first_pass.Given as goal

abbrev pub invariant-loop-place : goal.invariant-loop-place
invariant-loop-place l = (length l.first ≡ length l.initial.first) × Made (passed (first_steps l.book l.index.places) l.place-index) l.initial.first l.first l.settled
