-- The invariant: the positions of the records gone through.
use mathlib.Core.Path.{◌≡◌}
use lib.ListN.{length}
use Rattle.follow.specs.Walks.{Tails}
use Rattle.follow.proofs.tails.find_tails.Given as goal

abbrev pub invariant-loop-p : goal.invariant-loop-p
invariant-loop-p l = (length l.tails ≡ length l.initial.tails) × Tails l.book l.index.places l.p l.first l.tails
