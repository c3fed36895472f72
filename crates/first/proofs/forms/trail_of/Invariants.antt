-- The invariant: all vanishes so far, what has begun, joined with the trail of what is left, is the trail of the whole, and so are
-- the numbers added.
use Rattle.sets.specs.Calls.{number}
use Rattle.first.proofs.Trail.{Begun}
use Rattle.first.proofs.forms.trail_of.Given as goal

abbrev pub invariant-loop-j : goal.invariant-loop-j
invariant-loop-j l = Begun l.first l.form (number l.behind) (number l.begun) l.j
