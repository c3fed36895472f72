-- The invariant: the lookaheads of the records gone through, and no member beyond them.
use Rattle.follow.specs.Walks.{AheadFilled}
use Rattle.follow.proofs.ahead.fill_ahead.Given as goal

abbrev pub invariant-loop-p : goal.invariant-loop-p
invariant-loop-p l = AheadFilled l.book l.index.places l.first l.follow l.p l.ahead
