-- The invariant: the right side is walked from the right to a position.
use Rattle.sets.specs.Calls.{number}
use Rattle.follow.proofs.Following.{Walking}
use Rattle.follow.proofs.follow.follow_step.Given as goal

abbrev pub invariant-loop-j : goal.invariant-loop-j
invariant-loop-j l = Walking l.book l.first l.place l.from (number l.initial.passed.ahead) l.initial.follow l.passed l.follow l.j
