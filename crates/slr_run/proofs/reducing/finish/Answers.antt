-- One case of `finished` for each ending.
use borrow.Author.Rules.{rules}
use Rattle.slr_run.specs.Reducing.{shifted_to, finished, finished_stack}
use Rattle.slr_run.proofs.reducing.finish.Goals as goal

pub bounds-stack-below : goal.bounds-stack-below
bounds-stack-below c = c.requires.0 _ c.in-Shift.is

pub overflow_add-height : goal.overflow_add-height
overflow_add-height c = let inside = c.requires.0 _ c.in-Shift.is in search rules

pub returns-in-Shift : goal.returns-in-Shift
unfolding finished finished_stack shifted_to
returns-in-Shift c = (rw (c.in-Shift.is, c.max.ensures), rw c.in-Shift.is)

pub returns-in-Accept : goal.returns-in-Accept
unfolding finished finished_stack
returns-in-Accept c = (rw c.in-Accept.is, rw c.in-Accept.is)

pub returns-in-Stop : goal.returns-in-Stop
unfolding finished finished_stack
returns-in-Stop c = (rw c.in-Stop.is, rw c.in-Stop.is)
