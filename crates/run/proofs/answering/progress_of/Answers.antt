-- The counts of what is taken and what stops; none of a refusal.
use Rattle.run.proofs.answering.progress_of.Goals as goal

pub returns-in-Ok : goal.returns-in-Ok
returns-in-Ok c = rw c.in-Ok.is

pub returns-in-Stopped : goal.returns-in-Stopped
returns-in-Stopped c = rw (c.in-Err.is, c.in-Stopped.is)

pub returns-in-Refused : goal.returns-in-Refused
returns-in-Refused c = rw (c.in-Err.is, c.in-Refused.is)
