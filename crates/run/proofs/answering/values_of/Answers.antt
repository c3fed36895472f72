-- The values of each kind of reply.
use Rattle.std.specs.Prelude.{Err}
use mathlib.Core.Path.{refl, ap, ◌∙◌}
use Rattle.run.proofs.Expected.{values_done, values_stop, values_refused}
use Rattle.run.proofs.answering.values_of.Goals as goal

pub steps_of-steps-requires : goal.steps_of-steps-requires
steps_of-steps-requires c = rw c.progress_of-at.ensures c.requires

pub returns-in-Ok : goal.returns-in-Ok
returns-in-Ok c = values_done _ c.progress_of-at.ensures c.steps_of-steps.ensures c.in-Ok.is c.done.ensures

pub returns-in-Stopped : goal.returns-in-Stopped
returns-in-Stopped c =
    values_stop _ c.progress_of-at.ensures c.steps_of-steps.ensures (c.in-Err.is ∙ ap Err c.in-Stopped.is) c.expects-expected.ensures c.refusal_of.ensures refl c.detail_of.ensures c.stop.ensures

pub returns-in-Refused : goal.returns-in-Refused
returns-in-Refused c = values_refused _ (c.in-Err.is ∙ ap Err c.in-Refused.is)
