-- Where each kind of reply stands.
use mathlib.Core.Path.{sym, ap}
use Rattle.slr_run.specs.Stages.{stage_of}
use Rattle.slr_run.proofs.answering.stage_of.Goals as goal

pub returns-in-Ok : goal.returns-in-Ok
unfolding stage_of
returns-in-Ok c = sym (ap stage_of c.in-Ok.is)

pub returns-in-Err : goal.returns-in-Err
unfolding stage_of
returns-in-Err c = sym (ap stage_of c.in-Err.is)
