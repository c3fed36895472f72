-- Refused, or run on the grammar that the book serves.
use Rattle.slr_run.specs.Running.{SlrRunOutcome}
use Rattle.slr_run.proofs.Served.{run_formed, run_served}
use Rattle.slr_run.proofs.running.run.Goals as goal

pub run_on-requires : goal.run_on-requires
run_on-requires c = run_formed c.in-Ok.ensures

pub returns-in-Ok : goal.returns-in-Ok
returns-in-Ok c = run_served c.in-Ok.ensures c.run_on.ensures

pub returns-in-Err : goal.returns-in-Err
returns-in-Err c = SlrRunOutcome.refused c.in-Err.ensures
