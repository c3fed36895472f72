-- The refusal of the reading, or the run on the grammar that its index tells of.
use Rattle.run.specs.Judged.{refused, ran_on}
use Rattle.run.proofs.running.run_judged.Goals as goal

pub returns-in-Ok : goal.returns-in-Ok
returns-in-Ok c = ran_on c.in-Ok.is c.run_on.ensures

pub returns-in-Err : goal.returns-in-Err
returns-in-Err c = rw c.at_depth.ensures (refused c.in-Err.is)
