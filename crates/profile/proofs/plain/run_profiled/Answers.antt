-- What the profile refuses is refused.
use Rattle.profile.proofs.Outcomes.{told_refused}
use Rattle.profile.proofs.plain.run_profiled.Goals as goal

pub returns-in-Err : goal.returns-in-Err
returns-in-Err c = told_refused c.in-Err.ensures
