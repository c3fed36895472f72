-- What judging refuses is refused.
use Rattle.profile.specs.Plain.{refused}
use Rattle.profile.proofs.plain.plain_run.Goals as goal

pub returns-in-Err : goal.returns-in-Err
returns-in-Err c = refused (rw c.in-Err.is at c.judge-judged.ensures)
