-- Refused, or accounted for on the grammar that the book serves.
use Rattle.run.proofs.RunAnswers.{account_refused, account_served}
use Rattle.run.proofs.running.account.Goals as goal

pub returns-in-Ok : goal.returns-in-Ok
returns-in-Ok c = account_served c.in-Ok.ensures c.account_on.ensures

pub returns-in-Err : goal.returns-in-Err
returns-in-Err c = account_refused c.in-Err.ensures
