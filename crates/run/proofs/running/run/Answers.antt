-- The account's answer.
use Rattle.run.proofs.running.run.Goals as goal

pub returns : goal.returns
returns c = c.account-whole.ensures.run
