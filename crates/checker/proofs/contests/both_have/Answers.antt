-- The answer is true exactly if each of the two is.
use Rattle.checker.proofs.Rivalry.{both_decided}
use Rattle.checker.proofs.contests.both_have.Goals as goal

pub returns : goal.returns
returns c = both_decided _ _ _ c.has.ensures c.has-2.ensures
