-- The outcome without the sets.
use Rattle.checker.proofs.Answering.{checked_outcome}
use Rattle.checker.proofs.check.Goals as goal

pub returns : goal.returns
returns c = checked_outcome c.check_with_first.ensures
