-- A number that is not below P is refused.
use Rattle.answers.specs.Checks.{because}
use Rattle.follow.proofs.checks.numbered.Goals as goal

pub returns-else-production-productions : goal.returns-else-production-productions
returns-else-production-productions c = rw c.refusal.ensures (because c.if-production-productions.false)
