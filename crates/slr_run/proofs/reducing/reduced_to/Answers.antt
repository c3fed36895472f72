-- The counts one by one.
use Rattle.slr_run.specs.Reducing.{reduced_to}
use Rattle.slr_run.proofs.reducing.reduced_to.Goals as goal

pub returns : goal.returns
unfolding reduced_to
returns c = rw c.max.ensures
