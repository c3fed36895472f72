-- The answer as it was, with the depth that it is told.
use mathlib.Core.Path.{refl}
use Rattle.answers.specs.Answers.{at_depth}
use Rattle.answers.proofs.at_depth.Goals as goal

pub returns : goal.returns
unfolding at_depth
returns c = refl
