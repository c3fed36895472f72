-- The answer is made of what it is told.
use mathlib.Core.Path.{refl}
use Rattle.answers.specs.Answers.{done, stop}
use Rattle.answers.proofs.stop.Goals as goal

pub returns : goal.returns
unfolding done stop
returns g c = rw (c.told_number.ensures, c.done.ensures) refl
