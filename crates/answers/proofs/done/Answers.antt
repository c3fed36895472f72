-- The answer with no expected set.
use mathlib.Core.Path.{refl}
use Rattle.sets.proofs.Promise.{none_is, number_unique}
use Rattle.answers.specs.Answers.{done}
use Rattle.answers.proofs.done.Goals as goal

pub returns : goal.returns
unfolding done
returns c = rw (number_unique (none_is c.none.ensures)) refl
