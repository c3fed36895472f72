-- The words one by one.
use mathlib.Core.Path.{refl}
use Rattle.run.specs.Running.{words_of}
use Rattle.run.proofs.beside.write_words.Goals as goal

pub returns : goal.returns
unfolding words_of
returns c = refl
