use Rattle.showing.specs.Words.{number_text}
use Rattle.showing.proofs.words.numbers.Goals as goal

pub returns : goal.returns
unfolding number_text
returns c = c.behind.ensures
