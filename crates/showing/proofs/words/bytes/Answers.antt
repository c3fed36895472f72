use Rattle.showing.specs.Words.{number_text}
use Rattle.showing.proofs.words.bytes.Goals as goal

pub returns : goal.returns
unfolding number_text
returns c = c.behind.ensures
