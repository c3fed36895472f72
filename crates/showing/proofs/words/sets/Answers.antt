use Rattle.showing.specs.Words.{set_text}
use Rattle.showing.proofs.words.sets.Goals as goal

pub returns : goal.returns
unfolding set_text
returns c = c.behind.ensures
