-- What comes next decides.
use Rattle.offer.proofs.Deciding.{bottom_next, bottom_end}
use Rattle.offer.proofs.moves.at_bottom.Goals as goal

pub returns-in-Some : goal.returns-in-Some
returns-in-Some c = bottom_next c.in-Some.is

pub returns-in-None : goal.returns-in-None
returns-in-None c = bottom_end c.in-None.is
