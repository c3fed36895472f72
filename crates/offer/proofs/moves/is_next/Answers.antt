use mathlib.Core.Path.{◌∙◌}
use Rattle.offer.proofs.Deciding.{equal_meets}
use Rattle.offer.proofs.moves.is_next.Goals as goal

pub returns : goal.returns
returns c = c.eq.ensures ∙ equal_meets c.args.ahead c.args.t
