use mathlib.Core.Path.{◌∙◌}
use Rattle.stack.proofs.Next.{ahead_lent}
use Rattle.stack.proofs.ahead_of.Goals as goal

pub returns : goal.returns
returns c = c.copied.ensures ∙ ahead_lent _ _ _ c.get.ensures.lookup.3
