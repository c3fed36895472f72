-- A space, or none.
use mathlib.Core.Path.{sym, ◌∙◌}
use Rattle.sheet.specs.Judging.{closed}
use Rattle.sheet.proofs.judging.closed.Goals as goal

pub returns-then-is_space : goal.returns-then-is_space
unfolding closed
returns-then-is_space c = rw (c.past.ensures, sym c.is_space.ensures ∙ c.if-is_space.true)

pub returns-else-is_space : goal.returns-else-is_space
unfolding closed
returns-else-is_space c = rw (sym c.is_space.ensures ∙ c.if-is_space.false)
