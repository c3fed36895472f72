-- `parts::joins::closed` meets its contract.
use mathlib.Core.Path.{sym, ◌∙◌}
use Rattle.parts.specs.Joins.{closed_there, not_closed}
use Rattle.parts.proofs.joins.closed.Goals as goal

pub returns-then-byte_at-eq-CLOSE_GROUP : goal.returns-then-byte_at-eq-CLOSE_GROUP
returns-then-byte_at-eq-CLOSE_GROUP c =
    rw c.behind.ensures (closed_there (sym c.byte_at.ensures ∙ c.if-byte_at-eq-CLOSE_GROUP.true))

pub returns-else-byte_at-eq-CLOSE_GROUP : goal.returns-else-byte_at-eq-CLOSE_GROUP
returns-else-byte_at-eq-CLOSE_GROUP c =
    not_closed (λ e. c.if-byte_at-eq-CLOSE_GROUP.false (c.byte_at.ensures ∙ e))
