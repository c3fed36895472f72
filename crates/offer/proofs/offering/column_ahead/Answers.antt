-- The two cases of `column_of`.
use Rattle.offer.proofs.Resumed.{column_next, column_end}
use Rattle.offer.proofs.offering.column_ahead.Goals as goal

pub returns-then-column-tokens : goal.returns-then-column-tokens
returns-then-column-tokens c = record { same = column_next c.if-column-tokens.true }

pub returns-else-column-tokens : goal.returns-else-column-tokens
returns-else-column-tokens c = record { same = column_end c.if-column-tokens.false }
