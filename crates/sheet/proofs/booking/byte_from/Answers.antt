-- By the letter.
use mathlib.Core.Path.{sym, ◌∙◌}
use borrow.Author.Tests.{eq-eqb, ne_eqb}
use Rattle.sheet.specs.Booking.{byte_from}
use Rattle.sheet.proofs.booking.byte_from.Goals as goal

pub returns-then-byte_at-eq116 : goal.returns-then-byte_at-eq116
unfolding byte_from
returns-then-byte_at-eq116 c = rw (eq-eqb _ _ (sym c.byte_at.ensures ∙ c.if-byte_at-eq116.true))

pub returns-else-byte_at-eq116 : goal.returns-else-byte_at-eq116
unfolding byte_from
returns-else-byte_at-eq116 c = rw (ne_eqb _ _ (λ e. c.if-byte_at-eq116.false (c.byte_at.ensures ∙ e)))
