-- The invariant: from the state that the buffers hold the machine comes to the run's outcome.
use mathlib.Core.Path.{◌≡◌}
use Rattle.book.specs.Columns.{located}
use Rattle.offer.proofs.Steps.{Running}
use Rattle.offer.proofs.strings.offer_all.Given as goal

abbrev pub invariant-loop-token : goal.invariant-loop-token
invariant-loop-token l =
    Running l.rules.book.now (located l.rules.places.now l.rules.outline) l.table l.tokens l.initial.stack l.initial.list l.at l.stack l.list × (l.at.matched ≡ l.token-index)
