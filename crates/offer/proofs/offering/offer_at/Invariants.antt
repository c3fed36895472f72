-- The invariant: whatever state the buffers held, they hold what the machine makes of it.
use Prim.Native.Nat.{◌-◌}
use Rattle.answers.specs.Buffers.{counted}
use Rattle.book.specs.Columns.{located}
use Rattle.offer.proofs.Turning.{Turning}
use Rattle.offer.proofs.offering.offer_at.Given as goal

abbrev pub invariant-loop-next : goal.invariant-loop-next
invariant-loop-next l =
    Turning l.rules.book.now (located l.rules.places.now l.rules.outline) l.table l.ahead l.at l.initial.stack l.initial.list l.cells l.stack l.list l.height l.listed l.deepest

abbrev pub decreases-loop-next : goal.decreases-loop-next
decreases-loop-next l =
    counted l.initial.list - l.listed
