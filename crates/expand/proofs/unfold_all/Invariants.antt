-- The invariant: from what the buffers hold the machine comes to the expansion's end.
use Prim.Native.Nat.{◌+◌, ◌-◌}
use lib.ListN.{length}
use Rattle.answers.specs.Buffers.{counted}
use Rattle.book.specs.Columns.{located}
use Rattle.expand.proofs.Unrolling.{Unrolled}
use Rattle.expand.proofs.unfold_all.Given as goal

abbrev pub invariant-loop-t : goal.invariant-loop-t
invariant-loop-t l =
    Unrolled l.rules.book.now (located l.rules.places.now l.rules.outline) l.lefts l.list l.initial.stack l.initial.output l.cells l.stack l.output l.height l.used l.written l.deepest

abbrev pub decreases-loop-t : goal.decreases-loop-t
decreases-loop-t l =
    counted l.initial.output - l.written + (length l.list - l.used)
