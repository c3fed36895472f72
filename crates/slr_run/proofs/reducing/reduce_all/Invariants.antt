-- The invariant: whatever begins with the column runs from here as it ran from where the reductions began.
use Prim.Native.Nat.{◌-◌}
use Rattle.answers.specs.Buffers.{counted}
use Rattle.slr_run.specs.Stages.{column_at}
use Rattle.slr_run.proofs.Loop.{Looping}
use Rattle.slr_run.proofs.reducing.reduce_all.Given as goal

abbrev pub invariant-loop-p : goal.invariant-loop-p
invariant-loop-p l =
    Looping l.machine (column_at l.machine.outline.tokens l.column) l.initial.here l.initial.stack l.initial.list l.here l.stack l.list

abbrev pub decreases-loop-p : goal.decreases-loop-p
decreases-loop-p l = counted l.initial.list - l.here.listed
