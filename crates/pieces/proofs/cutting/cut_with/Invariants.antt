-- `cutting::cut_with` meets its contract. The loop's invariant: what is left, cut, completes the pieces so far to the whole.
use Prim.Native.Nat.{◌-◌}
use lib.ListN.{length}
use Rattle.pieces.specs.Rows.{Says}
use Rattle.pieces.proofs.Progress.{Progress}
use Rattle.pieces.proofs.cutting.cut_with.Given as goal

abbrev pub invariant-loop-at : goal.invariant-loop-at
invariant-loop-at l =
    Progress (Says l.machine) l.line l.initial.tokens l.initial.ends l.at l.count l.tokens l.ends

abbrev pub decreases-loop-at : goal.decreases-loop-at
decreases-loop-at l = length l.line - l.at
