-- `states::filling::fill` meets its contract. The loop's invariant: the rows gone through are right.
use Prim.Native.Nat.{◌*◌}
use Rattle.answers.specs.Limits.{row_cells}
use Rattle.states.specs.Filling.{Filled}
use Rattle.states.proofs.filling.fill.Given as goal

abbrev pub invariant-loop-state : goal.invariant-loop-state
invariant-loop-state l = Filled l.tables l.states l.initial.machine (l.state * row_cells) l.machine
