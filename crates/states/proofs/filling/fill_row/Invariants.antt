-- `states::filling::fill_row` meets its contract. The loop's invariant: the cells of the bytes gone through are right.
use mathlib.Core.List.{List}
use Prim.Native.Nat.{ℕ, ◌+◌, ◌-◌, ◌*◌, ◌≤◌}
use Rattle.answers.specs.Limits.{byte_values, row_cells}
use Rattle.states.specs.Filling.{Filled}
use Rattle.states.proofs.filling.fill_row.Given as goal

abbrev pub invariant-loop-byte : goal.invariant-loop-byte
invariant-loop-byte l =
    (l.byte ≤ byte_values)
    × ((start : List ℕ) → Filled l.tables l.states start (l.state * row_cells) l.initial.machine
    → Filled l.tables l.states start (l.state * row_cells + l.byte) l.machine)

abbrev pub decreases-loop-byte : goal.decreases-loop-byte
decreases-loop-byte l = byte_values - l.byte
