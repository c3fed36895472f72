-- `states::finding::find_row` meets its contract. The loop's invariant: what was found in the cells gone through.
use Prim.Native.Nat.{◌+◌, ◌-◌, ◌*◌, ◌≤◌}
use Rattle.answers.specs.Limits.{byte_values}
use Rattle.states.specs.Searching.{More}
use Rattle.states.proofs.finding.find_row.Given as goal

abbrev pub invariant-loop-byte : goal.invariant-loop-byte
invariant-loop-byte l = (l.byte ≤ byte_values) × More l.tables l.initial.states (l.state * byte_values + l.byte) l.states

abbrev pub decreases-loop-byte : goal.decreases-loop-byte
decreases-loop-byte l = byte_values - l.byte
