-- `states::finding::find` meets its contract. The loop's invariant: what was found in the rows gone through.
use Prim.Native.Nat.{◌-◌, ◌*◌, ◌≤◌}
use Rattle.answers.specs.Limits.{byte_values, most_states}
use Rattle.states.specs.Searching.{SearchedTo}
use Rattle.states.proofs.finding.find.Given as goal

abbrev pub invariant-loop-state : goal.invariant-loop-state
invariant-loop-state l = (l.state ≤ l.states.count) × SearchedTo l.tables l.states (l.state * byte_values)

abbrev pub decreases-loop-state : goal.decreases-loop-state
decreases-loop-state l = most_states - l.state
