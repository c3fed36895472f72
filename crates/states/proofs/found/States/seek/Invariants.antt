-- `states::found::States::seek` meets its contract. The loop's invariant: no state that was looked at has the set.
use mathlib.Core.Logic.{◌≢◌}
use Prim.Native.Nat.{ℕ, ◌<◌}
use Rattle.moves.specs.Tables.{set_of}
use Rattle.states.proofs.found.States.seek.Given as goal

abbrev pub invariant-loop-state : goal.invariant-loop-state
invariant-loop-state l = (j : ℕ) → j < l.state → set_of l.self.sets j ≢ set_of l.next 0
