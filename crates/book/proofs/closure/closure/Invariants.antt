-- The invariant: the set and one pass more are a round; the sets grow as numbers.
use Prim.Native.Nat.{◌-◌, ◌^◌}
use Rattle.sets.specs.Sets.{width}
use Rattle.sets.specs.Calls.{number}
use Rattle.book.proofs.Passes.{ClosureRound}
use Rattle.book.proofs.closure.closure.Given as goal

abbrev pub invariant-loop-reached : goal.invariant-loop-reached
invariant-loop-reached l = ClosureRound l.ins l.outs l.count (number l.initial.reached) (number l.reached) (number l.after)

abbrev pub decreases-loop-reached : goal.decreases-loop-reached
decreases-loop-reached l = 2 ^ width - number l.reached
