-- The invariant: the rules gone through so far make a pass.
use Prim.Native.Nat.{◌≤◌}
use Rattle.sets.specs.Calls.{number}
use Rattle.book.specs.Closure.{Passed}
use Rattle.book.proofs.closure.pass.Given as goal

abbrev pub invariant-loop-p : goal.invariant-loop-p
invariant-loop-p l = (l.p ≤ l.count) × Passed l.ins l.outs l.count l.p (number l.initial.after) (number l.after)
