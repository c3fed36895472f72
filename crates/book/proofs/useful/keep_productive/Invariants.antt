-- The invariant: the sets gone through are kept or emptied, and the others are as they were.
use Prim.Native.Nat.{◌≤◌}
use Rattle.sets.specs.Calls.{number}
use Rattle.book.proofs.Filling.{Keeping}
use Rattle.book.proofs.useful.keep_productive.Given as goal

abbrev pub invariant-loop-p : goal.invariant-loop-p
invariant-loop-p l = (l.p ≤ l.count) × Keeping (number l.productive) l.initial.names l.p l.names
