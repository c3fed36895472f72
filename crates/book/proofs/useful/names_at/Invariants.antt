-- The invariant: the names among the symbols gone through.
use Prim.Native.Nat.{◌≤◌}
use Rattle.sets.specs.Sets.{width, Exactly}
use Rattle.sets.specs.Calls.{number}
use Rattle.book.specs.Useful.{NamedAt}
use Rattle.book.proofs.useful.names_at.Given as goal

abbrev pub invariant-loop-i : goal.invariant-loop-i
invariant-loop-i l = (l.i ≤ l.count) × Exactly width (number l.names) (NamedAt l.book l.at l.i)
