-- `parts::classes::spread` meets its contract. The loop's invariant: the position stands in the rows gone through.
use mathlib.Core.Path.{◌≡◌}
use Prim.Native.Nat.{◌+◌, ◌≤◌, max}
use lib.ListN.{length}
use Rattle.parts.proofs.Spreading.{SpreadBelow}
use Rattle.parts.proofs.classes.spread.Given as goal

abbrev pub invariant-loop-byte : goal.invariant-loop-byte
invariant-loop-byte l =
    (l.byte ≤ max l.low (l.high + 1))
    × (length l.readers ≡ length l.initial.readers)
    × SpreadBelow l.low l.byte l.position l.initial.readers l.readers
