-- `points::unite` meets its contract. The loop's invariant: what is left to unite, united, gives the whole.
use mathlib.Core.Path.{◌≡◌}
use Prim.Native.Nat.{◌+◌, ◌-◌}
use lib.ListN.{length}
use Rattle.points.proofs.Union.{united_from}
use Rattle.points.proofs.unite.Given as goal

abbrev pub invariant-loop-i : goal.invariant-loop-i
invariant-loop-i l =
    (length l.sets ≡ length l.initial.sets)
    × (united_from l.sets (l.at + l.i) (l.words - l.i) l.other (l.from + l.i) ≡ united_from l.initial.sets l.at l.words l.other l.from)
