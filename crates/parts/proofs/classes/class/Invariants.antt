-- `parts::classes::class` meets its contract. The loop's invariant: the elements up to here were read.
use mathlib.Core.Path.{◌≡◌}
use Prim.Native.Nat.{◌-◌}
use lib.ListN.{length}
use Rattle.parts.specs.Classes.{ClassMeant, elements_pending}
use Rattle.parts.proofs.classes.class.Given as goal

abbrev pub invariant-loop-readers : goal.invariant-loop-readers
invariant-loop-readers l =
    (length l.readers ≡ length l.fn.readers)
    × ClassMeant l.pattern l.at elements_pending l.position l.fn.readers l.next l.readers

abbrev pub decreases-loop-readers : goal.decreases-loop-readers
decreases-loop-readers l = length l.pattern - l.next
