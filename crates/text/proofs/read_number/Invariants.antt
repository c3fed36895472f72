-- `text::read_number` meets its contract: the digits that are left make of the value so far what all of them spell.
use Prim.Native.Nat.{◌-◌}
use lib.ListN.{length}
use Rattle.text.proofs.ReadingDigits.{Underway}
use Rattle.text.proofs.read_number.Given as goal

abbrev pub invariant-loop-value : goal.invariant-loop-value
invariant-loop-value l = Underway l.text l.at l.value l.next

abbrev pub decreases-loop-value : goal.decreases-loop-value
decreases-loop-value l = length l.text - l.next
