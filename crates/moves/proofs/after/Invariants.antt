-- `moves::after` meets its contract. The loop's invariant: what comes after the positions of the words gone through.
use Rattle.moves.specs.Tables.{set_of}
use Rattle.moves.proofs.Gathering.{Gathered}
use Rattle.moves.proofs.after.Given as goal

abbrev pub invariant-loop-i : goal.invariant-loop-i
invariant-loop-i l = Gathered l.readers l.follow (set_of l.sets l.state) l.byte l.i l.next
