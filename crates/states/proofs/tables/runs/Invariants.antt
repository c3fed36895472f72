-- `states::tables::runs` meets its contract. The loop's invariant: it is so of the bytes from the last one on.
use Rattle.states.specs.Runs.{Runs}
use Rattle.states.proofs.tables.runs.Given as goal

abbrev pub invariant-loop-byte : goal.invariant-loop-byte
invariant-loop-byte l = Runs l.readers l.byte l.ends
