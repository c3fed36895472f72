-- `longest::longest` meets its contract. The loop's invariant: what was read leads to the row, and the best match so far is its token.
use Prim.Native.Nat.{◌+◌}
use Rattle.pieces.proofs.Looking.{Looked}
use Rattle.pieces.proofs.longest.longest.Given as goal

abbrev pub invariant-loop-i : goal.invariant-loop-i
invariant-loop-i l = Looked l.machine l.line l.from (l.from + l.i) l.row l.best
