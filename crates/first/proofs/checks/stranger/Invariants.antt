-- The invariant: every byte gone through is a symbol.
use lib.ListN.{length}
use Rattle.answers.proofs.Promise.{Searched}
use Rattle.first.specs.Checks.{IsStrange}
use Rattle.first.proofs.checks.stranger.Given as goal

abbrev pub invariant-loop-i : goal.invariant-loop-i
invariant-loop-i l = Searched (IsStrange l.t l.n l.symbols) (length l.symbols) l.i
