-- The invariant: the productions gone through are entered.
use Rattle.book.specs.Columns.{grammar_in}
use Rattle.profile.proofs.Entering.{Entered}
use Rattle.profile.proofs.heads.enter_heads.Given as goal

abbrev pub invariant-loop-p : goal.invariant-loop-p
invariant-loop-p l = Entered (grammar_in l.book l.index) l.p l.cells
