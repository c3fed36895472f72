-- The invariant: the cells of the rows that are passed fit.
use Rattle.slr_run.proofs.Rowwise.{Rowwise}
use Rattle.slr_run.proofs.checking.first_misfit.Given as goal

abbrev pub invariant-loop-row : goal.invariant-loop-row
invariant-loop-row l = Rowwise l.outline l.rows l.table l.row
