-- The invariant: the columns passed fit.
use Prim.Native.Nat.{ℕ, ◌<◌}
use Rattle.slr_run.specs.Checking.{RowFits}
use Rattle.slr_run.proofs.checking.first_unfit.Given as goal

abbrev pub invariant-loop-column : goal.invariant-loop-column
invariant-loop-column l = (j : ℕ) → j < l.column → RowFits l.outline l.rows l.table l.base j
