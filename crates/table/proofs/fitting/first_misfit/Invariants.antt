-- The invariant: the cells passed fit.
use Prim.Native.Nat.{ℕ, ◌<◌}
use Rattle.book.specs.Columns.{outlined}
use Rattle.table.specs.Fitting.{Fits}
use Rattle.table.proofs.fitting.first_misfit.Given as goal

abbrev pub invariant-loop-i : goal.invariant-loop-i
invariant-loop-i l = (j : ℕ) → j < l.i → Fits (outlined l.book l.places l.outline) l.table j
