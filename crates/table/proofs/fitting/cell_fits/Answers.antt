-- A cell that is filled fits if its production is of the cell's row.
use native.Mathlib.Omega.{arith}
use Rattle.table.proofs.TableFits.{vacant_fits, filled_fits, row_below}
use Rattle.table.proofs.fitting.cell_fits.Goals as goal

pub returns-then-p : goal.returns-then-p
returns-then-p c = vacant_fits _ _ c.cell_at-p.ensures c.if-p.true

pub overflow_cast-row-2 : goal.overflow_cast-row-2
overflow_cast-row-2 c =
    omega (arith, row_below c.args.i c.args.outline.nonterminals c.args.outline.tokens c.requires)

pub returns : goal.returns
returns c = filled_fits _ _ c.cell_at-p.ensures c.if-p.false c.is_of.ensures
