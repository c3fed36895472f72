-- One case of `TableFitting` for each answer.
use Rattle.book.proofs.Promise.{outlined_sized}
use Rattle.table.proofs.TableFits.{misfit_length, misfit_cell, fit_whole}
use Rattle.table.proofs.fitting.check_table.Goals as goal

pub returns-then-table-cells : goal.returns-then-table-cells
returns-then-table-cells c = misfit_length (outlined_sized _ _ _) c.cells.ensures c.if-table-cells.true

pub returns-in-Some : goal.returns-in-Some
returns-in-Some c = misfit_cell (outlined_sized _ _ _) c.cells.ensures c.if-table-cells.false c.in-Some.ensures

pub returns-in-None : goal.returns-in-None
returns-in-None c = fit_whole (outlined_sized _ _ _) c.cells.ensures c.if-table-cells.false c.in-None.ensures
