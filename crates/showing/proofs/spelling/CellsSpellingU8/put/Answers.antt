-- A vacant cell, and a filled one.
use Rattle.showing.proofs.Parts.{cell_vacant, cell_filled}
use Rattle.showing.proofs.spelling.CellsSpellingU8.put.Goals as goal

pub returns-then-cell-eq-VACANT : goal.returns-then-cell-eq-VACANT
returns-then-cell-eq-VACANT c = rw (cell_vacant c.args.cell c.if-cell-eq-VACANT.true) c.put.ensures

pub returns-else-cell-eq-VACANT : goal.returns-else-cell-eq-VACANT
returns-else-cell-eq-VACANT c = rw (cell_filled c.args.cell c.if-cell-eq-VACANT.false) (rw c.from.ensures at c.decimal.ensures)
