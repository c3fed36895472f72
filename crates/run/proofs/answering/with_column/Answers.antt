-- A column is added where its cell is filled.
use native.Mathlib.Omega.{arith}
use borrow.Author.Rules.{rules}
use Rattle.table.proofs.Promise.{row_fits}
use Rattle.run.proofs.Expected.{column_vacant, column_filled}
use Rattle.run.proofs.answering.with_column.Goals as goal

pub overflow_mul-row : goal.overflow_mul-row
overflow_mul-row c = omega (arith, row_fits c.args.n c.args.outline.tokens (search rules) (search rules))

pub overflow_add-row-2 : goal.overflow_add-row-2
overflow_add-row-2 c = omega (arith, row_fits c.args.n c.args.outline.tokens (search rules) (search rules))

pub returns-then-cell_at : goal.returns-then-cell_at
returns-then-cell_at c = record { filled = λ g sized e. column_vacant sized _ _ _ c.cell_at.ensures c.if-cell_at.true e }

pub returns-else-cell_at : goal.returns-else-cell_at
returns-else-cell_at c = record { filled = λ g sized e. column_filled sized _ _ _ c.cell_at.ensures c.if-cell_at.false c.with.ensures c.column_bit.ensures e }
