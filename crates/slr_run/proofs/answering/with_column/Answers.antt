-- A column is added where its cell is filled.
use native.Mathlib.Omega.{arith}
use borrow.Author.Rules.{rules}
use Rattle.slr_run.proofs.Expected.{row_bound, column_vacant, column_filled}
use Rattle.slr_run.proofs.answering.with_column.Goals as goal

pub overflow_mul-row : goal.overflow_mul-row
overflow_mul-row c = omega (arith, row_bound c.args.state c.columns_of.result (search rules) (search rules))

pub overflow_add-row : goal.overflow_add-row
overflow_add-row c = omega (arith, row_bound c.args.state c.columns_of.result (search rules) (search rules))

pub returns-then-cell_or : goal.returns-then-cell_or
returns-then-cell_or c = column_vacant _ _ _ _ c.columns_of.ensures c.cell_or.ensures c.if-cell_or.true

pub returns-else-cell_or : goal.returns-else-cell_or
returns-else-cell_or c = column_filled _ _ _ _ c.columns_of.ensures c.cell_or.ensures c.if-cell_or.false c.with.ensures c.column_bit.ensures
