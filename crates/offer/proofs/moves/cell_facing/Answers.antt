-- The cell of the row and the column, and none outside the table.
use native.Mathlib.Omega.{arith}
use borrow.Author.Rules.{rules}
use Rattle.table.proofs.Promise.{row_fits}
use Rattle.offer.proofs.Deciding.{cell_no_row, cell_no_token, cell_token, cell_end}
use Rattle.offer.proofs.moves.cell_facing.Goals as goal

pub returns-then-outline-n : goal.returns-then-outline-n
returns-then-outline-n c = cell_no_row _ _ c.if-outline-n.true

pub overflow_mul-row : goal.overflow_mul-row
overflow_mul-row c =
    let h = row_fits c.args.n c.args.outline.tokens (search rules) (search rules) in search rules

pub overflow_add-row-then-t-outline : goal.overflow_add-row-then-t-outline
overflow_add-row-then-t-outline c =
    omega (arith, row_fits c.args.n c.args.outline.tokens (search rules) (search rules))

pub overflow_add-row-in-None : goal.overflow_add-row-in-None
overflow_add-row-in-None c =
    omega (arith, row_fits c.args.n c.args.outline.tokens (search rules) (search rules))

pub returns-then-t-outline : goal.returns-then-t-outline
returns-then-t-outline c = cell_token _ (omega arith) c.in-Some.is c.if-t-outline.true c.cell_at.ensures

pub returns-else-t-outline : goal.returns-else-t-outline
returns-else-t-outline c = cell_no_token _ (omega arith) c.in-Some.is c.if-t-outline.false

pub returns-in-None : goal.returns-in-None
returns-in-None c = cell_end _ (omega arith) c.in-None.is c.cell_at-in-None.ensures
