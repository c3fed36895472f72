-- `showing::lines::row_lines` meets its contract: the rows that are left, written from here on, make the whole.
use Rattle.showing.proofs.Rows.{RowsShown}
use Rattle.showing.proofs.lines.row_lines.Given as goal

abbrev pub invariant-loop-row : goal.invariant-loop-row
invariant-loop-row l =
    RowsShown l.columns l.rows l.table l.initial.out l.at l.out l.place l.from l.row
