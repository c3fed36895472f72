-- One case of the check for each answer.
use mathlib.Core.Path.{refl}
use Rattle.slr_run.proofs.Checks.{not_whole, no_row, many_rows, whole_rows, cells_checked}
use Rattle.slr_run.proofs.checking.misfit.Goals as goal
use Rattle.slr_run.proofs.checking.misfit.Goals.{then-table-columns-ne0-via-then-table-columns-ne0, then-table-columns-ne0-via-else-table-columns-ne0+then-rows-eq0, then-table-columns-ne0-via-else-table-columns-ne0+else-rows-eq0+then-rows-gt-MOST_STATES}

pub returns-then-table-columns-ne0 : goal.returns-then-table-columns-ne0
returns-then-table-columns-ne0 c =
    let wide = c.columns_of-columns.ensures in
    elim c.then-table-columns-ne0.branch [
      | then-table-columns-ne0-via-then-table-columns-ne0 w ↦ not_whole _ _ wide refl w.if-table-columns-ne0.true
      | then-table-columns-ne0-via-else-table-columns-ne0+then-rows-eq0 w ↦ no_row _ _ wide refl w.if-rows-eq0.true
      | then-table-columns-ne0-via-else-table-columns-ne0+else-rows-eq0+then-rows-gt-MOST_STATES w ↦
          many_rows _ _ wide refl w.if-rows-gt-MOST_STATES.true
    ]

pub first_misfit-requires : goal.first_misfit-requires
first_misfit-requires c =
    whole_rows _ _ c.columns_of-columns.ensures refl c.if-table-columns-ne0.false c.if-rows-eq0.false c.if-rows-gt-MOST_STATES.false

pub returns : goal.returns
returns c =
    cells_checked _ _ c.columns_of-columns.ensures refl c.if-table-columns-ne0.false c.if-rows-eq0.false c.if-rows-gt-MOST_STATES.false
    _ c.first_misfit.ensures
