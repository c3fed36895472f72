-- A table checked row by row: the first cell that does not fit.
use Rattle.std.specs.Prelude.{Some, None}
use mathlib.Core.Path.{◌≡◌}
use mathlib.Core.List.{List}
use Prim.Native.Nat.{ℕ, suc, ◌+◌, ◌-◌, ◌*◌, ◌≤◌, ◌<◌}
use native.Mathlib.Decide.{dec_lt}
use native.Mathlib.Numerals.{add-one}
use native.Mathlib.Nat.{le_refl, suc-mul, mul-le-mul_right}
use native.Mathlib.Omega.{arith}
use lib.Arith.{digits_mod}
use lib.ListN.{length}
use Rattle.answers.specs.Lowest.{FailingIn}
use Rattle.book.specs.declared.columns.Outline.{Outline}
use Rattle.slr_run.specs.Checking.{columns_in, RowFits, CellFits, WholeRows}

module _ (o : Outline) (rows : ℕ) (table : List ℕ) where
  -- the cells of the rows that are passed fit
  abbrev pub Rowwise : ℕ → Type 0
  Rowwise row = (i : ℕ) → i < row * columns_in o → CellFits o rows table i

  module _ (row : ℕ) {columns : ℕ} (all : columns ≡ columns_in o) where
    -- a row below their number stands within the table
    pub row_inside : WholeRows o table rows → row < rows → row * columns + columns ≤ length table
    row_inside whole h =
        let more : suc row * columns_in o ≤ rows * columns_in o = mul-le-mul_right (columns_in o) (omega arith) in
        rw all (omega (arith, whole.sized, suc-mul row (columns_in o)))

    -- a cell of the row stands in its column
    cell_of : (column : ℕ)
        → column < columns
        → RowFits o rows table (row * columns) column
        → CellFits o rows table (row * columns + column)
    cell_of column h fits = rw (all, digits_mod row (rw all at h)) (rw all at fits)

    of_cell : (column : ℕ)
        → column < columns
        → CellFits o rows table (row * columns + column)
        → RowFits o rows table (row * columns) column
    of_cell column h fits = rw all (rw (all, digits_mod row (rw all at h)) at fits)

    -- the cells before a column fit, where those of the row before it do
    passed : Rowwise row
        → (column : ℕ)
        → column ≤ columns
        → ((j : ℕ) → j < column → RowFits o rows table (row * columns) j)
        → (i : ℕ)
        → i < row * columns + column
        → CellFits o rows table i
    passed w column within fits i h = go (dec_lt i (row * columns))
      where
        go : Dec (i < row * columns) → CellFits o rows table i
        go (yes below) = w i (rw all at below)
        go (no above) =
            let same : row * columns + (i - row * columns) ≡ i = omega arith in
            rw same at (cell_of (i - row * columns) (omega arith) (fits (i - row * columns) (omega arith)))

    pub rowwise_found : {column : ℕ}
        → WholeRows o table rows
        → row < rows
        → Rowwise row
        → FailingIn (RowFits o rows table (row * columns)) columns (Some column)
        → FailingIn (CellFits o rows table) (length table) (Some (row * columns + column))
    rowwise_found {column} whole h w first =
        record {
          inside = omega (arith, first.inside, row_inside whole h);
          fails = λ fits. first.fails (of_cell column first.inside fits);
          earlier = passed w column (omega (arith, first.inside)) first.earlier;
        }

    pub rowwise_next : Rowwise row
        → FailingIn (RowFits o rows table (row * columns)) columns None
        → Rowwise (row + 1)
    rowwise_next w fits i h =
        passed w columns (le_refl columns) fits i
        (omega (arith, rw (add-one row, suc-mul row (columns_in o), ← all) at h))

  pub rowwise_over : {row : ℕ}
      → WholeRows o table rows
      → rows ≤ row
      → Rowwise row
      → FailingIn (CellFits o rows table) (length table) None
  rowwise_over whole h w i inside =
      w i (omega (arith, whole.sized, mul-le-mul_right (columns_in o) h))
