-- The lines of sets and of rows, written one by one: those that are left make the whole.
use mathlib.Core.Path.{◌≡◌, ◌∙◌, sym}
use mathlib.Core.List.{List, [], ◌++◌}
use Prim.Native.Nat.{ℕ, suc, ◌+◌, ◌-◌, ◌≤◌, ◌<◌, min}
use native.Mathlib.Decide.{dec_le}
use native.Mathlib.Numerals.{add-one}
use native.Mathlib.Omega.{arith}
use lib.ListN.{length, take, drop, get_or, length-drop, drop_of_length-le}
use lib.Seq.{take_all, drop-cons, drop-drop}
use Rattle.text.specs.Text.{Put}
use Rattle.text.proofs.Promise.{Completes, completes_start, completes_more, completes_all}
use Rattle.showing.specs.Lines.{set_line, set_lines, row_line, row_lines}

-- of the lines from set n on, the first and the others
pub set_lines_next : (word family : List ℕ) (n : ℕ)
    → n < length family
    → set_lines word n (drop n family) ≡ set_line word n (get_or family n 0) ++ set_lines word (n + 1) (drop (n + 1) family)
unfolding set_lines
set_lines_next word family n inside = rw (drop-cons family n 0 inside, add-one n)

pub set_lines_past : (word family : List ℕ) (n : ℕ)
    → length family ≤ n
    → set_lines word n (drop n family) ≡ []
unfolding set_lines
set_lines_past word family n past = rw (drop_of_length-le family past)

-- the rows before `row` are written from the cells before `from`, and whoever writes the others from here on has written all
pub record RowsShown (columns rows : ℕ) (table before : List ℕ) (at : ℕ) (between : List ℕ) (middle from row : ℕ) : Type 0 where
  pub within : from ≤ length table
  pub rest : Completes before at (row_lines columns 0 rows table) between middle (row_lines columns row (rows - row) (drop from table))

-- of the rows from A on, the first and the others
rows_next : (columns rows : ℕ) (cells : List ℕ) (A from : ℕ)
    → A < rows
    → row_lines columns A (rows - A) (drop from cells)
    ≡ row_line A (take columns (drop from cells)) ++ row_lines columns (A + 1) (rows - (A + 1)) (drop (from + columns) cells)
unfolding row_lines
rows_next columns rows cells A from inside =
    let one : rows - A ≡ suc (rows - (A + 1)) = omega arith in
    rw (one, drop-drop, add-one A)

-- a row that ends with the cells, and what stands behind it
module _ (columns : ℕ) (cells : List ℕ) (from end : ℕ) (is : end ≡ min (from + columns) (length cells)) where
  row_cells_lem : take (end - from) (drop from cells) ≡ take columns (drop from cells)
  row_cells_lem = go (dec_le (from + columns) (length cells))
    where
      go : Dec (from + columns ≤ length cells) → take (end - from) (drop from cells) ≡ take columns (drop from cells)
      go (yes whole) = let all : end - from ≡ columns = omega arith in rw all
      go (no cut) =
          take_all (end - from) (drop from cells) (omega (arith, length-drop from cells))
          ∙ sym (take_all columns (drop from cells) (omega (arith, length-drop from cells)))

  row_behind : drop end cells ≡ drop (from + columns) cells
  row_behind = go (dec_le (from + columns) (length cells))
    where
      go : Dec (from + columns ≤ length cells) → drop end cells ≡ drop (from + columns) cells
      go (yes whole) = let all : end ≡ from + columns = omega arith in rw all
      go (no cut) =
          drop_of_length-le cells {i = end} (omega arith)
          ∙ sym (drop_of_length-le cells {i = from + columns} (omega arith))

module _ {columns rows : ℕ} {table before : List ℕ} {at : ℕ} where
  pub rows_start : RowsShown columns rows table before at before at 0 0
  rows_start =
      let whole : rows - 0 ≡ rows = omega arith in
      record { within = omega arith; rest = rw whole (completes_start before at (row_lines columns 0 rows table)) }

  pub rows_more : {between after : List ℕ} {middle next from end row : ℕ}
      → RowsShown columns rows table before at between middle from row
      → row < rows
      → end ≡ min (from + columns) (length table)
      → Put between middle (row_line row (take (end - from) (drop from table))) after next
      → RowsShown columns rows table before at after next end (row + 1)
  rows_more {from = from} {end = end} {row = row} s inside is p =
      record {
        within = omega arith;
        rest =
            rw (row_behind columns table from end is)
            (completes_more (row_line row (take columns (drop from table)))
            (row_lines columns (row + 1) (rows - (row + 1)) (drop (from + columns) table))
            (rw (rows_next columns rows table row from inside) at s.rest)
            (rw (row_cells_lem columns table from end is) at p));
      }

  pub rows_all : {between : List ℕ} {middle from row : ℕ}
      → RowsShown columns rows table before at between middle from row
      → rows ≤ row
      → Put before at (row_lines columns 0 rows table) between middle
  unfolding row_lines
  rows_all {row = row} s past =
      let none : rows - row ≡ 0 = omega arith in
      completes_all (rw none at s.rest)
