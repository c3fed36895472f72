-- What is checked before steps, by the numbers of an outline: the table, the number of tokens, the tokens, a stack
-- cell.
-- Document 02, W12. Only contracts inside the crate cite what stands here.
use Rattle.std.specs.Prelude.{⊤, Option, MatchOption, Result, ◌≡◌, List, ℕ, ◌+◌, ◌*◌, ◌/◌, ◌%◌, ◌≤◌, length, get_or}
use Rattle.grammar.specs.Grammar.{Grammar}
use Rattle.answers.specs.Checks.{Tested}
use Rattle.answers.specs.declared.Answer.{Answer}
use Rattle.book.specs.declared.columns.Outline.{Outline}
use Rattle.slr.specs.Cells.{empty_cell, most_states}
use Rattle.slr_run.specs.Fitting.{NumberFits, SlrFits, SlrMisfit}
use Rattle.slr_run.specs.Running.{SlrBarred, SlrAdmits}

-- columns of a row, and rows of a table
abbrev pub columns_in : Outline → ℕ
columns_in o = o.tokens + 1 + o.nonterminals

abbrev pub rows_of : Outline → List ℕ → ℕ
rows_of o table = length table / columns_in o

-- the outline has the grammar's T, N and P
pub record Counts (o : Outline) (g : Grammar) : Type 0 where
  pub tokens : g.tokens ≡ o.tokens
  pub nonterminals : g.nonterminals ≡ o.nonterminals
  pub productions : length g.productions ≡ o.productions

-- the number in a cell of the row that begins at a cell fits
abbrev pub RowFits : Outline → (rows : ℕ) → List ℕ → (base : ℕ) → ℕ → Type 0
RowFits o rows table base column =
    NumberFits o.tokens o.productions rows column (get_or table (base + column) empty_cell)

-- cell i fits
abbrev pub CellFits : Outline → (rows : ℕ) → List ℕ → ℕ → Type 0
CellFits o rows table i =
    NumberFits o.tokens o.productions rows (i % columns_in o) (get_or table i empty_cell)

-- a table of so many whole rows, at most 256
pub record WholeRows (o : Outline) (table : List ℕ) (rows : ℕ) : Type 0 where
  pub sized : length table ≡ rows * columns_in o
  pub few : rows ≤ most_states

-- a table that fits, or the place of refusal 9
abbrev pub TableChecked : (g : Grammar) (table : List ℕ) → Option ℕ → Type 0
TableChecked g table r = MatchOption r (SlrFits g table) (SlrMisfit g table)

-- of every grammar with these numbers
pub record TableCheck (o : Outline) (table : List ℕ) (r : Option ℕ) : Type 0 where
  pub checked : (g : Grammar) → Counts o g → TableChecked g table r

-- barred with the refusal, or admitted
abbrev pub SlrChecked : (g : Grammar) (table tokens stack : List ℕ) → Result ⊤ Answer → Type 0
SlrChecked g table tokens stack = Tested (SlrBarred g table tokens stack) (SlrAdmits g table tokens stack)

-- whatever the stack, if it has so many cells
pub record CheckedFor (o : Outline) (table tokens : List ℕ) (cells : ℕ) (r : Result ⊤ Answer) : Type 0 where
  pub checked : (g : Grammar)
      → Counts o g
      → (stack : List ℕ)
      → length stack ≡ cells
      → SlrChecked g table tokens stack r
