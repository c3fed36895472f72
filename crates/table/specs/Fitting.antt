-- A table that fits a grammar, whoever made it, and the place of refusal 9 of one that does not.
-- Document 01, "Refusals and their numbers".
use Rattle.std.specs.Prelude.{◌≡◌, ◌≢◌, Bool, List, ℕ, ◌<◌, length, get_or, Option, ⊤, Result, MatchResult}
use Rattle.std.proofs.Math.Option.{some, none}
use Rattle.grammar.specs.Grammar.{Form, Grammar, Rule}
use Rattle.sets.specs.Calls.{Decides}
use Rattle.answers.specs.Lowest.{FailingIn}
use Rattle.reader.specs.Fields.{left_at}
use Rattle.book.specs.declared.columns.Outline.{Outline}
use Rattle.book.specs.Columns.{outlined, Gathered}
use Rattle.table.specs.Table.{size, row_at, held}

-- a cell is 255 or a production of its row
pub data Fits (g : Grammar) (table : List ℕ) (i : ℕ) : Type 0 where
  vacant : held (get_or table i 255) ≡ none → Fits g table i
  filled : {p : ℕ} {β : Form} → held (get_or table i 255) ≡ some p → Rule g p (row_at g i) β → Fits g table i

-- the table has the grammar's number of cells, and each fits
pub record FitTable (g : Grammar) (table : List ℕ) : Type 0 where
  pub sized : length table ≡ size g
  pub cells : (i : ℕ) → i < size g → Fits g table i

-- the place of refusal 9: the length given, or the first cell that does not fit
pub data Misfit (g : Grammar) (table : List ℕ) : ℕ → Type 0 where
  length_given : length table ≢ size g → Misfit g table (length table)
  cell : {i : ℕ}
      → length table ≡ size g
      → i < size g
      → ¬ Fits g table i
      → ((j : ℕ) → j < i → Fits g table j)
      → Misfit g table i

-- what a check of the table answers
abbrev pub TableFitting : Grammar → (table : List ℕ) → Result ⊤ ℕ → Type 0
TableFitting g table r = MatchResult r (λ _. FitTable g table) (Misfit g table)

-- inside the crate: the answer for one cell, by the column of left sides of any book
pub record CellFits (lefts : List ℕ) (o : Outline) (table : List ℕ) (i : ℕ) (r : Bool) : Type 0 where
  pub decides : (book places : List ℕ)
      → Gathered (left_at book) places o.productions lefts
      → Decides r (Fits (outlined book places o) table i)

-- and the first cell that does not fit
abbrev pub FirstMisfit : Grammar → (table : List ℕ) → Option ℕ → Type 0
FirstMisfit g table = FailingIn (Fits g table) (length table)
