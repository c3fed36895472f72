-- A table of actions and moves that fits a grammar, whoever made it, and the place of refusal 9 of one that does not.
-- Document 02, W12.
use Rattle.std.specs.Prelude.{◌≡◌, List, ℕ, ◌+◌, ◌/◌, ◌%◌, ◌≤◌, ◌<◌, length, get_or}
use Rattle.grammar.specs.Grammar.{Grammar}
use Rattle.answers.specs.Lowest.{FirstFailing}
use Rattle.slr.specs.States.{columns_of}
use Rattle.slr.specs.Cells.{reduce_from, accept_cell, empty_cell, most_states}

-- how many rows the cells make
abbrev pub rows_in : Grammar → List ℕ → ℕ
rows_in g table = length table / columns_of g

-- with T tokens, P productions and so many rows, a number fits under a column: it is empty; under a token a state to
-- shift to; under a token or the end mark a production to reduce by; at the end mark accept; under a nonterminal a
-- state to move to
pub data NumberFits (T P rows column number : ℕ) : Type 0 where
  empty : number ≡ empty_cell → NumberFits T P rows column number
  shifts : column < T → number < rows → NumberFits T P rows column number
  reduces : {p : ℕ} → column ≤ T → p < P → number ≡ reduce_from + p → NumberFits T P rows column number
  accepts : column ≡ T → number ≡ accept_cell → NumberFits T P rows column number
  moves : T < column → number < rows → NumberFits T P rows column number

-- cell i, which stands in column i % columns, fits
abbrev pub SlrCellFits : Grammar → (table : List ℕ) → ℕ → Type 0
SlrCellFits g table i =
    NumberFits g.tokens (length g.productions) (rows_in g table) (i % columns_of g) (get_or table i empty_cell)

-- whole rows, at least one and at most 256
pub record SlrSized (g : Grammar) (table : List ℕ) : Type 0 where
  pub whole : length table % columns_of g ≡ 0
  pub some : 1 ≤ rows_in g table
  pub few : rows_in g table ≤ most_states

-- and every cell fits
pub record SlrFits (g : Grammar) (table : List ℕ) : Type 0 where
  pub sized : SlrSized g table
  pub cells : (i : ℕ) → i < length table → SlrCellFits g table i

-- the place of refusal 9: the length given, or the first cell that does not fit
pub data SlrMisfit (g : Grammar) (table : List ℕ) : ℕ → Type 0 where
  length_given : ¬ SlrSized g table → SlrMisfit g table (length table)
  cell : {i : ℕ}
      → SlrSized g table
      → i < length table
      → FirstFailing (SlrCellFits g table) (length table) i
      → SlrMisfit g table i
