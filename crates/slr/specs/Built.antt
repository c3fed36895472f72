-- Tables built without conflict from a book, whoever made them, and the book of the textbook's example.
-- Document 02, W12: "for a conflict-free table"; 16 where the states are more than 256.
use Rattle.std.specs.Prelude.{List, [], ◌∷◌, ◌++◌, ℕ, ◌≤◌, length}
use Rattle.grammar.specs.Grammar.{Form, Grammar}
use Rattle.book.specs.Examples.{GR, PR}
use Rattle.book.specs.Judging.{Serves}
use Rattle.slr.specs.States.{NumberedStates}
use Rattle.slr.specs.Cells.{most_states, SlrTableOf}

-- the book serves a grammar of no more than 256 states, and each cell is the only claim on it, or empty
pub record SlrBuilt (book table : List ℕ) : Type 0 where
  pub grammar : Grammar
  pub serves : Serves book grammar
  pub paths : List Form
  pub numbered : NumberedStates grammar paths
  pub few : length paths ≤ most_states
  pub table_of : SlrTableOf grammar paths table

-- S → A a, S → b, A → A a, A → empty
unfoldable pub left_book : List ℕ
left_book =
    GR (0x02 ∷ 0x02 ∷ 0x00 ∷ 0x04 ∷ [])
    ++ PR (0x00 ∷ 0x02 ∷ 0x81 ∷ 0x00 ∷ [])
    ++ PR (0x00 ∷ 0x01 ∷ 0x01 ∷ [])
    ++ PR (0x01 ∷ 0x02 ∷ 0x81 ∷ 0x00 ∷ [])
    ++ PR (0x01 ∷ 0x00 ∷ [])
