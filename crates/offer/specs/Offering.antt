-- An offer as the code has it: a run in progress by its counts and its buffers, and what becomes of it.
-- Document 01, "Running and expanding". Only contracts inside the crate cite what stands here.
use Rattle.std.specs.Prelude.{◌≡◌, List, ℕ, ◌+◌, ◌-◌, ◌^◌, ◌≤◌, ◌<◌, length, Option}
use Rattle.grammar.specs.Grammar.{Grammar, Every}
use Rattle.answers.specs.Buffers.{over, counted}
use Rattle.book.specs.declared.Index.{Index}
use Rattle.book.specs.Columns.{grammar_in}
use Rattle.table.specs.Table.{column_of, cell_of}
use Rattle.machine.specs.Machine.{State, Offered, final, offer}
use Rattle.machine.specs.Room.{right_of}
use Rattle.stack.specs.Stack.{Spelled, stacked}
use Rattle.stack.specs.Ahead.{column_in}
use Rattle.offer.specs.Resuming.{progress_of, reported}
use Rattle.offer.specs.declared.Progress.{Progress}
use Rattle.offer.specs.Reply.{Reply}

-- the buffers, which once were stack₀ and list₀, hold the state s
pub record Holds (s : State) (at : Progress) (stack₀ list₀ stack list : List ℕ) : Type 0 where
  pub height : at.height ≡ length s.stack
  pub listed : at.listed ≡ length s.listed
  pub matched : at.matched ≡ s.matched
  pub deepest : at.deepest ≡ s.height
  pub moves : s.moves ≡ at.listed + at.matched
  pub highest : length s.stack ≤ s.height
  pub stack_room : s.height ≤ counted stack₀
  pub list_room : length s.listed ≤ counted list₀
  pub spelled : Every Spelled s.stack
  pub stack_cells : stack ≡ stacked s.stack s.height stack₀
  pub list_cells : list ≡ over s.listed list₀

-- the counts are within the room, and one token more can be counted
pub record Ready (at : Progress) (stack list : List ℕ) : Type 0 where
  pub height : at.height ≤ counted stack
  pub listed : at.listed ≤ counted list
  pub matched : at.matched < 2 ^ 63

-- what an offer with the outcome o answers and leaves
pub record Offering (o : Offered) (stack₀ list₀ : List ℕ) (r : Reply) (stack list : List ℕ) : Type 0 where
  pub answer : r ≡ reported o
  pub holds : Holds (final o) (progress_of (final o)) stack₀ list₀ stack list

-- the counts after a token is matched and popped
abbrev pub matched_at : Progress → Progress
matched_at at =
    record { height = at.height - 1; listed = at.listed; matched = at.matched + 1; deepest = at.deepest }

-- a column below T is a token, any other the end mark
pub record ColumnAhead (column T : ℕ) (r : Option ℕ) : Type 0 where
  pub same : (g : Grammar) → g.tokens ≡ T → column_in r ≡ column_of g column

-- whatever state the buffers hold, they come to what the machine makes of it
pub record OfferedAt (book : List ℕ) (index : Index) (table : List ℕ) (ahead : Option ℕ) (at : Progress)
    (stack list : List ℕ) (r : Reply) (stack' list' : List ℕ) : Type 0 where
  pub offers : (s : State)
      → Holds s at stack list stack list
      → Offering
      (offer
      (right_of (grammar_in book index))
      (cell_of (grammar_in book index) table)
      (counted stack)
      (counted list)
      (counted list - at.listed)
      (column_in ahead)
      s)
      stack
      list
      r
      stack'
      list'
