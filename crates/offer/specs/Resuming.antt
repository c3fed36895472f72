-- One column offered to a run in progress, for every book, reading, table, buffer and count.
-- Document 01, "Running and expanding": at most 65,535 cells of a buffer count, and so of the matched tokens that the
-- caller tells of. Document 02, W7: the most stack cells held are told of this one offer.
use Rattle.std.specs.Prelude.{◌≡◌, List, ℕ, ◌+◌, ◌-◌, min, length, take, Result, Ok, Err}
use Rattle.grammar.specs.Grammar.{Grammar}
use Rattle.answers.specs.declared.Answer.{Answer}
use Rattle.answers.specs.Buffers.{over, counted}
use Rattle.answers.specs.Limits.{most_cells}
use Rattle.book.specs.declared.Index.{Index}
use Rattle.book.specs.Columns.{grammar_in}
use Rattle.table.specs.Table.{column_of, cell_of}
use Rattle.machine.specs.Machine.{State, Offered, taken, stopped, final, offer}
use Rattle.machine.specs.Room.{right_of}
use Rattle.stack.specs.Stack.{spelled_by, stacked}
use Rattle.offer.specs.Stops.{run_answer, answer_of}
use Rattle.offer.specs.declared.Progress.{Progress}
use Rattle.offer.specs.declared.Halt.TheVariants.{Stopped, Refused}
use Rattle.offer.specs.Reply.{Reply}

-- the reply, the stack and the list
abbrev pub OfferResult : Type 0
OfferResult = Reply × List ℕ × List ℕ

unfoldable pub progress_of : State → Progress
progress_of s =
    record { height = length s.stack; listed = length s.listed; matched = s.matched; deepest = s.height }

-- what the code says of an outcome
unfoldable pub reported : Offered → Reply
reported (taken s) = Ok (progress_of s)
reported (stopped r s) = Err (Stopped r (progress_of s))

-- the counts as far as they count, of buffers that are so long; the most cells held are those now, since what the
-- caller tells of them is not believed
unfoldable pub clamped : Progress → (stack list : ℕ) → Progress
clamped at stack list =
    record {
      height = min at.height (min stack most_cells);
      listed = min at.listed (min list most_cells);
      matched = min at.matched most_cells;
      deepest = min at.height (min stack most_cells);
    }

-- the state that the buffers spell: the stack in its first cells, the top last, and the list
unfoldable pub standing : Progress → (stack list : List ℕ) → State
standing at stack list =
    record {
      stack = spelled_by stack at.height;
      listed = take at.listed list;
      matched = at.matched;
      moves = at.listed + at.matched;
      height = at.height;
    }

unfoldable pub offered_to : Grammar → List ℕ → ℕ → Progress → (stack list : List ℕ) → Offered
offered_to g table column at stack list =
    offer
    (right_of g)
    (cell_of g table)
    (counted stack)
    (counted list)
    (counted list - at.listed)
    (column_of g column)
    (standing at stack list)

-- what the offer answers and leaves: the stack from the bottom up, 0 in the cells that were in use, and what stood
-- beyond
pub record Offers (o : Offered) (stack list : List ℕ) (r : Reply) (stack' list' : List ℕ) : Type 0 where
  pub answer : r ≡ reported o
  pub stack_cells : stack' ≡ stacked (final o).stack (final o).height stack
  pub list_cells : list' ≡ over (final o).listed list

-- an offer on a book's grammar, for all that it may be lent: the counts as far as they count, and the answer to the
-- reply that of the machine's outcome
pub record OfferedOn (g : Grammar) (table : List ℕ) (column : ℕ) (at : Progress) (stack list : List ℕ)
    (r : Reply) (stack' list' : List ℕ) : Type 0 where
  pub offers : Offers
      (offered_to g table column (clamped at (length stack) (length list)) stack list)
      stack
      list
      r
      stack'
      list'
  pub told : answer_of g table r
      ≡ run_answer g table (offered_to g table column (clamped at (length stack) (length list)) stack list)

-- an offer: the refusal of a book that was refused, with nothing changed, or an offer on the grammar that its index
-- tells of
pub data OfferOutcome (book : List ℕ) (reading : Result Index Answer) (table : List ℕ) (column : ℕ) (at : Progress)
    (stack list : List ℕ) : Reply → List ℕ → List ℕ → Type 0 where
  refused : {answer : Answer}
      → reading ≡ Err answer
      → OfferOutcome book reading table column at stack list (Err (Refused answer)) stack list
  offered : {index : Index} {r : Reply} {stack' list' : List ℕ}
      → reading ≡ Ok index
      → OfferedOn (grammar_in book index) table column at stack list r stack' list'
      → OfferOutcome book reading table column at stack list r stack' list'
