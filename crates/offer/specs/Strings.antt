-- What offering a whole token string comes to, for every grammar, table, token string and buffer.
-- Document 01, "Running and expanding".
use Rattle.std.specs.Prelude.{◌≡◌, List, ℕ, ◌≤◌, length, Err}
use Rattle.grammar.specs.Grammar.{Grammar}
use Rattle.answers.specs.Buffers.{counted, over, cleared}
use Rattle.table.specs.Table.{cell_of}
use Rattle.machine.specs.Machine.{Offered, begun, run_from, final}
use Rattle.machine.specs.Room.{right_of}
use Rattle.machine.specs.declared.Reason.TheVariants.{FullStack}
use Rattle.offer.specs.Resuming.{reported}
use Rattle.offer.specs.declared.Halt.TheVariants.{Stopped}
use Rattle.offer.specs.Reply.{Reply}

-- the machine on a book's grammar, a table, and the room of the lent buffers
unfoldable pub ran : Grammar → (table tokens stack list : List ℕ) → Offered
ran g table tokens stack list =
    run_from (right_of g) (cell_of g table) (counted stack) (counted list) tokens (begun g.start)

-- without a stack cell nothing is done; otherwise the machine's outcome, every stack cell 0, and the productions listed
pub data StringOutcome (g : Grammar) (table tokens stack list : List ℕ) : Reply → List ℕ → List ℕ → Type 0 where
  no_stack : length stack ≡ 0
      → StringOutcome g table tokens stack list
      (Err (Stopped FullStack (record { height = 0; listed = 0; matched = 0; deepest = 0 })))
      stack
      list
  ended : 1 ≤ length stack
      → StringOutcome g table tokens stack list
      (reported (ran g table tokens stack list))
      (cleared stack)
      (over (final (ran g table tokens stack list)).listed list)

-- inside the crate: steps made from the start, before the stack is cleared
pub record Stepped (g : Grammar) (table tokens stack list : List ℕ) (r : Reply) (stack' list' : List ℕ) : Type 0 where
  pub answer : r ≡ reported (ran g table tokens stack list)
  pub lists : list' ≡ over (final (ran g table tokens stack list)).listed list
  pub stack_length : length stack' ≡ length stack
  pub list_length : length list' ≡ length list
