-- What a bottom-up run answers and leaves in the lent buffers, for every book, table, token string and buffer.
-- Document 02, W12; document 01, "Refusals and their numbers" and "Running and expanding".
use Rattle.std.specs.Prelude.{◌≡◌, true, false, List, ℕ, zero, suc, ◌+◌, ◌≤◌, ◌<◌, eqb, length, get_or}
use Rattle.grammar.specs.Grammar.{Grammar}
use Rattle.sets.specs.Sets.{column_place}
use Rattle.sets.specs.declared.Set.{Set}
use Rattle.answers.specs.declared.Answer.{Answer}
use Rattle.answers.specs.Answers.{done, refusal, stop, no_set, at_depth}
use Rattle.answers.specs.Refusals.{room, limit, token, syntax, stack_room, list_room}
use Rattle.answers.specs.Refusals as refusals
use Rattle.answers.specs.Buffers.{counted, cleared, over}
use Rattle.answers.specs.Limits.{longest_string}
use Rattle.book.specs.Judging.{Refuses, Serves}
use Rattle.offer.specs.Stops.{marking}
use Rattle.run.specs.Running.{FirstStrange}
use Rattle.slr.specs.Cells.{empty_cell, number_in, action_in, move_in}
use Rattle.slr.specs.RoomMachine.{full_list, full_stack, wants, SlrOffered, taken, stopped, setting_of}
use Rattle.slr.specs.RoomMachine.{slr_run}
use Rattle.slr.specs.Ends.{slr_final}
use Rattle.slr_run.specs.Fitting.{SlrFits, SlrMisfit}

-- the machine on a book's grammar, what a table says, and the room of the lent buffers
unfoldable pub slr_ran : Grammar → (table tokens stack list : List ℕ) → SlrOffered
slr_ran g table tokens stack list =
    slr_run (setting_of g (action_in g table) (move_in g table) (counted stack) (counted list)) tokens

-- the filled columns of a state's row, as far as so many of them
unfoldable pub slr_filled_below : Grammar → List ℕ → ℕ → ℕ → ℕ
slr_filled_below g table s zero = 0
slr_filled_below g table s (suc j) =
    elim (eqb (number_in g table s j) empty_cell) [
      | true ↦ slr_filled_below g table s j
      | false ↦ marking (column_place j g.tokens) (slr_filled_below g table s j)
    ]

-- what is expected where a state is on top: its filled token columns, and the end mark's
unfoldable pub slr_expected : Grammar → List ℕ → ℕ → Set
slr_expected g table s = record { word = slr_filled_below g table s (g.tokens + 1) }

-- number, place, detail, steps and expected set for each way to end
unfoldable pub slr_values : Grammar → List ℕ → SlrOffered → Answer
slr_values g table (taken s) = done s.steps
slr_values g table (stopped full_list s) = stop room s.matched list_room s.steps no_set
slr_values g table (stopped full_stack s) = stop room s.matched stack_room s.steps no_set
slr_values g table (stopped (wants k) s) = stop syntax s.matched 0 s.steps (slr_expected g table k)

-- and the most states held, state 0 counted
unfoldable pub slr_answered : Grammar → List ℕ → SlrOffered → Answer
slr_answered g table o = at_depth (slr_final o).height (slr_values g table o)

-- what is refused before steps of a book that serves g
pub data SlrBarred (g : Grammar) (table tokens stack : List ℕ) : Answer → Type 0 where
  bad_table : {k : ℕ} → SlrMisfit g table k → SlrBarred g table tokens stack (refusal refusals.table k 0)
  too_long : SlrFits g table
      → longest_string < length tokens
      → SlrBarred g table tokens stack (refusal limit longest_string 0)
  strange : {i : ℕ}
      → SlrFits g table
      → length tokens ≤ longest_string
      → FirstStrange g tokens i
      → SlrBarred g table tokens stack (refusal token i 0)
  no_stack : SlrFits g table
      → length tokens ≤ longest_string
      → ((i : ℕ) → i < length tokens → get_or tokens i 0 < g.tokens)
      → length stack ≡ 0
      → SlrBarred g table tokens stack (refusal room 0 stack_room)

-- steps begin
pub record SlrAdmits (g : Grammar) (table tokens stack : List ℕ) : Type 0 where
  pub fits : SlrFits g table
  pub short : length tokens ≤ longest_string
  pub known : (i : ℕ) → i < length tokens → get_or tokens i 0 < g.tokens
  pub stacked : 1 ≤ length stack

-- a run: refused before steps, with nothing changed, or ended in them
pub data SlrRunOutcome (book table tokens stack list : List ℕ) : Answer → List ℕ → List ℕ → Type 0 where
  refused : {a : Answer} → Refuses book a → SlrRunOutcome book table tokens stack list a stack list
  barred : {g : Grammar} {a : Answer}
      → Serves book g
      → SlrBarred g table tokens stack a
      → SlrRunOutcome book table tokens stack list a stack list
  ended : {g : Grammar}
      → Serves book g
      → SlrAdmits g table tokens stack
      → SlrRunOutcome book table tokens stack list
      (slr_answered g table (slr_ran g table tokens stack list))
      (cleared stack)
      (over (slr_final (slr_ran g table tokens stack list)).listed list)
