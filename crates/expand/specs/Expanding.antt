-- What an expansion answers and leaves in the lent buffers, for every book, list and buffer.
-- Document 01, "Refusals and their numbers" and "Running and expanding"; document 02, W7.
use Rattle.std.specs.Prelude.{◌≡◌, List, ℕ, ◌≤◌, ◌<◌, length, ⊤, Result, Ok, Err}
use Rattle.grammar.specs.Grammar.{Grammar}
use Rattle.answers.specs.declared.Answer.{Answer}
use Rattle.answers.specs.Answers.{done, refusal, stop, no_set, at_depth}
use Rattle.answers.specs.Refusals.{limit, room, production, stack_room, output_room}
use Rattle.answers.specs.Buffers.{over, counted, cleared}
use Rattle.answers.specs.Limits.{longest_list}
use Rattle.book.specs.Judging.{Refuses, Serves}
use Rattle.machine.specs.Expansion.{Expansion, expansion}
use Rattle.machine.specs.declared.Obstacle.{Obstacle}
use Rattle.machine.specs.declared.Obstacle.TheVariants.{Unfit, FullStack, FullOutput}

-- the paper's number and values for each way to end, after so many productions used and steps
unfoldable pub closing : Result ⊤ Obstacle → (used steps : ℕ) → Answer
closing (Ok tt) used steps = done steps
closing (Err Unfit) used steps = stop production used 0 steps no_set
closing (Err FullStack) used steps = stop room used stack_room steps no_set
closing (Err FullOutput) used steps = stop room used output_room steps no_set

unfoldable pub answered_by : Expansion → Answer
answered_by e = closing e.ending e.progress.used e.progress.moves

-- the answer: those values, and the most stack cells held at any moment
unfoldable pub expand_answer : Expansion → Answer
expand_answer e = at_depth e.progress.height (answered_by e)

-- an expansion: refused before steps, with nothing changed, or ended in them
pub data ExpandOutcome (book list stack output : List ℕ) : Answer → List ℕ → List ℕ → Type 0 where
  refused : {a : Answer} → Refuses book a → ExpandOutcome book list stack output a stack output
  too_long : {g : Grammar}
      → Serves book g
      → longest_list < length list
      → ExpandOutcome book list stack output (refusal limit longest_list 0) stack output
  no_stack : {g : Grammar}
      → Serves book g
      → length list ≤ longest_list
      → length stack ≡ 0
      → ExpandOutcome book list stack output (refusal room 0 stack_room) stack output
  ended : {g : Grammar}
      → Serves book g
      → length list ≤ longest_list
      → 1 ≤ length stack
      → ExpandOutcome book list stack output
      (expand_answer (expansion g (counted stack) (counted output) list))
      (cleared stack)
      (over (expansion g (counted stack) (counted output) list).progress.written output)
