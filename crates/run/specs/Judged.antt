-- What a run on a judged book answers and leaves in the lent buffers, for every reading, table, token string and
-- buffer. Document 01, "Running and expanding"; document 02, W7. The refusals of table and tokens are the caller's to
-- ask for.
use Rattle.std.specs.Prelude.{◌≡◌, List, ℕ, ◌≤◌, length, Result, Ok, Err}
use Rattle.grammar.specs.Grammar.{Grammar}
use Rattle.answers.specs.Answers.{refusal, at_depth}
use Rattle.answers.specs.Refusals.{room, stack_room}
use Rattle.answers.specs.declared.Answer.{Answer}
use Rattle.answers.specs.Buffers.{over, cleared}
use Rattle.book.specs.Columns.{grammar_in}
use Rattle.book.specs.declared.Index.{Index}
use Rattle.machine.specs.Machine.{final}
use Rattle.offer.specs.Stops.{run_answer}
use Rattle.offer.specs.Strings.{ran}

-- on a grammar: without a stack cell steps do not begin
pub data RanOn (g : Grammar) (table tokens stack list : List ℕ) : Answer → List ℕ → List ℕ → Type 0 where
  no_stack : length stack ≡ 0 → RanOn g table tokens stack list (refusal room 0 stack_room) stack list
  ended : 1 ≤ length stack
      → RanOn g table tokens stack list
      (run_answer g table (ran g table tokens stack list))
      (cleared stack)
      (over (final (ran g table tokens stack list)).listed list)

-- on a reading: the refusal of the book, at depth 0 and with nothing changed, or a run on the grammar that its index
-- tells of
pub data JudgedRun (book : List ℕ) (reading : Result Index Answer) (table tokens stack list : List ℕ)
    : Answer → List ℕ → List ℕ → Type 0 where
  refused : {answer : Answer}
      → reading ≡ Err answer
      → JudgedRun book reading table tokens stack list (at_depth 0 answer) stack list
  ran_on : {index : Index} {a : Answer} {stack' list' : List ℕ}
      → reading ≡ Ok index
      → RanOn (grammar_in book index) table tokens stack list a stack' list'
      → JudgedRun book reading table tokens stack list a stack' list'
