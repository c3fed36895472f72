-- What a run answers and leaves in the lent buffers, for every book, table, token string and buffer.
-- Document 01, "Refusals and their numbers" and "Running and expanding"; document 02, W7.
use Rattle.std.specs.Prelude.{◌≡◌, List, [], ◌∷◌, ℕ, ◌<◌, ◌≤◌, length, get_or, drop}
use Rattle.grammar.specs.Grammar.{Grammar}
use Rattle.sets.specs.Calls.{number}
use Rattle.answers.specs.declared.Answer.{Answer}
use Rattle.answers.specs.Answers.{refusal}
use Rattle.answers.specs.Refusals.{room, limit, token, stack_room}
use Rattle.answers.specs.Refusals as refusals
use Rattle.answers.specs.Buffers.{cleared, over}
use Rattle.answers.specs.Limits.{longest_string}
use Rattle.answers.specs.Lowest.{Lowest}
use Rattle.book.specs.Judging.{Refuses, Serves}
use Rattle.table.specs.Fitting.{FitTable, Misfit}
use Rattle.machine.specs.Machine.{final}
use Rattle.offer.specs.Stops.{run_answer}
use Rattle.offer.specs.Strings.{ran}

-- token i is T or above
abbrev pub Strange : (T : ℕ) (tokens : List ℕ) → ℕ → Type 0
Strange T tokens i = T ≤ get_or tokens i 0

-- it is, and none before it
pub record FirstStrange (g : Grammar) (tokens : List ℕ) (i : ℕ) : Type 0 where
  pub inside : i < length tokens
  pub lowest : Lowest (Strange g.tokens tokens) (length tokens) i

-- what is refused before steps of a book that serves g
pub data Barred (g : Grammar) (table tokens stack : List ℕ) : Answer → Type 0 where
  bad_table : {k : ℕ} → Misfit g table k → Barred g table tokens stack (refusal refusals.table k 0)
  too_long : FitTable g table
      → longest_string < length tokens
      → Barred g table tokens stack (refusal limit longest_string 0)
  strange : {i : ℕ}
      → FitTable g table
      → length tokens ≤ longest_string
      → FirstStrange g tokens i
      → Barred g table tokens stack (refusal token i 0)
  no_stack : FitTable g table
      → length tokens ≤ longest_string
      → ((i : ℕ) → i < length tokens → get_or tokens i 0 < g.tokens)
      → length stack ≡ 0
      → Barred g table tokens stack (refusal room 0 stack_room)

-- steps begin
pub record Admits (g : Grammar) (table tokens stack : List ℕ) : Type 0 where
  pub fits : FitTable g table
  pub short : length tokens ≤ longest_string
  pub known : (i : ℕ) → i < length tokens → get_or tokens i 0 < g.tokens
  pub stacked : 1 ≤ length stack

-- a run: refused before steps, with nothing changed, or ended in them
pub data RunOutcome (book table tokens stack list : List ℕ) : Answer → List ℕ → List ℕ → Type 0 where
  refused : {a : Answer} → Refuses book a → RunOutcome book table tokens stack list a stack list
  barred : {g : Grammar} {a : Answer}
      → Serves book g
      → Barred g table tokens stack a
      → RunOutcome book table tokens stack list a stack list
  ended : {g : Grammar}
      → Serves book g
      → Admits g table tokens stack
      → RunOutcome book table tokens stack list
      (run_answer g table (ran g table tokens stack list))
      (cleared stack)
      (over (final (ran g table tokens stack list)).listed list)

-- how many tokens the run matched: none before steps
unfoldable pub matched_in : {book table tokens stack list : List ℕ} {a : Answer} {stack' list' : List ℕ}
    → RunOutcome book table tokens stack list a stack' list'
    → ℕ
matched_in (refused r) = 0
matched_in (barred s b) = 0
matched_in {table = table} {tokens = tokens} {stack = stack} {list = list} (ended {g = g} s a) =
    (final (ran g table tokens stack list)).matched

-- number, place, detail, steps, expected set and depth
unfoldable pub words_of : Answer → List ℕ
words_of a = a.number ∷ a.place ∷ a.detail ∷ a.steps ∷ number a.expected ∷ a.depth ∷ []

-- a run that also shows the part of the tokens not yet matched: the words of the answer, and the part
pub record BesideOutcome (book table tokens stack list words part stack' list' : List ℕ) : Type 0 where
  pub answer : Answer
  pub run : RunOutcome book table tokens stack list answer stack' list'
  pub told : words ≡ words_of answer
  pub shown : part ≡ drop (matched_in run) tokens
