-- Programs that do no work, each as what it is to the caller: whatever outcome function has the property is one.
-- Document 01, "How much each promise says", names the demand that each of them breaks.
use Rattle.std.specs.Prelude.{◌≡◌, ◌≢◌, List, ◌∷◌, ℕ, zero, suc, length, get_or}
use Rattle.std.proofs.lemmas.List.Edits.{sets}
use Rattle.grammar.specs.Grammar.{Grammar}
use Rattle.answers.specs.declared.Answer.{Answer}
use Rattle.answers.specs.Answers.{stop, no_set}
use Rattle.answers.specs.Refusals.{syntax}
use Rattle.book.specs.Judging.{Serves}
use Rattle.run.specs.Running.{Admits}
use Rattle.demands.specs.Demands.{Built, Ran, Expanded, Premises}

-- what a program makes of its inputs, whoever wrote it
abbrev pub Builder : Type 0
Builder = (book first follow table : List ℕ) → Built

abbrev pub Runner : Type 0
Runner = (book table tokens stack list : List ℕ) → Ran

abbrev pub Expander : Type 0
Expander = (book list stack output : List ℕ) → Expanded

-- it refuses everything, with whatever number
pub record RefusesEverything (run : Runner) : Type 0 where
  pub refuses : (book table tokens stack list : List ℕ) → (run book table tokens stack list).answer.number ≢ 0

-- it leaves one output in a buffer, whatever the list
pub record FixedOutput (expand : Expander) : Type 0 where
  pub fixed : (book list list' stack output : List ℕ)
      → (expand book list stack output).output ≡ (expand book list' stack output).output

-- it leaves one list in a buffer, whatever the tokens
pub record FixedList (run : Runner) : Type 0 where
  pub fixed : (book table tokens tokens' stack list : List ℕ)
      → (run book table tokens stack list).list ≡ (run book table tokens' stack list).list

-- it answers what it likes, and leaves the list as it was
pub record LeavesList (run : Runner) : Type 0 where
  pub untouched : (book table tokens stack list : List ℕ) → (run book table tokens stack list).list ≡ list

-- it answers what it likes, and leaves the table as it was
pub record LeavesTable (build : Builder) : Type 0 where
  pub untouched : (book first follow table : List ℕ) → (build book first follow table).table ≡ table

-- it judges by the first token, and then only its place moves, with the length
pub record JudgesAtFirst (run : Runner) : Type 0 where
  pub number : (book table stack list : List ℕ) (t : ℕ) (u v : List ℕ)
      → Premises book table (t ∷ u)
      → Premises book table (t ∷ v)
      → length u ≡ length v
      → (run book table (t ∷ u) stack list).answer.number ≡ (run book table (t ∷ v) stack list).answer.number
  pub place : (book table stack list : List ℕ) (t : ℕ) (u v : List ℕ)
      → Premises book table (t ∷ u)
      → Premises book table (t ∷ v)
      → length u ≡ length v
      → (run book table (t ∷ u) stack list).answer.place ≡ (run book table (t ∷ v) stack list).answer.place

-- where steps begin, they go by the number of tokens alone
pub record InventsSteps (run : Runner) : Type 0 where
  pub steps : ℕ → ℕ
  pub told : (book table tokens stack list : List ℕ) {g : Grammar}
      → Serves book g
      → Admits g table tokens stack
      → (run book table tokens stack list).answer.steps ≡ steps (length tokens)

-- the plainest of each kind: one answer, and the same cells written from the front as far as there is room
unfoldable pub writing : Answer → List ℕ → Runner
writing a cells book table tokens stack list = record { answer = a; stack = stack; list = sets list 0 cells }

unfoldable pub writing_output : Answer → List ℕ → Expander
writing_output a cells book list stack output = record { answer = a; stack = stack; output = sets output 0 cells }

-- one answer, and every buffer as it was
unfoldable pub untouching : Answer → Runner
untouching a book table tokens stack list = record { answer = a; stack = stack; list = list }

unfoldable pub untouching_build : Answer → Builder
untouching_build a book first follow table = record { answer = a; first = first; follow = follow; table = table }

-- a string that begins with token 0 is followed to its end, any other is refused at once; so F is refused with 11, as
-- it should be, but at another place
unfoldable pub judged : (token length : ℕ) → Answer
judged zero n = stop syntax n 0 n no_set
judged (suc t) n = stop syntax 0 0 0 no_set

unfoldable pub judging_first : Runner
judging_first book table tokens stack list =
    record { answer = judged (get_or tokens 0 1) (length tokens); stack = stack; list = list }
