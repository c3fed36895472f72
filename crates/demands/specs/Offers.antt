-- A token string offered column by column to a run in progress, and what that has to do with a run on a judged book.
-- Document 01, "Running and expanding": the start symbol on the stack, each token, then the end mark. Document 02, W7:
-- who offers again keeps the larger of two depths.
use Rattle.std.specs.Prelude.{◌≡◌, ◌≢◌, List, [], ◌∷◌, ℕ, ◌%◌, max, set, Result, Ok, Err}
use Rattle.grammar.specs.Grammar.{Grammar}
use Rattle.grammar.specs.declared.Symbol.TheVariants.{Nonterminal}
use Rattle.answers.specs.declared.Answer.{Answer}
use Rattle.answers.specs.Answers.{at_depth}
use Rattle.answers.specs.Buffers.{cleared}
use Rattle.reader.specs.Book.{byte_of}
use Rattle.book.specs.Columns.{outlined, grammar_in}
use Rattle.book.specs.declared.Index.{Index}
use Rattle.offer.specs.Resuming.{OfferOutcome}
use Rattle.offer.specs.Stops.{values_of, deepest_in}
use Rattle.offer.specs.declared.Halt.TheVariants.{Refused}
use Rattle.offer.specs.declared.Progress.{Progress}
use Rattle.offer.specs.Reply.{Reply}

-- T and the start symbol of a reading; 0 where the book was refused
abbrev pub tokens_in : Result Index Answer → ℕ
tokens_in (Ok index) = index.outline.tokens
tokens_in (Err answer) = 0

abbrev pub start_in : Result Index Answer → ℕ
start_in (Ok index) = index.outline.start
start_in (Err answer) = 0

-- the start symbol in the stack's first cell, as `put_start` writes it, and the counts with which a run then begins
abbrev pub start_on : Result Index Answer → List ℕ → List ℕ
start_on reading stack = set stack 0 (byte_of (Nonterminal (start_in reading % 128)))

abbrev pub at_start : Progress
at_start = record { height = 1; listed = 0; matched = 0; deepest = 1 }

-- an offer for each token, each from where the one before left the run, and then one of the end mark, column T; an
-- offer that is not taken is the last
pub data OfferedInTurn (book : List ℕ) (reading : Result Index Answer) (table : List ℕ)
    : (tokens : List ℕ) → Progress → (stack list : List ℕ) → Reply → List ℕ → List ℕ → Type 0 where
  at_end : {at : Progress} {stack list : List ℕ} {r : Reply} {stack' list' : List ℕ}
      → OfferOutcome book reading table (tokens_in reading) at stack list r stack' list'
      → OfferedInTurn book reading table [] at stack list r stack' list'
  stops : {t : ℕ} {w : List ℕ} {at : Progress} {stack list : List ℕ} {r : Reply} {stack' list' : List ℕ}
      → OfferOutcome book reading table t at stack list r stack' list'
      → ((next : Progress) → r ≢ Ok next)
      → OfferedInTurn book reading table (t ∷ w) at stack list r stack' list'
  goes_on : {t : ℕ} {w : List ℕ} {at next : Progress} {stack list stack₁ list₁ : List ℕ} {r : Reply}
      {stack' list' : List ℕ}
      → OfferOutcome book reading table t at stack list (Ok next) stack₁ list₁
      → OfferedInTurn book reading table w next stack₁ list₁ r stack' list'
      → OfferedInTurn book reading table (t ∷ w) at stack list r stack' list'

-- the most stack cells that any of the offers tells of
unfoldable pub deepest_of : {book : List ℕ} {reading : Result Index Answer} {table tokens : List ℕ} {at : Progress}
    {stack list : List ℕ} {r : Reply} {stack' list' : List ℕ}
    → OfferedInTurn book reading table tokens at stack list r stack' list'
    → ℕ
deepest_of (at_end {r = r} o) = deepest_in r
deepest_of (stops {r = r} o other) = deepest_in r
deepest_of (goes_on {next = next} o rest) = max next.deepest (deepest_of rest)

-- the grammar that a reading tells of; where the book was refused, the one that has nothing
abbrev pub grammar_on : List ℕ → Result Index Answer → Grammar
grammar_on book (Ok index) = grammar_in book index
grammar_on book (Err answer) = outlined book [] (record { tokens = 0; nonterminals = 0; start = 0; productions = 0 })

-- offers with the last reply r, of which `deepest` cells are the most, that leave stack and list so make the run with
-- the answer a, which was lent `stack`: the paper's values of the reply at that depth are the run's answer, and the
-- list is the same; the run's stack is theirs with every cell 0, but where the book was refused the reply is that
-- refusal, and each is as it was lent
pub record MakesRun (book : List ℕ) (reading : Result Index Answer) (table stack : List ℕ) (r : Reply) (deepest : ℕ)
    (offered_stack offered_list : List ℕ) (a : Answer) (stack' list' : List ℕ) : Type 0 where
  pub answer : a ≡ at_depth deepest (values_of (grammar_on book reading) table r)
  pub refused : {answer : Answer} → reading ≡ Err answer → r ≡ Err (Refused answer)
  pub list : list' ≡ offered_list
  pub stack_cleared : {index : Index} → reading ≡ Ok index → stack' ≡ cleared offered_stack
  pub stack_kept : {answer : Answer}
      → reading ≡ Err answer
      → (stack' ≡ stack) × (offered_stack ≡ start_on reading stack)
