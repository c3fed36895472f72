-- What the test of the plain profile answers, and what a run on a plain book alone answers and leaves in the lent
-- buffers, for every book, token string and buffer. Request W14.
use Rattle.std.specs.Prelude.{List, ℕ}
use Rattle.grammar.specs.Grammar.{Grammar}
use Rattle.grammar.specs.Plain.{Plain, LowestBreak}
use Rattle.answers.specs.declared.Answer.{Answer}
use Rattle.answers.specs.Answers.{done, refusal}
use Rattle.answers.specs.Refusals.{profile}
use Rattle.book.specs.Judging.{Refuses, Serves}
use Rattle.table.specs.Table.{BuiltWithoutConflict}
use Rattle.run.specs.Running.{RunOutcome}

-- refused with 1 to 6, or with 21 at the lowest production that breaks the profile, or done
pub data PlainOutcome (book : List ℕ) : Answer → Type 0 where
  refused : {a : Answer} → Refuses book a → PlainOutcome book a
  unfit : {g : Grammar} {p : ℕ} → Serves book g → LowestBreak g p → PlainOutcome book (refusal profile p 0)
  fits : {g : Grammar} → Serves book g → Plain g → PlainOutcome book (done 0)

-- refused alike, with nothing changed, or what a run on the built table gives with the same buffers
pub data PlainRunOutcome (book tokens stack list : List ℕ) : Answer → List ℕ → List ℕ → Type 0 where
  refused : {a : Answer} → Refuses book a → PlainRunOutcome book tokens stack list a stack list
  unfit : {g : Grammar} {p : ℕ}
      → Serves book g
      → LowestBreak g p
      → PlainRunOutcome book tokens stack list (refusal profile p 0) stack list
  runs : {table : List ℕ} {a : Answer} {stack' list' : List ℕ} (b : BuiltWithoutConflict book table)
      → Plain b.grammar
      → RunOutcome book table tokens stack list a stack' list'
      → PlainRunOutcome book tokens stack list a stack' list'
