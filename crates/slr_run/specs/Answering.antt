-- The answer to a reply, and the expected set of a state, for every grammar with these numbers.
-- Document 02, W12. Only contracts inside the crate cite what stands here.
use Rattle.std.specs.Prelude.{◌≡◌, List, ℕ, ◌+◌}
use Rattle.grammar.specs.Grammar.{Grammar}
use Rattle.sets.specs.Calls.{number}
use Rattle.sets.specs.declared.Set.{Set}
use Rattle.answers.specs.declared.Answer.{Answer}
use Rattle.book.specs.Columns.{Outlines}
use Rattle.book.specs.Judging.{Serves}
use Rattle.book.specs.declared.columns.Outline.{Outline}
use Rattle.slr_run.specs.Running.{slr_filled_below, slr_expected, slr_values, slr_answered, SlrRunOutcome}
use Rattle.slr_run.specs.Stages.{Reply, outcome_in}

-- the filled columns of a state's row below a column are marked, and then that one too
pub record WithColumn (o : Outline) (table : List ℕ) (state column : ℕ) (before after : Set) : Type 0 where
  pub filled : (g : Grammar)
      → Outlines o g
      → number before ≡ slr_filled_below g table state column
      → number after ≡ slr_filled_below g table state (column + 1)

-- all of them
pub record Expects (o : Outline) (table : List ℕ) (state : ℕ) (r : Set) : Type 0 where
  pub given : (g : Grammar) → Outlines o g → r ≡ slr_expected g table state

-- the values of the outcome that a reply tells of, and the answer to it
pub record Values (o : Outline) (table : List ℕ) (reply : Reply) (r : Answer) : Type 0 where
  pub values : (g : Grammar)
      → Outlines o g
      → (stack list : List ℕ)
      → r ≡ slr_values g table (outcome_in reply stack list)

pub record Answers (o : Outline) (table : List ℕ) (reply : Reply) (r : Answer) : Type 0 where
  pub answer : (g : Grammar)
      → Outlines o g
      → (stack list : List ℕ)
      → r ≡ slr_answered g table (outcome_in reply stack list)

-- a run on any book that serves the grammar
pub record RanFor (g : Grammar) (table tokens stack list : List ℕ) (r : Answer) (stack' list' : List ℕ) : Type 0 where
  pub served : {book : List ℕ} → Serves book g → SlrRunOutcome book table tokens stack list r stack' list'
