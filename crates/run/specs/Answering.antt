-- The answer to a reply, and the expected set of a stop, for every grammar with these numbers.
-- Document 01, "Refusals and their numbers" and "Running and expanding". Only contracts inside the crate cite what
-- stands here.
use Rattle.std.specs.Prelude.{◌≡◌, List, ℕ, ◌+◌, Ok, Err}
use Rattle.grammar.specs.Grammar.{Grammar}
use Rattle.sets.specs.Calls.{number}
use Rattle.sets.specs.declared.Set.{Set}
use Rattle.answers.specs.declared.Answer.{Answer}
use Rattle.book.specs.Columns.{Outlines}
use Rattle.book.specs.declared.columns.Outline.{Outline}
use Rattle.machine.specs.declared.Reason.{Reason}
use Rattle.offer.specs.Stops.{filled_below, expected, values_of, answer_of}
use Rattle.offer.specs.declared.Progress.{Progress}
use Rattle.offer.specs.declared.Halt.TheVariants.{Stopped, Refused}
use Rattle.offer.specs.Reply.{Reply}

-- the filled columns of row A below the last are marked, and then that one too
pub record WithColumn (o : Outline) (table : List ℕ) (A column : ℕ) (before after : Set) : Type 0 where
  pub filled : (g : Grammar)
      → Outlines o g
      → number before ≡ filled_below g table A column
      → number after ≡ filled_below g table A (column + 1)

pub record RowColumns (o : Outline) (table : List ℕ) (A : ℕ) (r : Set) : Type 0 where
  pub filled : (g : Grammar) → Outlines o g → number r ≡ filled_below g table A (g.tokens + 1)

-- the expected set of a stop
pub record Expects (o : Outline) (table : List ℕ) (reason : Reason) (r : Set) : Type 0 where
  pub given : (g : Grammar) → Outlines o g → r ≡ expected g table reason

-- the counts of a reply; where the book was refused there are none
abbrev pub progress_in : Reply → Progress
progress_in (Ok at) = at
progress_in (Err (Stopped reason at)) = at
progress_in (Err (Refused answer)) = record { height = 0; listed = 0; matched = 0; deepest = 0 }

-- the values of a reply, and the answer to it
pub record Values (o : Outline) (table : List ℕ) (reply : Reply) (r : Answer) : Type 0 where
  pub values : (g : Grammar) → Outlines o g → r ≡ values_of g table reply

pub record Answers (o : Outline) (table : List ℕ) (reply : Reply) (r : Answer) : Type 0 where
  pub answer : (g : Grammar) → Outlines o g → r ≡ answer_of g table reply
