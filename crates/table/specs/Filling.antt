-- What building has at hand once a book is worked out and there is room, and what entering the table comes to.
-- Document 01, "Sets and table" and refusal 8. Only contracts inside the crate cite what stands here.
use Rattle.std.specs.Prelude.{List, ℕ, ◌+◌, ◌*◌, ◌≤◌, length, ⊤, Result, Ok, Err}
use Rattle.grammar.specs.Grammar.{Grammar}
use Rattle.answers.specs.declared.Answer.{Answer}
use Rattle.answers.specs.Answers.{refusal}
use Rattle.answers.specs.Refusals as refusals
use Rattle.answers.specs.Buffers.{over}
use Rattle.book.specs.declared.Index.{Index}
use Rattle.book.specs.Judging.{Indexes}
use Rattle.follow.specs.Families.{Lookaheads}
use Rattle.table.specs.Table.{size, TableOf, FirstConflict}

-- the lookaheads of the grammar that the book serves are known, and there is room for its table
pub record Enterable (book : List ℕ) (index : Index) (ahead table : List ℕ) : Type 0 where
  pub given : Indexes book index
  pub looks : Lookaheads given.grammar ahead
  pub room : size given.grammar ≤ length table

-- the first conflict is refused and the table buffer kept, or the table is entered
pub data Entered (g : Grammar) (table : List ℕ) : Result ⊤ Answer → List ℕ → Type 0 where
  clash : {i p q : ℕ}
      → FirstConflict g i p q
      → Entered g table (Err (refusal refusals.conflict i (p * 256 + q))) table
  entered : {cells : List ℕ}
      → TableOf g cells
      → Entered g table (Ok tt) (over cells table)
