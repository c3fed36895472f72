-- What is at hand where the table of a plain book is made by the tokens that its right sides start with.
-- Request W14. Only contracts inside the crate cite what stands here.
use Rattle.std.specs.Prelude.{List, ℕ}
use Rattle.grammar.specs.Grammar.{Grammar}
use Rattle.grammar.specs.Plain.{Plain}
use Rattle.reader.specs.Book.{Limits}
use Rattle.book.specs.declared.Index.{Index}
use Rattle.book.specs.Judging.{Indexes}
use Rattle.table.specs.Table.{size}
use Rattle.table.specs.Vacancy.{Vacancy}

-- a plain grammar within the limits, and as many vacant cells as its table has
pub record Enterable (g : Grammar) (cells : List ℕ) : Type 0 where
  pub plain : Plain g
  pub limits : Limits g
  pub vacant : Vacancy (size g) cells

-- the index is of a plain book
pub record PlainBook (book : List ℕ) (index : Index) : Type 0 where
  pub given : Indexes book index
  pub plain : Plain given.grammar

-- and these are vacant cells for its table
pub record PlainCells (book : List ℕ) (index : Index) (cells : List ℕ) : Type 0 where
  pub book_is : PlainBook book index
  pub vacant : Vacancy (size book_is.given.grammar) cells
