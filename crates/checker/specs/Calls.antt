-- What checking a table answers, for every book and every table, whoever made it.
-- Document 02, W8: a table passes exactly if it is the one that building gives.
use Rattle.std.specs.Prelude.{List, ℕ, ◌+◌, ◌*◌, ◌<◌, get_or, replicate}
use Rattle.grammar.specs.Grammar.{Grammar, Cell, Conflict}
use Rattle.answers.specs.declared.Answer.{Answer}
use Rattle.answers.specs.Answers.{done, refusal}
use Rattle.answers.specs.Limits.{most_nonterminals}
use Rattle.answers.specs.Refusals as refusals
use Rattle.book.specs.Judging.{Refuses, Serves}
use Rattle.first.specs.Numbers.{FirstFamily}
use Rattle.table.specs.Table.{size, row_at, column_at, held, FirstConflict, BuiltWithoutConflict}
use Rattle.table.specs.Fitting.{FitTable, Misfit}

-- cell i holds the only production that claims it, else 255
abbrev pub Right : Grammar → List ℕ → ℕ → Type 0
Right g table i = Cell g (row_at g i) (column_at g i) (held (get_or table i 255))

-- cell i is the first that differs
pub record FirstDifferent (g : Grammar) (table : List ℕ) (i : ℕ) : Type 0 where
  pub inside : i < size g
  pub wrong : ¬ Right g table i
  pub earlier : (j : ℕ) → j < i → Right g table j

-- a book and a table: the refusals 1 to 6 of the book, then 9, then 8 of any cell before 17 of any cell; else it passes
pub data CheckOutcome (book table : List ℕ) : Answer → Type 0 where
  refused : {a : Answer}
      → Refuses book a
      → CheckOutcome book table a
  misfit : {g : Grammar} {k : ℕ}
      → Serves book g
      → Misfit g table k
      → CheckOutcome book table (refusal refusals.table k 0)
  conflict : {g : Grammar} {i p q : ℕ}
      → Serves book g
      → FitTable g table
      → FirstConflict g i p q
      → CheckOutcome book table (refusal refusals.conflict i (p * 256 + q))
  differs : {g : Grammar} {i : ℕ}
      → Serves book g
      → FitTable g table
      → ¬ Conflict g
      → FirstDifferent g table i
      → CheckOutcome book table (refusal refusals.differs i 0)
  passed : BuiltWithoutConflict book table
      → CheckOutcome book table (done 0)

-- and FIRST of each nonterminal is left in a family of sets; of a refused book no member anywhere
pub data CheckedWithFirst (book table : List ℕ) : Answer → List ℕ → Type 0 where
  refused : {a : Answer}
      → Refuses book a
      → CheckedWithFirst book table a (replicate most_nonterminals 0)
  served : {g : Grammar} {a : Answer} {first : List ℕ}
      → Serves book g
      → FirstFamily g first
      → CheckOutcome book table a
      → CheckedWithFirst book table a first
