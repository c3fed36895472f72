-- Worked examples: books and tables, and what the check of each answers. Documents 01 (H, H1, I) and 02, W8.
use Rattle.std.specs.Prelude.{List, [], ◌∷◌, ℕ, set, take}
use Rattle.answers.specs.declared.Answer.{Answer}
use Rattle.answers.specs.Answers.{done, refusal}
use Rattle.answers.specs.Refusals.{useless, conflict, table, differs}
use Rattle.book.specs.Examples.{house_book, useless_book}
use Rattle.table.specs.Examples.{house_table, conflicted_house_book}

-- a book and a table, and the answer
pub record Example : Type 0 where
  pub book : List ℕ
  pub cells : List ℕ
  pub answer : Answer

abbrev told : List ℕ → List ℕ → Answer → Example
told book cells answer = record { book = book; cells = cells; answer = answer }

-- H and its table; with cell 13 vacant; with cell 4 filled as well; H1 with the table of H, and with cell 0 vacant too:
-- a conflict is told before any difference; the first 19 cells; I, with no cells
unfoldable pub examples : List Example
unfolding house_book useless_book house_table conflicted_house_book
examples =
    told house_book house_table (done 0)
    ∷ told house_book (set house_table 13 255) (refusal differs 13 0)
    ∷ told house_book (set (set house_table 4 0) 13 255) (refusal differs 4 0)
    ∷ told conflicted_house_book house_table (refusal conflict 12 515)
    ∷ told conflicted_house_book (set house_table 0 255) (refusal conflict 12 515)
    ∷ told house_book (take 19 house_table) (refusal table 19 0)
    ∷ told useless_book [] (refusal useless 1 0)
    ∷ []
