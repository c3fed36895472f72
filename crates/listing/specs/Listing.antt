-- The text of a book's listing: its grammar, sets and table, or the refusal. Characters are their ASCII codes.
-- Document 01, "The lister and the examples".
use Rattle.std.specs.Prelude.{List, [], ◌∷◌, ◌++◌, ℕ, ◌+◌, ◌*◌, length}
use Rattle.grammar.specs.Grammar.{Grammar}
use Rattle.answers.specs.declared.Answer.{Answer}
use Rattle.answers.specs.Answers.{refusal}
use Rattle.answers.specs.Refusals.{conflict}
use Rattle.book.specs.Judging.{Refuses, Serves}
use Rattle.first.specs.Numbers.{FirstSets}
use Rattle.follow.specs.Families.{FollowSets}
use Rattle.table.specs.Table.{TableOf, FirstConflict}
use Rattle.showing.specs.Words.{codes}
use Rattle.showing.specs.Lines.{numbers_line, set_lines, row_lines}

-- the words that open a line
abbrev pub grammar_word : List ℕ
grammar_word = codes "grammar"

abbrev pub first_word : List ℕ
first_word = codes "first"

abbrev pub follow_word : List ℕ
follow_word = codes "follow"

abbrev pub refused_word : List ℕ
refused_word = codes "refused"

-- `refused` with number, place, detail
unfoldable pub refused_line : Answer → List ℕ
refused_line a = numbers_line refused_word (a.number ∷ a.place ∷ a.detail ∷ [])

-- `grammar` T N start P
unfoldable pub grammar_line : Grammar → List ℕ
grammar_line g = numbers_line grammar_word (g.tokens ∷ g.nonterminals ∷ g.start ∷ length g.productions ∷ [])

-- the grammar's line, then all `first` lines, all `follow` lines, all `row` lines
unfoldable pub served_text : Grammar → (first follow table : List ℕ) → List ℕ
served_text g first follow table =
    grammar_line g
    ++ (set_lines first_word 0 first
    ++ (set_lines follow_word 0 follow
    ++ row_lines (g.tokens + 1) 0 g.nonterminals table))

-- what is listed of a book; a refusal is its only line
pub data Listing (book : List ℕ) : List ℕ → Type 0 where
  refused : {a : Answer} → Refuses book a → Listing book (refused_line a)
  conflicted : {g : Grammar} {i p q : ℕ}
      → Serves book g
      → FirstConflict g i p q
      → Listing book (refused_line (refusal conflict i (p * 256 + q)))
  served : {g : Grammar} {first follow table : List ℕ}
      → Serves book g
      → FirstSets g first
      → FollowSets g follow
      → TableOf g table
      → Listing book (served_text g first follow table)
