-- The columns of an index: the grammar that its places find in a book, and by production the left side, the length of
-- the right side and its first byte. For every book and every index.
-- Document 01, "The book".
use Rattle.std.specs.Prelude.{◌≡◌, List, [], ◌∷◌, ℕ, zero, suc, ◌%◌, ◌≤◌, ◌<◌, length, get_or}
use Rattle.grammar.specs.Grammar.{Production, Grammar}
use Rattle.reader.specs.Fields.{left_at, length_at, head_at, right_at}
use Rattle.book.specs.declared.Index.{Index}
use Rattle.book.specs.declared.columns.Outline.{Outline}

-- the production whose record stands at a place
unfoldable pub production_at : List ℕ → ℕ → Production
production_at book at = record { left = left_at book at; right = right_at book at }

-- so many productions, from number p on
unfoldable pub productions_from : (book places : List ℕ) (count p : ℕ) → List Production
productions_from book places zero p = []
productions_from book places (suc count) p =
    production_at book (get_or places p 0) ∷ productions_from book places count (suc p)

-- the grammar of the records at these places; a cell of the stack can name the nonterminals below 128, so the start is
-- taken to be one of them
unfoldable pub outlined : (book places : List ℕ) → Outline → Grammar
outlined book places o =
    record {
      tokens = o.tokens;
      nonterminals = o.nonterminals;
      start = o.start % 128;
      productions = productions_from book places o.productions 0;
    }

-- the index of so many places, whoever wrote them, and these numbers
abbrev pub located : (places : List ℕ) → Outline → Index
located places o = record { outline = o; places = places }

-- the grammar that an index tells of
abbrev pub grammar_in : List ℕ → Index → Grammar
grammar_in book i = outlined book i.places i.outline

-- the outline has the grammar's T and N
pub record Outlines (o : Outline) (g : Grammar) : Type 0 where
  pub tokens : g.tokens ≡ o.tokens
  pub nonterminals : g.nonterminals ≡ o.nonterminals

-- what a field of the record is for each of the first productions, by number, and 0 from there on
pub record Gathered (field : ℕ → ℕ) (places : List ℕ) (count : ℕ) (column : List ℕ) : Type 0 where
  pub sized : length column ≡ 256
  pub inside : (p : ℕ) → p < count → get_or column p 0 ≡ field (get_or places p 0)
  pub beyond : (p : ℕ) → count ≤ p → get_or column p 0 ≡ 0

-- the left side of every production, and the length of its right side
abbrev pub Lefts : List ℕ → Index → List ℕ → Type 0
Lefts book i = Gathered (left_at book) i.places i.outline.productions

abbrev pub Lengths : List ℕ → Index → List ℕ → Type 0
Lengths book i = Gathered (length_at book) i.places i.outline.productions

-- the byte where its symbols start: that of the first symbol, if there is one
abbrev pub Heads : List ℕ → Index → List ℕ → Type 0
Heads book i = Gathered (head_at book) i.places i.outline.productions

-- p is one of the productions, and its left side is A
pub record IsOf (lefts : List ℕ) (o : Outline) (A p : ℕ) : Type 0 where
  pub inside : p < o.productions
  pub left : get_or lefts p 0 ≡ A
