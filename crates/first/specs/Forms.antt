-- Records that can be read, and the productions that an index lists.
-- Document 01, "The book": a record is its mark, left side, length, symbols.
use Rattle.std.specs.Prelude.{◌≡◌, List, ℕ, ◌+◌, ◌≤◌, ◌<◌, length, get_or}
use Rattle.grammar.specs.Grammar.{Grammar}
use Rattle.reader.specs.Fields.{length_at}
use Rattle.book.specs.Judging.{places_in, Serves}

-- the record at a place lies within the book
pub record Legible (book : List ℕ) (place : ℕ) : Type 0 where
  pub inside : place + 4 + length_at book place ≤ length book

-- so many records are listed and can be read
pub record Readable (book places : List ℕ) (count : ℕ) : Type 0 where
  pub listed : count ≤ length places
  pub each : (p : ℕ) → p < count → Legible book (get_or places p 0)

-- the book serves the grammar, and these are the places of its records and their number
pub record Lists (book places : List ℕ) (count : ℕ) (g : Grammar) : Type 0 where
  pub serves : Serves book g
  pub placed : places ≡ places_in g.productions
  pub counted : count ≡ length g.productions
