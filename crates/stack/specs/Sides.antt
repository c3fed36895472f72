-- The right side of a production where its record stands. Document 01, "The book".
use Rattle.std.specs.Prelude.{◌≡◌, List, ℕ, ◌+◌, get_or}
use Rattle.reader.specs.Fields.{form_in}
use Rattle.book.specs.declared.Index.{Index}
use Rattle.book.specs.Columns.{grammar_in}
use Rattle.machine.specs.Room.{right_of}

-- the right side of production p is the first so many symbols of its record
pub record RightSide (book : List ℕ) (index : Index) (p count : ℕ) : Type 0 where
  pub symbols : right_of (grammar_in book index) p ≡ form_in book (get_or index.places p 0 + 4) count
