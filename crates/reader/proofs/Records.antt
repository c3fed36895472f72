-- Where the record of each production stands in a book, and which bytes stand there.
-- Document 01, "The book": `GR` and four bytes, then for each production `PR`, the left side, the length and the symbols.
use mathlib.Core.Path.{◌≡◌}
use mathlib.Core.List.{List, [], ◌∷◌}
use mathlib.Core.Option.{some}
use Prim.Native.Nat.{ℕ, ◌+◌}
use lib.ListN.{length, take, get_or, get_elem?}
use Rattle.grammar.specs.declared.Symbol.{Symbol}
use Rattle.grammar.specs.Grammar.{Form, Production}
use Rattle.reader.specs.Book.{byte_of}

-- how many bytes the records of these productions have
unfoldable pub records_size : List Production → ℕ
records_size [] = 0
records_size (r ∷ rest) = 4 + length r.right + records_size rest

-- the place of the record of production p: behind the six bytes of `GR` and the records before it
unfoldable pub record_place : List Production → ℕ → ℕ
record_place ps p = 6 + records_size (take p ps)

-- the record of a production stands at its place
pub record RecordAt (bytes : List ℕ) (at A : ℕ) (β : Form) : Type 0 where
  pub first_mark : get_or bytes at 0 ≡ 80
  pub second_mark : get_or bytes (at + 1) 0 ≡ 82
  pub left : get_or bytes (at + 2) 0 ≡ A
  pub size : get_or bytes (at + 3) 0 ≡ length β
  pub symbols : (i : ℕ) {s : Symbol} → get_elem? β i ≡ some s → get_or bytes (at + 4 + i) 0 ≡ byte_of s
