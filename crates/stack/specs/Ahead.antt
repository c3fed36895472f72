-- What comes next in a string of bytes, none at the end, and the column that it is. Document 01, "Running and
-- expanding".
use Rattle.std.specs.Prelude.{List, [], ◌∷◌, ℕ, Option, Some, None}
use Rattle.grammar.specs.Grammar.{Column, token, endmark}

unfoldable pub ahead_in : List ℕ → Option ℕ
ahead_in [] = None
ahead_in (x ∷ rest) = Some x

-- past the last token comes the end mark
unfoldable pub column_in : Option ℕ → Column
column_in (Some t) = token t
column_in None = endmark
