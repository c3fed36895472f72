-- The table of the house book as 01 lists it, and the books H1 and J with their grammars.
-- Document 01, "The lister and the examples".
use Rattle.std.specs.Prelude.{List, [], ◌∷◌, ◌++◌, ℕ}
use Rattle.grammar.specs.declared.Symbol.TheVariants.{Token, Nonterminal}
use Rattle.grammar.specs.Grammar.{Grammar}
use Rattle.book.specs.Examples.{GR, PR, production, house_with}

-- the table of H, as 01 lists it
unfoldable pub house_table : List ℕ
house_table =
    (0 ∷ 255 ∷ 255 ∷ 255 ∷ 255 ∷ [])
    ++ (255 ∷ 1 ∷ 255 ∷ 255 ∷ 255 ∷ [])
    ++ (255 ∷ 255 ∷ 2 ∷ 3 ∷ 3 ∷ [])
    ++ (255 ∷ 255 ∷ 255 ∷ 4 ∷ 5 ∷ [])

-- H1
unfoldable pub conflicted_house_book : List ℕ
conflicted_house_book = house_with (0x02 ∷ 0x81 ∷ [])

unfoldable pub conflicted_house : Grammar
conflicted_house =
    record {
      tokens = 4;
      nonterminals = 4;
      start = 0;
      productions =
          production 0 (Token 0 ∷ Nonterminal 1 ∷ [])
          ∷ production 1 (Token 1 ∷ Nonterminal 2 ∷ Nonterminal 3 ∷ [])
          ∷ production 2 (Token 2 ∷ Token 1 ∷ [])
          ∷ production 2 []
          ∷ production 3 (Token 2 ∷ Nonterminal 1 ∷ [])
          ∷ production 3 []
          ∷ [];
    }

-- J
unfoldable pub nested_book : List ℕ
nested_book =
    GR (0x02 ∷ 0x02 ∷ 0x00 ∷ 0x03 ∷ [])
    ++ PR (0x00 ∷ 0x03 ∷ 0x01 ∷ 0x80 ∷ 0x01 ∷ [])
    ++ PR (0x00 ∷ 0x02 ∷ 0x81 ∷ 0x00 ∷ [])
    ++ PR (0x01 ∷ 0x01 ∷ 0x01 ∷ [])

unfoldable pub nested_grammar : Grammar
nested_grammar =
    record {
      tokens = 2;
      nonterminals = 2;
      start = 0;
      productions =
          production 0 (Token 1 ∷ Nonterminal 0 ∷ Token 1 ∷ [])
          ∷ production 0 (Nonterminal 1 ∷ Token 0 ∷ [])
          ∷ production 1 (Token 1 ∷ [])
          ∷ [];
    }
