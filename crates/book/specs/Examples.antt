-- The books of the paper's examples that this layer judges, byte by byte: house book H, and I with its grammar.
-- Document 01, "The lister and the examples".
use Rattle.std.specs.Prelude.{List, [], ◌∷◌, ◌++◌, ℕ}
use Rattle.grammar.specs.declared.Symbol.TheVariants.{Token, Nonterminal}
use Rattle.grammar.specs.Grammar.{Form, Production, Grammar}

-- a record: its two-byte mark, and what follows
abbrev pub GR : List ℕ → List ℕ
GR bytes = 0x47 ∷ 0x52 ∷ bytes

abbrev pub PR : List ℕ → List ℕ
PR bytes = 0x50 ∷ 0x52 ∷ bytes

abbrev pub production : ℕ → Form → Production
production A β = record { left = A; right = β }

-- the house book with these two bytes as the right side of production 4
abbrev pub house_with : List ℕ → List ℕ
house_with right =
    GR (0x04 ∷ 0x04 ∷ 0x00 ∷ 0x06 ∷ [])
    ++ PR (0x00 ∷ 0x02 ∷ 0x00 ∷ 0x81 ∷ [])
    ++ PR (0x01 ∷ 0x03 ∷ 0x01 ∷ 0x82 ∷ 0x83 ∷ [])
    ++ PR (0x02 ∷ 0x02 ∷ 0x02 ∷ 0x01 ∷ [])
    ++ PR (0x02 ∷ 0x00 ∷ [])
    ++ PR (0x03 ∷ 0x02 ∷ right)
    ++ PR (0x03 ∷ 0x00 ∷ [])

-- H
unfoldable pub house_book : List ℕ
house_book = house_with (0x03 ∷ 0x81 ∷ [])

-- I, with the tokens a 0 and b 1
unfoldable pub useless_book : List ℕ
useless_book =
    GR (0x02 ∷ 0x03 ∷ 0x00 ∷ 0x04 ∷ [])
    ++ PR (0x00 ∷ 0x01 ∷ 0x00 ∷ [])
    ++ PR (0x00 ∷ 0x02 ∷ 0x81 ∷ 0x82 ∷ [])
    ++ PR (0x01 ∷ 0x01 ∷ 0x01 ∷ [])
    ++ PR (0x02 ∷ 0x01 ∷ 0x82 ∷ [])

unfoldable pub useless_grammar : Grammar
useless_grammar =
    record {
      tokens = 2;
      nonterminals = 3;
      start = 0;
      productions =
          production 0 (Token 0 ∷ [])
          ∷ production 0 (Nonterminal 1 ∷ Nonterminal 2 ∷ [])
          ∷ production 1 (Token 1 ∷ [])
          ∷ production 2 (Nonterminal 2 ∷ [])
          ∷ [];
    }
