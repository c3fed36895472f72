-- Two grammars with their states and tables: the one that source document 000, 3.4.2, works out, and house book H.
use Rattle.std.specs.Prelude.{List, [], ◌∷◌, ℕ}
use Rattle.grammar.specs.declared.Symbol.TheVariants.{Token, Nonterminal}
use Rattle.grammar.specs.Grammar.{Form, Production, Grammar}

abbrev production : ℕ → Form → Production
production A β = record { left = A; right = β }

-- S → A a, S → b, A → A a, A → empty; tokens a 0, b 1. No LL(1) table has it, since A repeats to the left.
unfoldable pub left_grammar : Grammar
left_grammar =
    record {
      tokens = 2;
      nonterminals = 2;
      start = 0;
      productions =
          production 0 (Nonterminal 1 ∷ Token 0 ∷ [])
          ∷ production 0 (Token 1 ∷ [])
          ∷ production 1 (Nonterminal 1 ∷ Token 0 ∷ [])
          ∷ production 1 []
          ∷ [];
    }

-- its states: at the start, after b, after S, after A, and after A a
unfoldable pub left_paths : List Form
left_paths =
    []
    ∷ (Token 1 ∷ [])
    ∷ (Nonterminal 0 ∷ [])
    ∷ (Nonterminal 1 ∷ [])
    ∷ (Token 0 ∷ Nonterminal 1 ∷ [])
    ∷ []

-- its table, in columns a, b, the end mark, S and A
unfoldable pub left_table : List ℕ
left_table =
    515 ∷ 1 ∷ 65535 ∷ 2 ∷ 3
    ∷ 65535 ∷ 65535 ∷ 513 ∷ 65535 ∷ 65535
    ∷ 65535 ∷ 65535 ∷ 1023 ∷ 65535 ∷ 65535
    ∷ 4 ∷ 65535 ∷ 65535 ∷ 65535 ∷ 65535
    ∷ 514 ∷ 65535 ∷ 512 ∷ 65535 ∷ 65535
    ∷ []

-- the states of house book H: at the start, after restore, after a command, and so on
unfoldable pub house_paths : List Form
house_paths =
    []
    ∷ (Token 0 ∷ [])
    ∷ (Nonterminal 0 ∷ [])
    ∷ (Token 1 ∷ Token 0 ∷ [])
    ∷ (Nonterminal 1 ∷ Token 0 ∷ [])
    ∷ (Token 2 ∷ Token 1 ∷ Token 0 ∷ [])
    ∷ (Nonterminal 2 ∷ Token 1 ∷ Token 0 ∷ [])
    ∷ (Token 1 ∷ Token 2 ∷ Token 1 ∷ Token 0 ∷ [])
    ∷ (Token 3 ∷ Nonterminal 2 ∷ Token 1 ∷ Token 0 ∷ [])
    ∷ (Nonterminal 3 ∷ Nonterminal 2 ∷ Token 1 ∷ Token 0 ∷ [])
    ∷ (Nonterminal 1 ∷ Token 3 ∷ Nonterminal 2 ∷ Token 1 ∷ Token 0 ∷ [])
    ∷ []

-- its table, in columns restore, name, in, and, the end mark, and the four nonterminals
unfoldable pub house_table : List ℕ
house_table =
    1 ∷ 65535 ∷ 65535 ∷ 65535 ∷ 65535 ∷ 2 ∷ 65535 ∷ 65535 ∷ 65535
    ∷ 65535 ∷ 3 ∷ 65535 ∷ 65535 ∷ 65535 ∷ 65535 ∷ 4 ∷ 65535 ∷ 65535
    ∷ 65535 ∷ 65535 ∷ 65535 ∷ 65535 ∷ 1023 ∷ 65535 ∷ 65535 ∷ 65535 ∷ 65535
    ∷ 65535 ∷ 65535 ∷ 5 ∷ 515 ∷ 515 ∷ 65535 ∷ 65535 ∷ 6 ∷ 65535
    ∷ 65535 ∷ 65535 ∷ 65535 ∷ 65535 ∷ 512 ∷ 65535 ∷ 65535 ∷ 65535 ∷ 65535
    ∷ 65535 ∷ 7 ∷ 65535 ∷ 65535 ∷ 65535 ∷ 65535 ∷ 65535 ∷ 65535 ∷ 65535
    ∷ 65535 ∷ 65535 ∷ 65535 ∷ 8 ∷ 517 ∷ 65535 ∷ 65535 ∷ 65535 ∷ 9
    ∷ 65535 ∷ 65535 ∷ 65535 ∷ 514 ∷ 514 ∷ 65535 ∷ 65535 ∷ 65535 ∷ 65535
    ∷ 65535 ∷ 3 ∷ 65535 ∷ 65535 ∷ 65535 ∷ 65535 ∷ 10 ∷ 65535 ∷ 65535
    ∷ 65535 ∷ 65535 ∷ 65535 ∷ 65535 ∷ 513 ∷ 65535 ∷ 65535 ∷ 65535 ∷ 65535
    ∷ 65535 ∷ 65535 ∷ 65535 ∷ 65535 ∷ 516 ∷ 65535 ∷ 65535 ∷ 65535 ∷ 65535
    ∷ []
