-- The grammar of house book H: tokens 0 restore, 1 name, 2 in, 3 and.
-- Document 01, "The lister and the examples".
use Rattle.std.specs.Prelude.{[], ◌∷◌, ℕ}
use Rattle.grammar.specs.declared.Symbol.TheVariants.{Token, Nonterminal}
use Rattle.grammar.specs.Grammar.{Form, Production, Grammar}

abbrev production : ℕ → Form → Production
production A β = record { left = A; right = β }

unfoldable pub house : Grammar
house =
    record {
      tokens = 4;
      nonterminals = 4;
      start = 0;
      productions =
          production 0 (Token 0 ∷ Nonterminal 1 ∷ [])
          ∷ production 1 (Token 1 ∷ Nonterminal 2 ∷ Nonterminal 3 ∷ [])
          ∷ production 2 (Token 2 ∷ Token 1 ∷ [])
          ∷ production 2 []
          ∷ production 3 (Token 3 ∷ Nonterminal 1 ∷ [])
          ∷ production 3 []
          ∷ [];
    }
