-- Numbers of leading symbols that can vanish, of forms of the house grammar and of grammar V. Document 02, W5.
use Rattle.std.specs.Prelude.{[], ◌∷◌, ℕ}
use Rattle.grammar.specs.declared.Symbol.TheVariants.{Token, Nonterminal}
use Rattle.grammar.specs.Grammar.{Form, Production, Grammar}
use Rattle.grammar.specs.House.{house}
use Rattle.grammar.specs.Vanishing.{Vanishes}

abbrev production : ℕ → Form → Production
production A β = record { left = A; right = β }

-- the right side of V's production 0
abbrev pub leading_right : Form
leading_right = Nonterminal 1 ∷ Nonterminal 2 ∷ Token 2 ∷ []

-- V: two nonterminals that can vanish stand before a token
unfoldable pub leading : Grammar
leading =
    record {
      tokens = 3;
      nonterminals = 3;
      start = 0;
      productions =
          production 0 leading_right
          ∷ production 1 (Token 0 ∷ [])
          ∷ production 1 []
          ∷ production 2 (Token 1 ∷ [])
          ∷ production 2 []
          ∷ [];
    }

pub record LeadingNumbers : Type 0 where
  pub all : Vanishes house (Nonterminal 2 ∷ Nonterminal 3 ∷ []) 2
  pub two : Vanishes house (Nonterminal 2 ∷ Nonterminal 3 ∷ Token 0 ∷ Nonterminal 2 ∷ []) 2
  pub one : Vanishes house (Nonterminal 2 ∷ Token 0 ∷ Nonterminal 3 ∷ []) 1
  pub of_right_side : Vanishes leading leading_right 2
