-- Where a nonterminal stands in a right side, and what comes after it: what working out FOLLOW goes through.
-- Document 01, "Sets and table".
use Rattle.std.specs.Prelude.{◌∷◌, ℕ}
use Rattle.grammar.specs.declared.Symbol.{Symbol}
use Rattle.grammar.specs.declared.Symbol.TheVariants.{Nonterminal}
use Rattle.grammar.specs.Grammar.{Form}

-- an occurrence of A in a form, with v after it
pub data Behind (A : ℕ) (v : Form) : Form → Type 0 where
  first : Behind A v (Nonterminal A ∷ v)
  later : {s : Symbol} {α : Form} → Behind A v α → Behind A v (s ∷ α)
