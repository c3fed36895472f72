-- Grammars without an empty right side, and how a symbol then brings a token to the front.
-- Request W11, "Room by formula".
use Rattle.std.specs.Prelude.{◌≡◌, ◌∷◌, ℕ, suc, ◌≤◌, length}
use Rattle.std.proofs.Math.Option.{Option, some}
use Rattle.grammar.specs.declared.Symbol.{Symbol}
use Rattle.grammar.specs.declared.Symbol.TheVariants.{Token, Nonterminal}
use Rattle.grammar.specs.Grammar.{Form, Grammar, Column, token, Rule}

-- no right side is empty
pub record NoEmptyRight (g : Grammar) : Type 0 where
  pub filled : {p A : ℕ} {β : Form} → Rule g p A β → 1 ≤ length β

-- Leads t x k: the symbol x brings the token t to the front in k productions, each from the cell of t; only the first
-- symbol of a right side matters, since nothing in front of it can vanish
pub data Leads (g : Grammar) (cell : ℕ → Column → Option ℕ) (t : ℕ) : Symbol → ℕ → Type 0 where
  there : Leads g cell t (Token t) 0
  through : {p A k : ℕ} {x : Symbol} {β : Form}
      → cell A (token t) ≡ some p
      → Rule g p A (x ∷ β)
      → Leads g cell t x k
      → Leads g cell t (Nonterminal A) (suc k)
