-- How many leading symbols of a form can vanish: counted from the front up to the first that cannot.
-- Document 02, W5: which symbol let it through.
use Rattle.std.specs.Prelude.{◌≡◌, [], ◌∷◌, ℕ, ◌≤◌, ◌<◌, length}
use Rattle.std.proofs.Math.Option.{some}
use Rattle.std.proofs.Math.ListN.{get_elem?}
use Rattle.grammar.specs.declared.Symbol.{Symbol}
use Rattle.grammar.specs.Grammar.{Form, Grammar, empty, First}

-- each of the first n symbols derives the empty string, and the one behind them, if there is one, does not
pub record Vanishes (g : Grammar) (α : Form) (n : ℕ) : Type 0 where
  pub inside : n ≤ length α
  pub before : (i : ℕ) (s : Symbol) → i < n → get_elem? α i ≡ some s → First g (s ∷ []) empty
  pub stays : (s : Symbol) → get_elem? α n ≡ some s → ¬ First g (s ∷ []) empty
