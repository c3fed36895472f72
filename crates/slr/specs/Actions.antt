-- The table of actions and moves, by the states' items and FOLLOW.
-- Source document 000, 3.4.2, "Construção das Tabelas SLR"; document 02, W12, with FOLLOW as in 01. Definitions only.
use Rattle.std.specs.Prelude.{◌≡◌, ◌↔◌, List, ℕ, length}
use Rattle.std.proofs.Math.Option.{Option, some}
use Rattle.grammar.specs.declared.Symbol.TheVariants.{Token, Nonterminal}
use Rattle.grammar.specs.Grammar.{Form, Grammar, Column, token, endmark, column, Rule, Follow}
use Rattle.slr.specs.Items.{finish, dotted}
use Rattle.slr.specs.States.{InState, LeadsTo}

-- shift to state j, reduce by production p, or accept
pub data Action : Type 0 where
  shift : ℕ → Action
  reduce : ℕ → Action
  accept : Action

module _ (g : Grammar) (paths : List Form) where
  -- state s, facing the column: over a token it shifts to where the token leads; with the dot at the end of A → β it
  -- reduces under what follows A; with S' → S · it accepts at the end mark
  pub data Acts (s : ℕ) : Column → Action → Type 0 where
    shifts : {t j : ℕ} → LeadsTo g paths s (Token t) j → Acts s (token t) (shift j)
    reduces : {p A : ℕ} {β : Form} {c : Column}
        → Rule g p A β
        → InState g paths s (dotted p (length β))
        → Follow g A (column c)
        → Acts s c (reduce p)
    accepts : InState g paths s finish → Acts s endmark accept

  -- a cell is an action exactly if the state acts so, and a move exactly if the nonterminal leads there; so no state
  -- acts in two ways, and past the last state there is nothing
  pub record ExactActions (cell : ℕ → Column → Option Action) (move : ℕ → ℕ → Option ℕ) : Type 0 where
    pub cells : (s : ℕ) (c : Column) (a : Action) → (cell s c ≡ some a) ↔ Acts s c a
    pub moves : (s A j : ℕ) → (move s A ≡ some j) ↔ LeadsTo g paths s (Nonterminal A) j
