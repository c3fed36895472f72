-- The table of actions and moves in 16-bit cells, row by row: tokens, end mark, nonterminals.
-- Document 02, W12: "a state's number for a shift or move, 512 + p for reducing by p, 1,023 accept, 65,535 empty".
use Rattle.std.specs.Prelude.{◌≡◌, true, false, List, ℕ, ◌+◌, ◌-◌, ◌*◌, ◌/◌, ◌%◌, ◌<◌, eqb, leb, ltb, length, get_or}
use Rattle.std.proofs.Math.Option.{Option, some, none}
use Rattle.grammar.specs.declared.Symbol.TheVariants.{Nonterminal}
use Rattle.grammar.specs.Grammar.{Form, Grammar, Column, token, endmark}
use Rattle.slr.specs.States.{columns_of, LeadsTo}
use Rattle.slr.specs.Actions.{Action, shift, reduce, accept, Acts}

abbrev pub reduce_from : ℕ
reduce_from = 512

abbrev pub accept_cell : ℕ
accept_cell = 1023

abbrev pub empty_cell : ℕ
empty_cell = 65535

abbrev pub most_states : ℕ
most_states = 256

-- the number of an action
unfoldable pub code_of : Action → ℕ
code_of (shift j) = j
code_of (reduce p) = reduce_from + p
code_of accept = accept_cell

-- the action of a number under a token or at the end mark
unfoldable pub action_of : ℕ → Option Action
action_of v =
    elim (eqb v empty_cell) [
      | true ↦ none
      | false ↦
          elim (eqb v accept_cell) [
            | true ↦ some accept
            | false ↦ elim (leb reduce_from v) [ true ↦ some (reduce (v - reduce_from)) | false ↦ some (shift v) ]
          ]
    ]

-- the move of a number under a nonterminal
unfoldable pub move_of : ℕ → Option ℕ
move_of v = elim (eqb v empty_cell) [ true ↦ none | false ↦ some v ]

-- what a table says, cell by cell; past its end and under what is no token or nonterminal, nothing
module _ (g : Grammar) (table : List ℕ) where
  abbrev pub number_in : ℕ → ℕ → ℕ
  number_in s column = get_or table (s * columns_of g + column) empty_cell

  unfoldable pub action_in : ℕ → Column → Option Action
  action_in s (token t) = elim (ltb t g.tokens) [ true ↦ action_of (number_in s t) | false ↦ none ]
  action_in s endmark = action_of (number_in s g.tokens)

  unfoldable pub move_in : ℕ → ℕ → Option ℕ
  move_in s A = elim (ltb A g.nonterminals) [ true ↦ move_of (number_in s (g.tokens + 1 + A)) | false ↦ none ]

-- token t is column t, and the end mark column T
pub data ActionColumn (g : Grammar) : Column → ℕ → Type 0 where
  under_token : {t : ℕ} → t < g.tokens → ActionColumn g (token t) t
  under_end : ActionColumn g endmark g.tokens

module _ (g : Grammar) (paths : List Form) where
  -- the number claims cell i, which is of row i / columns and column i % columns: an action or a move of the row's
  -- state
  pub data SlrClaims (i : ℕ) : ℕ → Type 0 where
    claims_action : {c : Column} {a : Action}
        → ActionColumn g c (i % columns_of g)
        → Acts g paths (i / columns_of g) c a
        → SlrClaims i (code_of a)
    claims_move : {A j : ℕ}
        → i % columns_of g ≡ g.tokens + 1 + A
        → LeadsTo g paths (i / columns_of g) (Nonterminal A) j
        → SlrClaims i j

  -- a cell holds the only number that claims it, or 65,535 where none does
  pub data SlrHolds (i : ℕ) : ℕ → Type 0 where
    only : {v : ℕ} → SlrClaims i v → ((u : ℕ) → SlrClaims i u → u ≡ v) → SlrHolds i v
    unclaimed : ((u : ℕ) → ¬ SlrClaims i u) → SlrHolds i empty_cell

  -- whole rows, one for each state; with two claims on a cell there is no such table
  pub record SlrTableOf (table : List ℕ) : Type 0 where
    pub sized : length table ≡ columns_of g * length paths
    pub holds : (i : ℕ) → i < length table → SlrHolds i (get_or table i empty_cell)
