-- The states: the sets of items that paths lead to, numbered in the order found.
-- Source document 000, 3.4.2; document 02, W12: "numbered in the order found, going through each state's symbols tokens
-- first; the empty set is none". Definitions only.
use Rattle.std.specs.Prelude.{◌≡◌, List, [], ◌∷◌, ℕ, ◌+◌, ◌<◌}
use Rattle.std.proofs.Math.Option.{Option, some}
use Rattle.std.proofs.Math.ListN.{get_elem?}
use Rattle.grammar.specs.declared.Symbol.{Symbol}
use Rattle.grammar.specs.declared.Symbol.TheVariants.{Token, Nonterminal}
use Rattle.grammar.specs.Grammar.{Form, Grammar}
use Rattle.numbering.specs.Numbering.{Automaton, FoundAll}
use Rattle.slr.specs.Items.{Item, SameItems, Along}

-- a row has columns for the tokens, the end mark and the nonterminals
abbrev pub columns_of : Grammar → ℕ
columns_of g = g.tokens + 1 + g.nonterminals

module _ (g : Grammar) where
  -- a state is a path, and its set is the set along it; two are the same if their sets are
  abbrev pub SameState : Form → Form → Type 0
  SameState γ δ = SameItems (Along g γ) (Along g δ)

  -- the state γ goes over x to the state δ: the goto has an item, and δ is that set
  pub record GoesTo (γ : Form) (x : Symbol) (δ : Form) : Type 0 where
    pub item : Item
    pub inside : Along g (x ∷ γ) item
    pub same : SameState (x ∷ γ) δ

  -- the column of a symbol: token t's is t, nonterminal A's is T + 1 + A; column T is the end mark's
  pub data SymbolColumn : Symbol → ℕ → Type 0 where
    column_token : {t : ℕ} → t < g.tokens → SymbolColumn (Token t) t
    column_nonterminal : {A : ℕ} → A < g.nonterminals → SymbolColumn (Nonterminal A) (g.tokens + 1 + A)

  -- the state γ goes over the symbol of column c to the state δ
  pub record MovesTo (γ : Form) (c : ℕ) (δ : Form) : Type 0 where
    pub symbol : Symbol
    pub column : SymbolColumn symbol c
    pub goes : GoesTo γ symbol δ

  -- what is numbered: the states, from the empty path on
  abbrev pub collection : Automaton Form
  collection = record { Same = SameState; Start = λ γ. γ ≡ []; Moves = MovesTo; columns = columns_of g }

  -- these are all states, in the order found; a cell names the state that its row's state moves to, if any
  pub record NumberedStates (paths : List Form) : Type 0 where
    pub cells : List (Option ℕ)
    pub found : FoundAll collection paths cells

module _ (g : Grammar) (paths : List Form) where
  -- the item is in the set of state s
  pub record InState (s : ℕ) (i : Item) : Type 0 where
    pub path : Form
    pub at : get_elem? paths s ≡ some path
    pub inside : Along g path i

  -- state s goes over x to state j
  pub record LeadsTo (s : ℕ) (x : Symbol) (j : ℕ) : Type 0 where
    pub from : Form
    pub to : Form
    pub at : get_elem? paths s ≡ some from
    pub there : get_elem? paths j ≡ some to
    pub goes : GoesTo g from x to
