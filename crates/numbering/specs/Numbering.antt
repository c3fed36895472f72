-- States numbered as they are found: document 02, W3 ("numbered as found") and W12. Definitions only.
use Rattle.std.specs.Prelude.{◌≡◌, ◌↔◌, List, [], ◌∷◌, ℕ, ◌*◌, ◌/◌, ◌%◌, ◌≤◌, ◌<◌, length, take}
use Rattle.std.proofs.Math.Option.{Option, some, none}
use Rattle.std.proofs.Math.ListN.{get_elem?}

-- which states are the same, where it starts, if anywhere, and where each column leads from a state, if anywhere
pub record Automaton (A : Type 0) : Type 1 where
  pub Same : A → A → Type 0
  pub Start : A → Type 0
  pub Moves : A → ℕ → A → Type 0
  pub columns : ℕ

-- cell t names state j
abbrev pub Names : List (Option ℕ) → ℕ → ℕ → Type 0
Names cells t j = get_elem? cells t ≡ some (some j)

module _ {A : Type 0} (m : Automaton A) where
  -- being the same is an equivalence, one state at most is the start, and the same states lead to the same states
  pub record Lawful : Type 0 where
    pub reflexive : (x : A) → m.Same x x
    pub symmetric : (x y : A) → m.Same x y → m.Same y x
    pub transitive : (x y z : A) → m.Same x y → m.Same y z → m.Same x z
    pub one_start : (x y : A) → m.Start x → m.Start y → m.Same x y
    pub one_move : (c : ℕ) (x x' y y' : A) → m.Same x x' → m.Moves x c y → m.Moves x' c y' → m.Same y y'
    pub both_move : (c : ℕ) (x x' y : A) → m.Same x x' → m.Moves x c y → (y' : A) × m.Moves x' c y'

  -- it can be decided whether there is a start, what follows, and whether two states are the same
  pub record Decided : Type 0 where
    pub starts : Dec ((x : A) × m.Start x)
    pub moves : (x : A) (c : ℕ) → Dec ((y : A) × m.Moves x c y)
    pub same : (x y : A) → Dec (m.Same x y)

  -- y is state j, up to being the same
  pub record IsState (states : List A) (j : ℕ) (y : A) : Type 0 where
    pub state : A
    pub at : get_elem? states j ≡ some state
    pub same : m.Same y state

  -- no two states are the same
  abbrev pub Distinct : List A → Type 0
  Distinct states = (i j : ℕ) (x : A) → IsState states i x → IsState states j x → i ≡ j

  -- cell t is column t % columns of row t / columns: there the row's state leads to y
  pub record Follows (states : List A) (t : ℕ) (y : A) : Type 0 where
    pub state : A
    pub row : get_elem? states (t / m.columns) ≡ some state
    pub moves : m.Moves state (t % m.columns) y

  -- the states met so far and the cells worked out so far
  pub record Found (states : List A) (cells : List (Option ℕ)) : Type 0 where
    -- state 0 is the start, and with no start there is no state
    pub first : (x : A) → m.Start x → IsState states 0 x
    pub started : 0 < length states → (x : A) × m.Start x
    -- cells only of states met
    pub within : length cells ≤ m.columns * length states
    -- a cell's number is that of the state which follows
    pub filled : (t j : ℕ) → Names cells t j → (y : A) × Follows states t y × IsState states j y
    -- a cell is none only where nothing follows
    pub empty : (t : ℕ) → get_elem? cells t ≡ some none → (y : A) → ¬ Follows states t y
    pub distinct : Distinct states
    -- each state but 0 stands in a cell of a lower row
    pub born : (j : ℕ) → 0 < j → j < length states → (t : ℕ) × (t / m.columns < j) × Names cells t j
    -- each lower number but 0 stands in an earlier cell
    pub order : (t i j : ℕ) → Names cells t j → 0 < i → i < j → (s : ℕ) × (s < t) × Names cells s i

  -- all cells of all states
  pub record FoundAll (states : List A) (cells : List (Option ℕ)) : Type 0 where
    pub found : Found states cells
    pub all : length cells ≡ m.columns * length states

  -- more states than the limit can be found
  pub record TooMany (limit : ℕ) : Type 0 where
    pub states : List A
    pub cells : List (Option ℕ)
    pub found : Found states cells
    pub more : limit < length states

  -- a search for no more states than the limit ends: all are found, or too many
  pub data Ending (limit : ℕ) : Type 0 where
    whole : {states : List A} {cells : List (Option ℕ)} → FoundAll states cells → length states ≤ limit → Ending limit
    too_many : TooMany limit → Ending limit

  -- what was found begins what was found later
  pub record Begins (states states' : List A) (cells cells' : List (Option ℕ)) : Type 0 where
    pub states_begin : (i : ℕ) (x : A) → IsState states i x → IsState states' i x
    pub cells_begin : cells ≡ take (length cells) cells'

  -- the columns of w lead from x to y
  pub data Leads : A → List ℕ → A → Type 0 where
    here : {x : A} → Leads x [] x
    on : {x y z : A} {c : ℕ} {w : List ℕ} → c < m.columns → m.Moves x c y → Leads y w z → Leads x (c ∷ w) z

  -- some string of columns leads from the start to y
  abbrev pub Reached : A → Type 0
  Reached y = (x : A) × (w : List ℕ) × m.Start x × Leads x w y

  -- more states than the limit can be reached, no two of them the same
  pub record ManyReached (limit : ℕ) : Type 0 where
    pub states : List A
    pub more : limit < length states
    pub reached : (i : ℕ) (x : A) → get_elem? states i ≡ some x → Reached x
    pub distinct : Distinct states

-- two that have the same columns, starts and moves
pub record Alike {A : Type 0} (m m' : Automaton A) : Type 0 where
  pub columns : m.columns ≡ m'.columns
  pub same : (x y : A) → m.Same x y ↔ m'.Same x y
  pub starts : (x : A) → m.Start x ↔ m'.Start x
  pub moves : (x : A) (c : ℕ) (y : A) → c < m.columns → m.Moves x c y ↔ m'.Moves x c y
