-- What numbering promises, one page: each theorem under the sentence that it proves.
use mathlib.Core.Path.{◌≡◌, sym, ap, ◌∙◌}
use mathlib.Core.Logic.{◌↔◌}
use mathlib.Core.List.{List, [], ◌∷◌, ◌++◌}
use mathlib.Core.Option.{Option, some, none}
use Prim.Native.Nat.{ℕ, ◌+◌, ◌*◌, ◌≤◌, ◌<◌}
use native.Mathlib.Omega.{arith}
use lib.ListN.{length, get_elem?}
use lib.Seq.{take_all}
use Rattle.numbering.specs.Numbering.{Automaton, Names, Lawful, Decided, IsState, Follows, Found, FoundAll}
use Rattle.numbering.specs.Example.{top, left, right, corners}
use Rattle.numbering.specs.Numbering.{TooMany, Ending, Begins, Reached, ManyReached, Alike}
use Rattle.numbering.proofs.Places.{begins_take}
use Rattle.numbering.proofs.Agreement.{is_itself, is_same}
use Rattle.numbering.proofs.Beginning.{shorter_begins, begins_length, no_longer}
use Rattle.numbering.proofs.Reaching.{reached_state, state_reached}
use Rattle.numbering.proofs.Counting.{many_whole, too_many_whole, reached_too_many}
use Rattle.numbering.proofs.Turns as turns
use Rattle.numbering.proofs.Deciding as deciding
use Rattle.numbering.proofs.Counting as counting
use Rattle.numbering.proofs.Rows as rows
use Rattle.numbering.proofs.Exchange as exchange
use Rattle.numbering.proofs.Example as example

module _ {A : Type 0} {m : Automaton A} where
  -- with no start there is nothing to find
  pub found_nothing : ((x : A) → ¬ m.Start x) → FoundAll m [] []
  found_nothing = turns.found_nothing

  -- else the start alone is found before the first cell
  pub found_begun : Lawful m → (x : A) → m.Start x → Found m (x ∷ []) []
  found_begun = turns.found_begun

  -- what follows in the cell of row r and column c is where the state of that row leads by that column
  pub follows_at : (states : List A) (t r c : ℕ) (x y : A)
      → t ≡ r * m.columns + c
      → c < m.columns
      → get_elem? states r ≡ some x
      → Follows m states t y ↔ m.Moves x c y
  follows_at = turns.follows_at

  -- where it can be decided what follows and what is the same, the search ends for every limit
  pub search_ends : Lawful m → Decided m → (limit : ℕ) → Ending m limit
  search_ends = deciding.search_ends

module _ {A : Type 0} {m : Automaton A} {states : List A} {cells : List (Option ℕ)}
    (f : Found m states cells)
    (room : length cells < m.columns * length states) where
  -- one cell more, where nothing follows
  pub turn_nothing : ((y : A) → ¬ Follows m states (length cells) y) → Found m states (cells ++ (none ∷ []))
  turn_nothing = turns.turn_nothing f room

  -- where a state follows that was met before
  pub turn_met : (j : ℕ) (y : A)
      → Follows m states (length cells) y
      → IsState m states j y
      → Found m states (cells ++ (some j ∷ []))
  turn_met = turns.turn_met f room

  -- where a new state follows
  pub turn_new : Lawful m
      → (y : A)
      → Follows m states (length cells) y
      → ((j : ℕ) → ¬ IsState m states j y)
      → Found m (states ++ (y ∷ [])) (cells ++ (some (length states) ∷ []))
  turn_new = turns.turn_new f room

module _ {A : Type 0} {m : Automaton A} (law : Lawful m) {states : List A} {cells : List (Option ℕ)} where
  -- with all cells, each names the state to which its row's state leads
  pub cell_named : FoundAll m states cells
      → (r c j : ℕ) (x : A)
      → c < m.columns
      → IsState m states r x
      → Names cells (r * m.columns + c) j ↔ ((y : A) × m.Moves x c y × IsState m states j y)
  cell_named = rows.cell_named law

  -- and is none exactly if that leads nowhere
  pub cell_none : FoundAll m states cells
      → (r c : ℕ) (x : A)
      → c < m.columns
      → IsState m states r x
      → (get_elem? cells (r * m.columns + c) ≡ some none) ↔ ((y : A) → ¬ m.Moves x c y)
  cell_none = rows.cell_none law

module _ {A : Type 0} {m m' : Automaton A} where
  -- what is found in one automaton is found in each that is like it
  pub alike_back : Alike m m' → Alike m' m
  alike_back = exchange.alike_back

  pub found_alike : Alike m m'
      → {states : List A} {cells : List (Option ℕ)}
      → Found m states cells
      → Found m' states cells
  found_alike a = exchange.found_alike a

  pub found_all_alike : Alike m m'
      → {states : List A} {cells : List (Option ℕ)}
      → FoundAll m states cells
      → FoundAll m' states cells
  found_all_alike a = exchange.found_all_alike a

  pub too_many_alike : Alike m m' → {limit : ℕ} → TooMany m limit → TooMany m' limit
  too_many_alike a = exchange.too_many_alike a

-- an automaton of three states and two columns: all of them are found, and they are more than two
pub corners_lawful : Lawful corners
corners_lawful = example.corners_lawful

pub corners_decided : Decided corners
corners_decided = example.corners_decided

pub corners_found : FoundAll corners (top ∷ right ∷ left ∷ []) (some 1 ∷ some 2 ∷ some 1 ∷ none ∷ some 0 ∷ some 1 ∷ [])
corners_found = example.corners_found

pub corners_too_many : TooMany corners 2
corners_too_many = example.corners_too_many

module _ {A : Type 0} {m : Automaton A} (law : Lawful m)
    {states states' : List A} {cells cells' : List (Option ℕ)} where
  -- of two findings the one with no more cells begins the other
  pub found_begins : Found m states cells
      → Found m states' cells'
      → length cells ≤ length cells'
      → Begins m states states' cells cells'
  found_begins = shorter_begins law

  -- what was found so far begins the whole
  pub found_beginning : Found m states cells → FoundAll m states' cells' → Begins m states states' cells cells'
  found_beginning f g = shorter_begins law f g.found (no_longer law f g)

  -- what begins the whole has no more states
  pub beginning_shorter : Begins m states states' cells cells' → length states ≤ length states'
  beginning_shorter = begins_length law

  -- two that found everything have the same cells, as many states, and one by one the same states
  pub found_unique : FoundAll m states cells
      → FoundAll m states' cells'
      → (cells ≡ cells')
      × (length states ≡ length states')
      × ((i : ℕ) (x : A) → IsState m states i x ↔ IsState m states' i x)
  found_unique f g =
      let fewer = no_longer law g.found f in
      let there : Begins m states states' cells cells' = found_beginning f.found g in
      let back : Begins m states' states cells' cells = shorter_begins law g.found f.found fewer in (
        there.cells_begin ∙ take_all (length cells) cells' fewer,
        omega (arith, begins_length law there, begins_length law back),
        λ i x. (there.states_begin i x, back.states_begin i x),
      )

  -- where only equal states are the same, the states are equal
  pub states_unique : ((x y : A) → m.Same x y → x ≡ y)
      → FoundAll m states cells
      → FoundAll m states' cells'
      → states ≡ states'
  states_unique equal f g =
      begins_take states states' place ∙ take_all (length states) states' (omega (arith, (found_unique f g).1))
    where
      place : (i : ℕ) (x : A) → get_elem? states i ≡ some x → get_elem? states' i ≡ some x
      place i x e =
          let is : IsState m states' i x = ((found_unique f g).2 i x).0 (is_itself law e) in
          is.at ∙ ap {B = Option A} some (sym (equal x is.state is.same))

module _ {A : Type 0} {m : Automaton A} (law : Lawful m)
    {states : List A} {cells : List (Option ℕ)} (f : FoundAll m states cells) where
  -- the states of the whole are, up to being the same, those that some string of columns leads to from the start
  pub found_reaches : (x : A) → ((i : ℕ) × IsState m states i x) ↔ ((y : A) × Reached m y × m.Same y x)
  found_reaches x = (
    λ (i, is). state_reached law f.found i x is,
    λ (y, reached, same). let (j, is) = reached_state law f reached in (j, is_same law (law.symmetric y x same) is),
  )

  -- too many can be found exactly if the whole has too many states
  pub too_many_found : (limit : ℕ) → TooMany m limit ↔ (limit < length states)
  too_many_found limit = (
    λ many. too_many_whole law many f,
    λ more. record { states = states; cells = cells; found = f.found; more = more },
  )

  -- and too many can be reached exactly if it has
  pub many_reached_found : (limit : ℕ) → ManyReached m limit ↔ (limit < length states)
  many_reached_found limit =
      (λ many. many_whole law many f, λ more. counting.too_many_reached law ((too_many_found limit).1 more))

  -- so too many and a whole within the limit exclude each other
  pub too_many_excludes_whole : (limit : ℕ) → TooMany m limit → length states ≤ limit → ⊥
  too_many_excludes_whole limit many few = omega (arith, too_many_whole law many f)

module _ {A : Type 0} {m : Automaton A} (law : Lawful m) {limit : ℕ} where
  -- where too many are found, too many can be reached: for this nothing has to be decided
  pub too_many_reached : TooMany m limit → ManyReached m limit
  too_many_reached = counting.too_many_reached law

  -- where the search ends, too many are found exactly if too many can be reached
  pub too_many_iff : Ending m limit → TooMany m limit ↔ ManyReached m limit
  too_many_iff ends = (counting.too_many_reached law, reached_too_many law ends)
