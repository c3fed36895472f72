-- What bottom-up tables promise, one page: each theorem under the sentence that it proves.
use mathlib.Core.Path.{◌≡◌}
use mathlib.Core.Logic.{◌↔◌, ◌⊎◌}
use mathlib.Core.List.{List, reverse}
use mathlib.Core.Option.{Option}
use Prim.Native.Nat.{ℕ, ◌≤◌, ◌<◌}
use native.Mathlib.Omega.{arith}
use lib.ListN.{length}
use Rattle.grammar.specs.Grammar.{Form, spelled, Grammar, Column, Derives, Derivable, WellFormed}
use Rattle.numbering.specs.Numbering.{IsState}
use Rattle.slr.specs.Rightmost.{RightmostSteps, Rightmost, Reduces, states_held}
use Rattle.slr.specs.Items.{Item, Along}
use Rattle.slr.specs.States.{collection, NumberedStates, InState}
use Rattle.slr.specs.Actions.{Action, ExactActions}
use Rattle.slr.specs.Machine.{SlrAccepts}
use Rattle.slr.specs.RoomMachine.{Progress, taken, setting_of, slr_run}
use Rattle.slr.specs.Ends.{EndsAccepting, EndsForRoom}
use Rattle.slr.specs.Cells.{most_states, action_in, move_in, SlrTableOf}
use Rattle.slr.proofs.Rightmost.{rightmost_steps, steps_rightmost, derives_rightmost_of, rightmost_derives}
use Rattle.slr.proofs.States.{path_state, state_some, state_zero}
use Rattle.slr.proofs.Sound.{accepts_reduces}
use Rattle.slr.proofs.Complete.{reduces_runs}
use Rattle.slr.proofs.Unique.{accepting_unique}
use Rattle.slr.proofs.Room.{room_enough, room_lacking}
use Rattle.slr.proofs.RoomSound.{taken_accepts}
use Rattle.slr.proofs.Cells.{table_exact}
use Rattle.slr.proofs.TableUnique.{same_count, same_in, same_cells, table_unique}
-- in any run, whatever the table, steps are productions listed and tokens matched, and there is room for what is held
pub use Rattle.slr.proofs.Spent.{slr_run_spent}
-- the textbook's left-recursive grammar has states and a table that is exact, and accepts a string
pub use Rattle.slr.proofs.Example.{left_formed, left_numbered, left_table_lem, left_exact, left_derivation}
pub use Rattle.slr.proofs.Example.{left_held}
pub use Rattle.slr.proofs.Example.{slr_example}
-- the machine with room on small tables, built and not, ends as it should
pub use Rattle.slr.proofs.Runs.{trials_pass}
-- what a table built from a book says is exact, and a book has one such table at most; the textbook's book has, and H
pub use Rattle.slr.proofs.Built.{slr_built_formed, slr_built_exact, slr_built_unique}
pub use Rattle.slr.proofs.Built.{left_serves, left_built, house_built}

module _ {g : Grammar} where
  -- a rightmost derivation's list, read backwards, is the textbook's chain of rightmost steps
  pub rightmost_chain : {α : Form} {ps : List ℕ} (w : List ℕ)
      → Rightmost g α ps w ↔ RightmostSteps g α (reverse ps) (spelled w)
  rightmost_chain w = (λ d. rightmost_steps d, λ s. steps_rightmost w s)

  -- what derives a token string has a rightmost derivation of it, and conversely
  pub derives_rightmost : {α : Form} (w : List ℕ) → Derives g α (spelled w) ↔ ((ps : List ℕ) × Rightmost g α ps w)
  derives_rightmost w = (λ d. derives_rightmost_of w d, λ r. rightmost_derives r.1)

  -- two numberings of a grammar have as many states, the same sets in the same order, and the same cells
  pub numbering_unique : {paths paths' : List Form}
      (numbered : NumberedStates g paths)
      (other : NumberedStates g paths')
      → (length paths ≡ length paths')
      × ((s : ℕ) (i : Item) → InState g paths s i ↔ InState g paths' s i)
      × (numbered.cells ≡ other.cells)
  numbering_unique numbered other = (
    same_count numbered other,
    λ s i. (same_in numbered other, same_in other numbered),
    same_cells numbered other,
  )

  -- a grammar has one table at most, however its states are written down
  pub slr_table_unique : {paths paths' : List Form} {table table' : List ℕ}
      → NumberedStates g paths
      → NumberedStates g paths'
      → SlrTableOf g paths table
      → SlrTableOf g paths' table'
      → table ≡ table'
  slr_table_unique numbered other made made' = table_unique numbered other made made'

  -- what a table of no more than 256 states and 128 productions says, read back cell by cell, is exact
  pub slr_table_exact : WellFormed g
      → {paths : List Form} {table : List ℕ}
      → length paths ≤ most_states
      → length g.productions ≤ 128
      → SlrTableOf g paths table
      → ExactActions g paths (action_in g table) (move_in g table)
  slr_table_exact well few short made = table_exact well (omega arith) (omega arith) made

module _ {g : Grammar} (well : WellFormed g) {paths : List Form} (numbered : NumberedStates g paths) where
  -- the states' sets are exactly the sets with an item that some path leads to
  pub states_reached : (γ : Form) → ((s : ℕ) × IsState (collection g) paths s γ) ↔ ((i : Item) × Along g γ i)
  states_reached γ =
      (λ (s, is). state_some well numbered s γ is, λ (i, h). path_state well numbered γ i h)

  module _ {cell : ℕ → Column → Option Action} {move : ℕ → ℕ → Option ℕ} (exact : ExactActions g paths cell move) where
    -- with exact cells the machine accepts w with the list ps exactly if ps, read backwards, derives w rightmost
    pub slr_accepts_exactly : {w ps : List ℕ} → SlrAccepts g cell move w ps ↔ Reduces g ps w
    slr_accepts_exactly =
        (λ a. accepts_reduces exact (state_zero well numbered) a, λ d. (reduces_runs well numbered exact d).run)

    -- so it accepts exactly the derivable strings
    pub slr_accepts_derivable : (w : List ℕ) → ((ps : List ℕ) × SlrAccepts g cell move w ps) ↔ Derivable g w
    slr_accepts_derivable w = (
      λ (ps, a). rightmost_derives (slr_accepts_exactly.0 a),
      λ d. let (ps, r) = derives_rightmost_of w d in (ps, slr_accepts_exactly.1 r),
    )

    -- and a string has one rightmost derivation only
    pub rightmost_unique : {w ps qs : List ℕ} → Reduces g ps w → Reduces g qs w → ps ≡ qs
    rightmost_unique d e = accepting_unique (slr_accepts_exactly.1 d) (slr_accepts_exactly.1 e)

    module _ (room cells : ℕ) where
      -- what the machine with room accepts, the machine with room without end accepts
      pub slr_room_accepts : {w : List ℕ} {last : Progress}
          → slr_run (setting_of g cell move room cells) w ≡ taken last
          → SlrAccepts g cell move w last.listed
      slr_room_accepts e = taken_accepts exact room cells e

      module _ {w ps : List ℕ} (d : Reduces g ps w) where
        -- with a list cell for each production and a stack cell for each state held, it accepts
        pub slr_room_enough : states_held 1 d ≤ room
            → length ps ≤ cells
            → EndsAccepting w ps (states_held 1 d) (slr_run (setting_of g cell move room cells) w)
        slr_room_enough tall long = room_enough room cells (reduces_runs well numbered exact d) tall long

        -- with less it stops for room, and for nothing else
        pub slr_room_lacking : 1 ≤ room
            → (room < states_held 1 d) ⊎ (cells < length ps)
            → EndsForRoom (slr_run (setting_of g cell move room cells) w)
        slr_room_lacking some lacks = room_lacking room cells (reduces_runs well numbered exact d) some lacks
