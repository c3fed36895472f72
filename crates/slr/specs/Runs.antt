-- How the machine with room ends on small tables: those of the examples and some that nobody built.
use Rattle.std.specs.Prelude.{◌≡◌, List, [], ◌∷◌, ◌++◌, ℕ, set}
use Rattle.grammar.specs.declared.Symbol.TheVariants.{Token}
use Rattle.grammar.specs.Grammar.{Grammar}
use Rattle.slr.specs.RoomMachine.{Progress, full_list, full_stack, wants, SlrOffered, taken, stopped}
use Rattle.slr.specs.RoomMachine.{setting_of, slr_run}
use Rattle.slr.specs.Cells.{empty_cell, action_in, move_in}
use Rattle.slr.specs.Examples.{left_grammar, left_table}

-- a table of a grammar, cells of stack and list, the tokens, and how the run ends
pub record Trial : Type 0 where
  pub grammar : Grammar
  pub table : List ℕ
  pub room : ℕ
  pub cells : ℕ
  pub tokens : List ℕ
  pub ends : SlrOffered

-- the run on what the table says
abbrev pub run_on : Grammar → List ℕ → (room cells : ℕ) → List ℕ → SlrOffered
run_on g table room cells w = slr_run (setting_of g (action_in g table) (move_in g table) room cells) w

pub record Passes (t : Trial) : Type 0 where
  pub runs : run_on t.grammar t.table t.room t.cells t.tokens ≡ t.ends

abbrev at : ℕ → List ℕ → List ℕ → (matched steps height : ℕ) → Progress
at top below listed matched steps height =
    record { top = top; below = below; listed = listed; matched = matched; steps = steps; height = height }

abbrev trial : Grammar → List ℕ → (room cells : ℕ) → List ℕ → SlrOffered → Trial
trial g table room cells w o =
    record { grammar = g; table = table; room = room; cells = cells; tokens = w; ends = o }

-- S → empty, S → 0
unfoldable pub short_grammar : Grammar
short_grammar =
    record {
      tokens = 1;
      nonterminals = 1;
      start = 0;
      productions = record { left = 0; right = [] } ∷ record { left = 0; right = Token 0 ∷ [] } ∷ [];
    }

-- stack and list just enough, one cell less of each, and hardly any
unfoldable pub room_trials : List Trial
unfolding left_grammar left_table
room_trials =
    trial left_grammar left_table 3 4 (0 ∷ 0 ∷ 0 ∷ []) (taken (at 2 (0 ∷ []) (3 ∷ 2 ∷ 2 ∷ 0 ∷ []) 3 7 3))
    ∷ trial left_grammar left_table 2 4 (0 ∷ 0 ∷ 0 ∷ []) (stopped full_stack (at 3 (0 ∷ []) (3 ∷ []) 0 1 2))
    ∷ trial left_grammar left_table 3 3 (0 ∷ 0 ∷ 0 ∷ []) (stopped full_list (at 4 (3 ∷ 0 ∷ []) (3 ∷ 2 ∷ 2 ∷ []) 3 6 3))
    ∷ trial left_grammar left_table 1 0 (0 ∷ 0 ∷ 0 ∷ []) (stopped full_list (at 0 [] [] 0 0 1))
    ∷ trial left_grammar left_table 1 1 (0 ∷ 0 ∷ 0 ∷ []) (stopped full_stack (at 0 [] [] 0 0 1))
    ∷ trial left_grammar left_table 2 1 (1 ∷ []) (taken (at 2 (0 ∷ []) (1 ∷ []) 1 2 2))
    ∷ []

-- strings that are not derivable: it wants a filled column of the state on top
unfoldable pub syntax_trials : List Trial
unfolding left_grammar left_table
syntax_trials =
    trial left_grammar left_table 3 4 [] (stopped (wants 0) (at 0 [] [] 0 0 1))
    ∷ trial left_grammar left_table 3 4 (0 ∷ 1 ∷ []) (stopped (wants 4) (at 4 (3 ∷ 0 ∷ []) (3 ∷ []) 1 2 3))
    ∷ trial left_grammar left_table 3 4 (1 ∷ 0 ∷ []) (stopped (wants 1) (at 1 (0 ∷ []) [] 1 1 2))
    ∷ []

-- tables that nobody built: reductions without end, one that would leave no state, and missing moves
unfoldable pub foreign_trials : List Trial
unfolding left_grammar left_table short_grammar
foreign_trials =
    trial short_grammar (empty_cell ∷ 512 ∷ 0 ∷ []) 5 3 []
    (stopped full_list (at 0 (0 ∷ 0 ∷ 0 ∷ []) (0 ∷ 0 ∷ 0 ∷ []) 0 3 4))
    ∷ trial short_grammar (empty_cell ∷ 512 ∷ 0 ∷ []) 3 9 [] (stopped full_stack (at 0 (0 ∷ 0 ∷ []) (0 ∷ 0 ∷ []) 0 2 3))
    ∷ trial short_grammar (empty_cell ∷ 513 ∷ 0 ∷ []) 5 3 [] (stopped (wants 0) (at 0 [] [] 0 0 1))
    ∷ trial short_grammar (empty_cell ∷ 512 ∷ empty_cell ∷ []) 5 3 [] (stopped (wants 0) (at 0 [] [] 0 0 1))
    ∷ trial left_grammar (set left_table 3 empty_cell) 3 4 (1 ∷ []) (stopped (wants 1) (at 1 (0 ∷ []) [] 1 1 2))
    ∷ trial left_grammar (set left_table 7 512) 3 4 (1 ∷ []) (stopped (wants 1) (at 1 (0 ∷ []) [] 1 1 2))
    ∷ []

abbrev pub trials : List Trial
trials = room_trials ++ (syntax_trials ++ foreign_trials)
