-- The bottom-up machine with the room that it is lent. A shift is a step and a reduction is one; accepting is none.
-- Document 02, W12: a step that the table does not allow stops with 11; else one that needs list, then stack, with 7.
use Rattle.std.specs.Prelude.{true, false, List, [], ◌∷◌, ◌++◌, ℕ, zero, suc, ◌-◌, max, ltb, length, drop}
use Rattle.std.proofs.Math.Option.{Option, some, none}
use Rattle.std.proofs.Math.ListN.{get_elem?}
use Rattle.grammar.specs.Grammar.{Grammar, Column, token, endmark}
use Rattle.slr.specs.Actions.{Action, shift, reduce, accept}

-- the state on top and those below it; the productions listed and the tokens matched so far; the steps made; the most
-- states held so far
pub record Progress : Type 0 where
  pub top : ℕ
  pub below : List ℕ
  pub listed : List ℕ
  pub matched : ℕ
  pub steps : ℕ
  pub height : ℕ

-- why the machine stops: list or stack is full, or syntax: it wants a filled column of the state that is on top
pub data SlrReason : Type 0 where
  full_list : SlrReason
  full_stack : SlrReason
  wants : ℕ → SlrReason

-- the column is taken: its token is shifted, or the end mark accepted; or the machine stops
pub data SlrOffered : Type 0 where
  taken : Progress → SlrOffered
  stopped : SlrReason → Progress → SlrOffered

-- state 0 stands on the stack, and with that steps have begun
unfoldable pub slr_begun : Progress
slr_begun = record { top = 0; below = []; listed = []; matched = 0; steps = 0; height = 1 }

-- the next token is matched, and the state j pushed
unfoldable pub shifted : ℕ → Progress → Progress
shifted j s =
    record {
      top = j;
      below = s.top ∷ s.below;
      listed = s.listed;
      matched = suc s.matched;
      steps = suc s.steps;
      height = max s.height (suc (suc (length s.below)));
    }

-- p is listed, and of the states only the last ones stay, on which j is pushed
unfoldable pub reduced : ℕ → ℕ → List ℕ → Progress → Progress
reduced p j rest s =
    record {
      top = j;
      below = rest;
      listed = s.listed ++ (p ∷ []);
      matched = s.matched;
      steps = suc s.steps;
      height = max s.height (suc (length rest));
    }

-- what the machine goes by: left side and length of each production, the table's cells and moves, and how many cells of
-- stack and list count
pub record Setting : Type 0 where
  pub left : ℕ → ℕ
  pub size : ℕ → ℕ
  pub cell : ℕ → Column → Option Action
  pub move : ℕ → ℕ → Option ℕ
  pub room : ℕ
  pub cells : ℕ

module _ (m : Setting) where
  -- a shift needs a stack cell
  unfoldable pub shifting : ℕ → Progress → SlrOffered
  shifting j s =
      elim (ltb (suc (length s.below)) m.room) [ true ↦ taken (shifted j s) | false ↦ stopped full_stack s ]

  -- a reduction must uncover a state, and that must have a move under p's left side
  unfoldable pub uncovering : (ℕ → List ℕ → SlrOffered) → ℕ → Progress → List ℕ → SlrOffered
  uncovering apply p s [] = stopped (wants s.top) s
  uncovering apply p s (k ∷ rest) =
      elim (m.move k (m.left p)) [ none ↦ stopped (wants s.top) s | some j ↦ apply j (k ∷ rest) ]

  -- accept, shift or reduce
  unfoldable pub acting : (ℕ → ℕ → List ℕ → SlrOffered) → Progress → Action → SlrOffered
  acting apply s accept = taken s
  acting apply s (shift j) = shifting j s
  acting apply s (reduce p) = uncovering (apply p) p s (drop (m.size p) (s.top ∷ s.below))

  -- what the state on top says to the column
  unfoldable pub slr_facing : (ℕ → ℕ → List ℕ → SlrOffered) → Column → Progress → SlrOffered
  slr_facing apply c s = elim (m.cell s.top c) [ none ↦ stopped (wants s.top) s | some a ↦ acting apply s a ]

  -- the move of a reduction needs a stack cell
  unfoldable pub moving : (Progress → SlrOffered) → Progress → ℕ → ℕ → List ℕ → SlrOffered
  moving next s p j rest =
      elim (ltb (length rest) m.room) [ true ↦ next (reduced p j rest s) | false ↦ stopped full_stack s ]

  -- reductions are made until the column is taken or the machine stops; so many list cells are left
  unfoldable pub slr_offer : ℕ → Column → Progress → SlrOffered
  slr_offer zero c s = slr_facing (λ p j rest. stopped full_list s) c s
  slr_offer (suc l) c s = slr_facing (moving (slr_offer l c) s) c s

  -- the tokens are offered one by one, then the end mark
  unfoldable pub slr_run_from : List ℕ → Progress → SlrOffered
  slr_run_from [] s = slr_offer (m.cells - length s.listed) endmark s
  slr_run_from (t ∷ w) s =
      elim (slr_offer (m.cells - length s.listed) (token t) s)
      [ taken s' ↦ slr_run_from w s' | stopped r s' ↦ stopped r s' ]

-- the left side and the length of production p
unfoldable pub left_in : Grammar → ℕ → ℕ
left_in g p = elim (get_elem? g.productions p) [ none ↦ 0 | some r ↦ r.left ]

unfoldable pub size_in : Grammar → ℕ → ℕ
size_in g p = elim (get_elem? g.productions p) [ none ↦ 0 | some r ↦ length r.right ]

-- a grammar's productions, a table's cells and moves, and so many cells of stack and list
abbrev pub setting_of : Grammar → (ℕ → Column → Option Action) → (ℕ → ℕ → Option ℕ) → (room cells : ℕ) → Setting
setting_of g cell move room cells =
    record { left = left_in g; size = size_in g; cell = cell; move = move; room = room; cells = cells }

-- the run from the start
abbrev pub slr_run : Setting → List ℕ → SlrOffered
slr_run m w = slr_run_from m w slr_begun
