-- An automaton of three states and two columns, found turn by turn: so no premise of the theorems is empty.
use mathlib.Core.Path.{◌≡◌, refl, sym, ◌∙◌}
use mathlib.Core.List.{List, [], ◌∷◌}
use mathlib.Core.Option.{Option, some, none, none-ne-some}
use Prim.Native.Nat.{ℕ, zero, suc, ◌/◌, ◌%◌}
use native.Mathlib.Omega.{arith}
use lib.ListN.{get_elem?}
use Rattle.numbering.specs.Numbering.{Lawful, Decided, IsState, Follows, Found, FoundAll, TooMany}
use Rattle.numbering.specs.Example.{Corner, top, left, right, Corner-discrete, next_corner, corners}
use Rattle.numbering.proofs.Agreement.{is_itself}
use Rattle.numbering.proofs.Turns.{found_begun, turn_nothing, turn_met, turn_new}

pub corners_lawful : Lawful corners
corners_lawful =
    record {
      reflexive = λ x. refl;
      symmetric = λ x y e. sym e;
      transitive = λ x y z e d. e ∙ d;
      one_start = λ x y e d. e ∙ sym d;
      one_move = λ c x x' y y' e a b. cc;
      both_move = λ c x x' y e a. (y, rw e at a);
    }

pub corners_decided : Decided corners
corners_decided =
    record {
      starts = yes (top, refl);
      moves = λ x c. go x c (next_corner x c) refl;
      same = Corner-discrete;
    }
  where
    go : (x : Corner) (c : ℕ) (o : Option Corner) → next_corner x c ≡ o → Dec ((y : Corner) × (next_corner x c ≡ some y))
    go x c none e = no (λ (y, d). none-ne-some y (sym e ∙ d))
    go x c (some y) e = yes (y, e)

right_new : (j : ℕ) → ¬ IsState corners (top ∷ []) j right
right_new zero is = let bad : ◌≡◌ {A = ℕ} 0 1 = cc in omega arith
right_new (suc j) is = let bad : ◌≡◌ {A = ℕ} 0 1 = cc in omega arith

left_new : (j : ℕ) → ¬ IsState corners (top ∷ right ∷ []) j left
left_new zero is = let bad : ◌≡◌ {A = ℕ} 0 1 = cc in omega arith
left_new (suc zero) is = let bad : ◌≡◌ {A = ℕ} 0 1 = cc in omega arith
left_new (suc (suc j)) is = let bad : ◌≡◌ {A = ℕ} 0 1 = cc in omega arith

right_ends : (y : Corner) → ¬ Follows corners (top ∷ right ∷ left ∷ []) 3 y
unfolding next_corner
right_ends y follows = let bad : ◌≡◌ {A = ℕ} 0 1 = cc in omega arith

from : {states : List Corner} {t : ℕ} {y : Corner} (x : Corner) → get_elem? states (t / 2) ≡ some x
    → next_corner x (t % 2) ≡ some y
    → Follows corners states t y
from x row moves = record { state = x; row = row; moves = moves }

-- the row of `top`: two new states
cell_0 : Found corners (top ∷ right ∷ []) (some 1 ∷ [])
unfolding next_corner
cell_0 = turn_new (found_begun corners_lawful top refl) (omega arith) corners_lawful right (from top refl refl) right_new

cell_1 : Found corners (top ∷ right ∷ left ∷ []) (some 1 ∷ some 2 ∷ [])
unfolding next_corner
cell_1 = turn_new cell_0 (omega arith) corners_lawful left (from top refl refl) left_new

-- the row of `right`: a state met before, then nothing
cell_2 : Found corners (top ∷ right ∷ left ∷ []) (some 1 ∷ some 2 ∷ some 1 ∷ [])
unfolding next_corner
cell_2 = turn_met cell_1 (omega arith) 1 right (from right refl refl) (is_itself corners_lawful refl)

cell_3 : Found corners (top ∷ right ∷ left ∷ []) (some 1 ∷ some 2 ∷ some 1 ∷ none ∷ [])
cell_3 = turn_nothing cell_2 (omega arith) right_ends

-- the row of `left`: two states met before
cell_4 : Found corners (top ∷ right ∷ left ∷ []) (some 1 ∷ some 2 ∷ some 1 ∷ none ∷ some 0 ∷ [])
unfolding next_corner
cell_4 = turn_met cell_3 (omega arith) 0 top (from left refl refl) (is_itself corners_lawful refl)

-- that is all
pub corners_found : FoundAll corners (top ∷ right ∷ left ∷ []) (some 1 ∷ some 2 ∷ some 1 ∷ none ∷ some 0 ∷ some 1 ∷ [])
unfolding next_corner
corners_found =
    record {
      found = turn_met cell_4 (omega arith) 1 right (from left refl refl) (is_itself corners_lawful refl);
      all = refl;
    }

-- three states are too many for two
pub corners_too_many : TooMany corners 2
corners_too_many =
    record { states = top ∷ right ∷ left ∷ []; cells = some 1 ∷ some 2 ∷ []; found = cell_1; more = omega arith }
