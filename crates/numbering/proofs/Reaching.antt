-- The states found are those that strings of columns lead to.
use mathlib.Core.List.{List, [], ◌∷◌, ◌++◌}
use mathlib.Core.Option.{Option}
use Prim.Native.Nat.{ℕ, zero, suc, ◌/◌, ◌%◌, ◌<◌}
use native.Mathlib.Nat.{mod-lt}
use native.Mathlib.Omega.{arith}
use lib.ListN.{length}
use Rattle.numbering.specs.Numbering.{Automaton, Lawful, IsState, Found, FoundAll, Leads, here, on, Reached}
use Rattle.numbering.proofs.Places.{inside, some_column}
use Rattle.numbering.proofs.Agreement.{is_itself, is_inside, same_state}
use Rattle.numbering.proofs.Rows.{moves_cell}

module _ {A : Type 0} {m : Automaton A} (law : Lawful m) {states : List A} {cells : List (Option ℕ)} where
  -- from a state found, every string leads to a state found
  leads_state : FoundAll m states cells → {x y : A} {w : List ℕ} → Leads m x w y
      → (i : ℕ)
      → IsState m states i x
      → (j : ℕ) × IsState m states j y
  leads_state f here i is = (i, is)
  leads_state f (on {x = x} {y = y} {c = c} h moves rest) i is =
      let (j, names, next) = moves_cell law f i c x y h is moves in
      leads_state f rest j next

  -- what can be reached is a state of the whole
  pub reached_state : FoundAll m states cells → {y : A} → Reached m y → (j : ℕ) × IsState m states j y
  reached_state f (x, w, starts, leads) = leads_state f leads 0 (f.found.first x starts)

module _ {A : Type 0} {m : Automaton A} where
  leads_further : {x y z : A} {w : List ℕ} {c : ℕ} → Leads m x w y → c < m.columns → m.Moves y c z → Leads m x (w ++ (c ∷ [])) z
  leads_further here h moves = on h moves here
  leads_further (on k first rest) h moves = on k first (leads_further rest h moves)

  reached_further : {y z : A} {c : ℕ} → Reached m y → c < m.columns → m.Moves y c z → Reached m z
  reached_further {c = c} (x, w, starts, leads) h moves = (x, w ++ (c ∷ []), starts, leads_further leads h moves)

module _ {A : Type 0} {m : Automaton A} (law : Lawful m) {states : List A} {cells : List (Option ℕ)} (f : Found m states cells) where
  -- each state found, of the whole or not, is one that can be reached
  pub state_reached : (i : ℕ) (x : A) → IsState m states i x → (y : A) × Reached m y × m.Same y x
  state_reached i x is = go (suc i) i (omega arith) x is
    where
      go : (bound i : ℕ) → i < bound → (x : A) → IsState m states i x → (y : A) × Reached m y × m.Same y x
      go zero i b x is = absurd (omega arith)
      go (suc bound) zero b x is =
          let (start, starts) = f.started (is_inside is) in
          (start, (start, [], starts, here), same_state law (f.first start starts) is)
      go (suc bound) (suc i) b x is =
          let (t, lower, names) = f.born (suc i) (omega arith) (is_inside is) in
          let (y, follows, named) = f.filled t (suc i) names in
          let (z, reached, same) = go bound (t / m.columns) (omega arith) follows.state (is_itself law follows.row) in
          let column : t % m.columns < m.columns = mod-lt t (some_column m.columns t (length states) (omega (arith, f.within, inside cells t names))) in
          let back : m.Same follows.state z = law.symmetric z follows.state same in
          let (w, moves) = law.both_move (t % m.columns) follows.state z y back follows.moves in
          let last : m.Same w y = law.one_move (t % m.columns) z follows.state w y same moves follows.moves in
          (w, reached_further {z = w} reached column moves, law.transitive w y x last (same_state law named is))
