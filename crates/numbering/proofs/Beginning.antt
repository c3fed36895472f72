-- What was found with fewer cells begins what was found with more, and everything found begins the whole.
use mathlib.Core.Path.{◌≡◌, refl, sym, ap, ◌∙◌}
use mathlib.Core.List.{List}
use mathlib.Core.Option.{Option, some}
use Prim.Native.Nat.{ℕ, zero, suc, ◌*◌, ◌≤◌, ◌<◌}
use native.Mathlib.Decide.{dec_le}
use native.Mathlib.Nat.{lt_of_mul-lt-mul_left}
use native.Mathlib.Omega.{arith}
use lib.ListN.{length, get_elem?}
use Rattle.numbering.specs.Numbering.{Automaton, Lawful, IsState, Found, FoundAll, Begins}
use Rattle.numbering.proofs.Places.{element, inside, begins_take, some_column, row_cell}
use Rattle.numbering.proofs.Agreement.{is_itself, is_inside, states_agree, cells_agree}

module _ {A : Type 0} {m : Automaton A} (law : Lawful m)
    {states states' : List A} {cells cells' : List (Option ℕ)} where
  -- of two findings the one with no more cells begins the other
  pub shorter_begins : Found m states cells
      → Found m states' cells'
      → length cells ≤ length cells'
      → Begins m states states' cells cells'
  shorter_begins f g le = record { cells_begin = begins_take cells cells' cell; states_begin = state }
    where
      cell : (t : ℕ) (v : Option ℕ) → get_elem? cells t ≡ some v → get_elem? cells' t ≡ some v
      cell t v e =
          let short : t < length cells = inside cells t e in
          sym (cells_agree law f g t short (omega arith)) ∙ e

      state : (i : ℕ) (x : A) → IsState m states i x → IsState m states' i x
      state i x h = states_agree law f g i (λ s j lower names. cell s (some j) names) i (omega arith) x h

  -- a list of states that begins another is no longer
  pub begins_length : Begins m states states' cells cells' → length states ≤ length states'
  begins_length b = go (dec_le (length states) (length states'))
    where
      go : Dec (length states ≤ length states') → length states ≤ length states'
      go (yes h) = h
      go (no h) =
          let (x, e) = element states (length states') (omega arith) in
          let bad : IsState m states' (length states') x = b.states_begin (length states') x (is_itself law e) in
          omega (arith, is_inside bad)

module _ {A : Type 0} {m : Automaton A} (law : Lawful m)
    {states states' : List A} {cells cells' : List (Option ℕ)}
    (f : Found m states cells)
    (g : FoundAll m states' cells') where
  -- with all cells of all states, no state more stands in a cell
  no_state_more : (n : ℕ) → n ≡ length states' → length cells' ≤ length cells → n < length states → ⊥
  no_state_more zero e longer more =
      let (start, starts) = f.started (omega arith) in
      omega (arith, is_inside (g.found.first start starts))
  no_state_more (suc n) e longer more =
      let (t, lower, names) = f.born (suc n) (omega arith) more in
      let short : t < length cells = inside cells t names in
      let some_one : 0 < m.columns = some_column m.columns t (length states) (omega (arith, f.within)) in
      let before : t < m.columns * suc n = row_cell m.columns t (suc n) some_one lower in
      let reach : t < length cells' = omega (arith, g.all, ap (λ (k : ℕ). m.columns * k) e) in
      let (y, follows, is) = g.found.filled t (suc n) (sym (cells_agree law f g.found t short reach) ∙ names) in
      omega (arith, is_inside {x = y} is)

  -- no finding has more cells than the whole
  pub no_longer : length cells ≤ length cells'
  no_longer = go (dec_le (length cells) (length cells'))
    where
      go : Dec (length cells ≤ length cells') → length cells ≤ length cells'
      go (yes h) = h
      go (no h) =
          let more : length states' < length states = lt_of_mul-lt-mul_left m.columns (omega (arith, g.all, f.within)) in
          absurd (no_state_more (length states') refl (omega arith) more)
