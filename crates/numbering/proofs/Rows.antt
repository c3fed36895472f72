-- The cells by row and column: what each says of its row's state.
use mathlib.Core.Path.{◌≡◌, refl}
use mathlib.Core.Logic.{◌↔◌}
use mathlib.Core.List.{List}
use mathlib.Core.Option.{Option, some, none}
use Prim.Native.Nat.{ℕ, ◌+◌, ◌*◌, ◌<◌}
use native.Mathlib.Nat.{mul_comm}
use native.Mathlib.Omega.{arith}
use lib.ListN.{length, get_elem?}
use lib.Arith.{digits_lt}
use Rattle.numbering.specs.Numbering.{Automaton, Names, Lawful, IsState, Found, FoundAll}
use Rattle.numbering.proofs.Places.{element}
use Rattle.numbering.proofs.Agreement.{is_inside, is_same}
use Rattle.numbering.proofs.Turns.{follows_at}

module _ {A : Type 0} {m : Automaton A} (law : Lawful m) {states : List A} {cells : List (Option ℕ)} where
  -- the state of row r leads by column c to the state that the cell names
  pub cell_moves : Found m states cells → (r c j : ℕ) (x : A) → c < m.columns
      → IsState m states r x
      → Names cells (r * m.columns + c) j
      → (y : A) × m.Moves x c y × IsState m states j y
  cell_moves f r c j x h is names =
      let (y, follows, named) = f.filled (r * m.columns + c) j names in
      let moves : m.Moves is.state c y = (follows_at states (r * m.columns + c) r c is.state y refl h is.at).0 follows in
      let back : m.Same is.state x = law.symmetric x is.state is.same in
      let (z, other) = law.both_move c is.state x y back moves in
      (z, other, is_same law (law.one_move c x is.state z y is.same other moves) named)

  -- where the cell is empty the state leads nowhere
  pub cell_empty : Found m states cells → (r c : ℕ) (x : A) → c < m.columns
      → IsState m states r x
      → get_elem? cells (r * m.columns + c) ≡ some none
      → (y : A)
      → ¬ m.Moves x c y
  cell_empty f r c x h is e y moves =
      let (z, other) = law.both_move c x is.state y is.same moves in
      f.empty (r * m.columns + c) e z ((follows_at states (r * m.columns + c) r c is.state z refl h is.at).1 other)

  -- with all cells, each row has a cell in each column
  cell_there : FoundAll m states cells → (r c : ℕ) (x : A) → c < m.columns
      → IsState m states r x
      → (v : Option ℕ) × (get_elem? cells (r * m.columns + c) ≡ some v)
  cell_there f r c x h is =
      element cells (r * m.columns + c) (omega (arith, f.all, digits_lt (is_inside is) h, mul_comm m.columns (length states)))

  -- with all cells, where the state leads somewhere its cell names the state that it leads to
  pub moves_cell : FoundAll m states cells → (r c : ℕ) (x y : A) → c < m.columns
      → IsState m states r x
      → m.Moves x c y
      → (j : ℕ) × Names cells (r * m.columns + c) j × IsState m states j y
  moves_cell f r c x y h is moves =
      let (v, e) = cell_there f r c x h is in
      go v e
    where
      go : (v : Option ℕ) → get_elem? cells (r * m.columns + c) ≡ some v
          → (j : ℕ) × Names cells (r * m.columns + c) j × IsState m states j y
      go none e = absurd (cell_empty f.found r c x h is e y moves)
      go (some j) e =
          let (z, other, named) = cell_moves f.found r c j x h is e in
          (j, e, is_same law (law.one_move c x x y z (law.reflexive x) moves other) named)

  pub cell_named : FoundAll m states cells → (r c j : ℕ) (x : A) → c < m.columns
      → IsState m states r x
      → Names cells (r * m.columns + c) j ↔ ((y : A) × m.Moves x c y × IsState m states j y)
  cell_named f r c j x h is = (λ names. cell_moves f.found r c j x h is names, back)
    where
      back : ((y : A) × m.Moves x c y × IsState m states j y) → Names cells (r * m.columns + c) j
      back (y, moves, named) =
          let (k, names, other) = moves_cell f r c x y h is moves in
          rw (f.found.distinct j k y named other) names

  pub cell_none : FoundAll m states cells → (r c : ℕ) (x : A) → c < m.columns
      → IsState m states r x
      → (get_elem? cells (r * m.columns + c) ≡ some none) ↔ ((y : A) → ¬ m.Moves x c y)
  cell_none f r c x h is = (λ e. cell_empty f.found r c x h is e, λ nothing. let (v, e) = cell_there f r c x h is in go nothing v e)
    where
      go : ((y : A) → ¬ m.Moves x c y)
          → (v : Option ℕ)
          → get_elem? cells (r * m.columns + c) ≡ some v
          → get_elem? cells (r * m.columns + c) ≡ some none
      go nothing none e = e
      go nothing (some j) e = let (y, moves, named) = cell_moves f.found r c j x h is e in absurd (nothing y moves)
