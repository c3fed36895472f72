-- Walking the rows of a machine goes from state to state as the patterns' own points move.
use mathlib.Core.Path.{◌≡◌}
use mathlib.Core.Logic.{◌⊎◌, inl, inr}
use mathlib.Core.List.{List, [], ◌∷◌}
use mathlib.Core.Option.{Option, some, none}
use Prim.Native.Nat.{ℕ, ◌+◌, ◌*◌, ◌≤◌, ◌<◌}
use native.Mathlib.Omega.{arith}
use lib.ListN.{length, get_elem?}
use Rattle.answers.specs.Limits.{most_patterns, most_positions, byte_values, most_states}
use Rattle.numbering.specs.Numbering.{IsState, FoundAll}
use Rattle.numbering.proofs.Promise.{element, inside}
use Rattle.numbering.proofs.Promise.{cell_named, cell_none}
use Rattle.numbering.proofs.Promise.{is_itself}
use Rattle.pattern.specs.Pattern.{Expression}
use Rattle.pattern.specs.Positions.{positions, Point, position, Moved, moved, AfterFrom}
use Rattle.pattern.specs.Text.{Bytes, no_byte, and_byte}
use Rattle.pattern.proofs.Promise.{moved_same}
use Rattle.states.specs.Machine.{no_cell, cell_of, rows_of}
use Rattle.states.proofs.Promise.{rows_length, rows_next}
use Rattle.pieces.specs.Rows.{rows_in, cell_at, Walk, here, on, Closed}
use Rattle.pieces.proofs.Promise.{walk_start}
use Rattle.cut.specs.Patterns.{InSet, point_states}
use Rattle.cut.proofs.Pointing.{Holds, exactly_holds}
use Rattle.cut.proofs.PointSets.{points_some, moved_place, moved_decided}
use Rattle.cut.proofs.Alike.{states_lawful}

holds_moved : {rs : List Expression} {x y b : ℕ} {S : Point → Type 0} → Holds x S
    → Holds y (Moved rs (InSet x) b)
    → Holds y (Moved rs S b)
holds_moved h k =
    record {
      sound = λ t i. (moved_same (λ s. (h.sound s, h.complete s))).0 (k.sound t i);
      complete = λ t m. k.complete t ((moved_same (λ s. (h.sound s, h.complete s))).1 m);
    }

-- what comes at last came from somewhere
pub after_some : (rs : List Expression) {S : Point → Type 0} (u : List ℕ) (t : Point) → AfterFrom rs S u t → (s : Point) × S s
unfolding AfterFrom
after_some rs [] t a = (t, a)
after_some rs {S} (b ∷ u) t a = go (after_some rs u t a)
  where
    go : (s : Point) × Moved rs S b s → (s : Point) × S s
    go (s, moved {p = p} from reads onward) = (position p, from)

-- at most as many patterns and positions as there are places for
module _ {rs : List Expression} (few : length rs ≤ most_patterns) (fit : positions rs ≤ most_positions) where
  module _ {sets : List ℕ} {cells : List (Option ℕ)} (f : FoundAll (point_states rs) sets cells) (short : length sets ≤ most_states) where
    abbrev rows : List ℕ
    rows = rows_of sets cells

    pub rows_in_lem : rows_in rows ≡ length sets
    rows_in_lem = omega (arith, rows_length sets cells f.all)

    -- byte b leads from row r, of state x, to the row of the state that holds what comes after, or no point comes after
    data Onto (r x b : ℕ) : Type 0 where
      leads : {y : ℕ} → get_elem? sets (cell_at rows r b) ≡ some y → Holds y (Moved rs (InSet x) b) → Onto r x b
      stuck : most_states ≤ cell_at rows r b → ((t : Point) → ¬ Moved rs (InSet x) b t) → Onto r x b

    onto : (r b : ℕ) {x : ℕ} → b < byte_values → get_elem? sets r ≡ some x → Onto r x b
    unfolding cell_of
    onto r b {x} byte at =
        let row : r < length sets = inside sets r at in
        let is : IsState (point_states rs) sets r x = is_itself (states_lawful rs) at in
        let (v, e) = element cells (r * byte_values + b) (omega (arith, f.all)) in
        go row is v e
      where
        go : r < length sets → IsState (point_states rs) sets r x → (v : Option ℕ) → get_elem? cells (r * byte_values + b) ≡ some v → Onto r x b
        go row is none e =
            let cell : cell_at rows r b ≡ no_cell = rows_next sets cells r b none f.all row byte e in
            stuck (omega (arith, cell)) (λ t m.
            let (y, moves) = points_some (moved_decided few fit x b) (moved_place few fit) t m in
            (cell_none (states_lawful rs) f r b x byte is).0 e y moves)
        go row is (some j) e =
            let cell : cell_at rows r b ≡ j = rows_next sets cells r b (some j) f.all row byte e in
            let (y, moves, named) = (cell_named (states_lawful rs) f r b j x byte is).0 e in
            let there : get_elem? sets (cell_at rows r b) ≡ some y = rw (cell, named.same) named.at in
            leads there (exactly_holds (moved_place few fit) moves.exact)

    -- no cell names a row that is not there, but by naming none
    pub rows_closed : 0 < length sets → Closed rows (length sets)
    rows_closed some_row =
        record { some_row = some_row; few = short; whole = rows_length sets cells f.all; names = names }
      where
        go : (r b : ℕ) {x : ℕ} → Onto r x b → (cell_at rows r b < length sets) ⊎ (most_states ≤ cell_at rows r b)
        go r b (leads there holds) = inl (inside sets (cell_at rows r b) there)
        go r b (stuck past nothing) = inr past

        names : (r b : ℕ) → r < length sets → b < byte_values → (cell_at rows r b < length sets) ⊎ (most_states ≤ cell_at rows r b)
        names r b row byte = let (x, at) = element sets r row in go r b (onto r b byte at)

    -- a walk leads from the row of a set that holds some points to that of the one that holds what comes after them
    pub walk_holds : {r s : ℕ} {u : List ℕ} {x : ℕ} {S : Point → Type 0} → Walk rows r u s
        → get_elem? sets r ≡ some x
        → Holds x S
        → (y : ℕ) × (get_elem? sets s ≡ some y) × Holds y (AfterFrom rs S u)
    unfolding AfterFrom
    walk_holds {x = x} (here there) at h = (x, at, h)
    walk_holds {s = s} {x = x} {S = S} (on {r = r} {b = b} {u = u} row byte walk) at h =
        go (onto r b byte at) (λ y there holds. walk_holds walk there holds)
      where
        go : Onto r x b
            → ((y : ℕ) → get_elem? sets (cell_at rows r b) ≡ some y → Holds y (Moved rs S b)
            → (z : ℕ) × (get_elem? sets s ≡ some z) × Holds z (AfterFrom rs (Moved rs S b) u))
            → (z : ℕ) × (get_elem? sets s ≡ some z) × Holds z (AfterFrom rs (Moved rs S b) u)
        go (leads {y = y} there holds) later = later y there (holds_moved h holds)
        go (stuck past nothing) later = absurd (omega (arith, walk_start walk, rows_in_lem))

    -- where some point comes after a string, the string can be walked
    pub walk_exists : {r x : ℕ} {S : Point → Type 0} (u : List ℕ) → Bytes u
        → (t : Point)
        → AfterFrom rs S u t
        → get_elem? sets r ≡ some x
        → Holds x S
        → (s : ℕ) × Walk rows r u s
    unfolding AfterFrom
    walk_exists {r = r} [] no_byte t a at h = (r, here {r = r} (omega (arith, rows_in_lem, inside sets r at)))
    walk_exists {r = r} {x = x} {S = S} (b ∷ u) (and_byte byte bytes) t a at h =
        go (onto r b byte at) (λ y there holds. walk_exists {r = cell_at rows r b} {x = y} {S = Moved rs S b} u bytes t a there holds)
      where
        go : Onto r x b
            → ((y : ℕ) → get_elem? sets (cell_at rows r b) ≡ some y → Holds y (Moved rs S b) → (s : ℕ) × Walk rows (cell_at rows r b) u s)
            → (s : ℕ) × Walk rows r (b ∷ u) s
        go (leads {y = y} there holds) later =
            let (s, walk) = later y there (holds_moved h holds) in
            (s, on {r = r} (omega (arith, rows_in_lem, inside sets r at)) byte walk)
        go (stuck past nothing) later =
            let (s, m) = after_some rs u t a in
            absurd (nothing s ((moved_same (λ q. (h.sound q, h.complete q))).1 m))
