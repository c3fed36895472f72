-- The cells of rows: where each stands, and that rows which are right cell by cell are those of the states that were found.
use mathlib.Core.Path.{◌≡◌, refl, ap, ◌∙◌}
use mathlib.Core.List.{List, [], ◌∷◌, ◌++◌, map}
use mathlib.Core.Option.{Option, some, some-injective, none-ne-some}
use Prim.Native.Nat.{ℕ, zero, suc, ◌+◌, ◌*◌, ◌≤◌, ◌<◌}
use native.Mathlib.Nat.{zero-add, suc-add}
use native.Mathlib.Omega.{arith}
use lib.ListN.{length, get_or, get_elem?, take, drop, length-append, length-drop, length-map, get_or-append, get_or-map}
use lib.Seq.{get_or-append-add, get_or-take, length-take-le}
use Rattle.answers.specs.Limits.{byte_values, row_cells}
use Rattle.states.specs.Machine.{cell_of, token_of, rows_of}

-- an element by its place
at_get_d : {A : Type 0} (xs : List A) (i : ℕ) (d x : A) → get_elem? xs i ≡ some x → get_or xs i d ≡ x
at_get_d [] i d x e = absurd (none-ne-some x e)
at_get_d (y ∷ xs) zero d x e = some-injective y x e
at_get_d (y ∷ xs) (suc i) d x e = at_get_d xs i d x e

at_drop : {A : Type 0} (n : ℕ) (xs : List A) (i : ℕ) → get_elem? (drop n xs) i ≡ get_elem? xs (n + i)
at_drop zero xs i = rw zero-add
at_drop (suc n) [] i = refl
at_drop (suc n) (x ∷ xs) i = rw suc-add (at_drop n xs i)

-- the bytes of a row
front_length : (cells : List (Option ℕ)) → byte_values ≤ length cells → length (map cell_of (take byte_values cells)) ≡ byte_values
front_length cells enough = length-map (take byte_values cells) cell_of ∙ length-take-le byte_values cells enough

-- what stands behind them
behind_front : (cells : List (Option ℕ)) (t : ℕ) (rest : List ℕ) → byte_values ≤ length cells → (k : ℕ)
    → get_or (map cell_of (take byte_values cells) ++ (t ∷ rest)) (byte_values + k) 0 ≡ get_or (t ∷ rest) k 0
behind_front cells t rest enough k =
    rw (← (front_length cells enough)) (get_or-append-add (map cell_of (take byte_values cells)) (t ∷ rest) k 0)

pub rows_length : (states : List ℕ) (cells : List (Option ℕ)) → length cells ≡ byte_values * length states
    → length (rows_of states cells) ≡ length states * row_cells
unfolding rows_of
rows_length [] cells all = refl
rows_length (x ∷ states) cells all =
    omega (
      arith,
      length-append (map cell_of (take byte_values cells)) (token_of x ∷ rows_of states (drop byte_values cells)),
      front_length cells (omega arith),
      rows_length states (drop byte_values cells) (omega (arith, length-drop byte_values cells)),
    )

zero_row : (b : ℕ) → 0 * byte_values + b ≡ b
zero_row b = omega arith

-- the cell of byte b in row r
pub rows_next : (states : List ℕ) (cells : List (Option ℕ)) (r b : ℕ) (v : Option ℕ)
    → length cells ≡ byte_values * length states
    → r < length states
    → b < byte_values
    → get_elem? cells (r * byte_values + b) ≡ some v
    → get_or (rows_of states cells) (r * row_cells + b) 0 ≡ cell_of v
unfolding rows_of cell_of
rows_next [] cells r b v all row short e = absurd (omega arith)
rows_next (x ∷ states) cells zero b v all row short e =
    let place : 0 * row_cells + b ≡ b = omega arith in
    let cell : get_elem? cells b ≡ some v = rw (zero_row b) at e in
    rw place
    (get_or-append (map cell_of (take byte_values cells)) (token_of x ∷ rows_of states (drop byte_values cells)) 0 b
    (omega (arith, front_length cells (omega arith)))
    ∙ get_or-map cell_of (take byte_values cells) b (some 0)
    ∙ ap cell_of (get_or-take byte_values cells b (some 0) short ∙ at_get_d cells b (some 0) v cell))
rows_next (x ∷ states) cells (suc r) b v all row short e =
    let place : suc r * row_cells + b ≡ byte_values + suc (r * row_cells + b) = omega arith in
    let there : byte_values + (r * byte_values + b) ≡ suc r * byte_values + b = omega arith in
    rw place
    (behind_front cells (token_of x) (rows_of states (drop byte_values cells)) (omega arith) (suc (r * row_cells + b))
    ∙ rows_next states (drop byte_values cells) r b v (omega (arith, length-drop byte_values cells)) (omega arith) short
    (at_drop byte_values cells (r * byte_values + b) ∙ rw there e))

-- the cell of its token
pub rows_token : (states : List ℕ) (cells : List (Option ℕ)) (r x : ℕ)
    → length cells ≡ byte_values * length states
    → get_elem? states r ≡ some x
    → get_or (rows_of states cells) (r * row_cells + byte_values) 0 ≡ token_of x
unfolding rows_of
rows_token [] cells r x all e = absurd (none-ne-some x e)
rows_token (y ∷ states) cells zero x all e =
    behind_front cells (token_of y) (rows_of states (drop byte_values cells)) (omega arith) 0
    ∙ ap token_of (some-injective y x e)
rows_token (y ∷ states) cells (suc r) x all e =
    let place : suc r * row_cells + byte_values ≡ byte_values + suc (r * row_cells + byte_values) = omega arith in
    rw place
    (behind_front cells (token_of y) (rows_of states (drop byte_values cells)) (omega arith) (suc (r * row_cells + byte_values))
    ∙ rows_token states (drop byte_values cells) r x (omega (arith, length-drop byte_values cells)) e)
