-- What machine cells say of a string. Document 02, W3: "a row is 256 next states, then the token, in 16-bit cells".
-- Rows are the whole 257s of the cells; a next state that names no row, and a token that is no pattern's number, count
-- as none.
use Rattle.std.specs.Prelude.{◌≡◌, List, [], ◌∷◌, ◌⊎◌, ℕ, ◌+◌, ◌*◌, ◌/◌, ◌≤◌, ◌<◌, min, length, get_or}
use Rattle.answers.specs.Limits.{most_patterns, most_states, byte_values, row_cells}

abbrev pub rows_in : List ℕ → ℕ
rows_in cells = min (length cells / row_cells) most_states

-- cell c of row r
abbrev pub cell_at : List ℕ → ℕ → ℕ → ℕ
cell_at cells r c = get_or cells (r * row_cells + c) 0

module _ (cells : List ℕ) where
  -- walking u leads from row r to row s, and each number met on the way names a row
  pub data Walk : ℕ → List ℕ → ℕ → Type 0 where
    here : {r : ℕ} → r < rows_in cells → Walk r [] r
    on : {r b s : ℕ} {u : List ℕ}
        → r < rows_in cells
        → b < byte_values
        → Walk (cell_at cells r b) u s
        → Walk r (b ∷ u) s

  -- walking u from row 0 ends at a row whose token is k
  pub record Says (k : ℕ) (u : List ℕ) : Type 0 where
    pub row : ℕ
    pub walk : Walk 0 u row
    pub token : k ≡ cell_at cells row byte_values
    pub counts : k < most_patterns

-- so many whole rows, of which each cell for a byte names one of them or none at all
pub record Closed (cells : List ℕ) (rows : ℕ) : Type 0 where
  pub some_row : 0 < rows
  pub few : rows ≤ most_states
  pub whole : length cells ≡ rows * row_cells
  pub names : (r b : ℕ) → r < rows → b < byte_values → (cell_at cells r b < rows) ⊎ (most_states ≤ cell_at cells r b)
